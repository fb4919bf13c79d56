-- The stop numbers of lanes, set one after another.
use Rattle.std.proofs.Common.{◌≡◌, ℕ, ◌<◌, ◌≤◌, List, length, get_or, replicate, Option, None, ap, ◌∙◌, arith}
use Rattle.std.proofs.lemmas.List.{get_or-replicate, length-replicate}
use Rattle.pm_script.specs.Stops.{stop_of}

-- of 32 lanes the first k have theirs, and the others none
pub record AreSet (given : List (ℕ × ℕ)) (stops : List (Option ℕ)) (k : ℕ) : Type 0 where
  pub count : length stops ≡ 32
  pub each : (lane : ℕ) → lane < k → get_or stops lane None ≡ stop_of lane given
  pub rest : (lane : ℕ) → k ≤ lane → lane < 32 → get_or stops lane None ≡ None

pub none_set : (given : List (ℕ × ℕ)) (stops : List (Option ℕ)) → stops ≡ replicate 32 None → AreSet given stops 0
none_set given stops is = record {
  count = ap (λ (l : List (Option ℕ)). length l) is ∙ length-replicate {A = Option ℕ} 32 None;
  each = λ lane low. absurd (omega (arith, low));
  rest = λ lane high low. ap (λ (l : List (Option ℕ)). get_or l lane None) is ∙ get_or-replicate 32 lane None None low;
}
