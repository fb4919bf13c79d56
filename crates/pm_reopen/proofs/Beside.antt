-- While a lane's log is performed, nothing changes beside its own area and the words that it is for.
use Rattle.std.proofs.Common.{◌≡◌, ◌≢◌, ◌⊎◌, ⊎_elim, inl, inr, ℕ, ◌+◌, ◌*◌, ◌<◌, ◌≤◌, All, List, [], take, length, slice_index, sym, ◌∙◌, ap, arith}
use Rattle.std.proofs.lemmas.Bool.{cases_lt}
use Rattle.std.proofs.lemmas.List.{take_all}
use Rattle.pm_record.specs.declared.redo.Redo.{Redo}
use Rattle.pm_image.specs.Logs.{all_applied, area_word}
use Rattle.pm_recover.proofs.Areas.{SameLane, same_records}
use Rattle.pm_reopen.specs.Plan.{writes}
use Rattle.pm_reopen.proofs.Less.{same_entries}
use Rattle.pm_reopen.proofs.SameWords.{SameLogsBeside}
use Rattle.pm_reopen.proofs.Surviving.{for_word}
use Rattle.pm_reopen.proofs.While.{IsHeap, IsTarget, untouched}

-- the word is of another place than the lane's area
abbrev pub IsBeside : ℕ → ℕ → Type 0
IsBeside k w = (w < area_word k) ⊎ (area_word (k + 1) ≤ w)

-- beside the lane's area each word has the first so many of the log's changes for it
pub record IsPerformed (X J : List ℕ) (lanes k : ℕ) : Type 0 where
  pub near : k < lanes
  pub areas : 512 + 1024 * lanes ≤ length X
  pub targets : All (IsTarget X lanes k) (writes X k)
  pub as_long : length J ≡ length X
  pub each : (w : ℕ) → w < length X → IsBeside k w → (n : ℕ) × (slice_index J w ≡ all_applied (take n (for_word w (writes X k))) (slice_index X w))

module _ (X J : List ℕ) (lanes k : ℕ) (p : IsPerformed X J lanes k) where
  pub stays : (w : ℕ) → w < length X → IsBeside k w → (IsHeap lanes w → ⊥) → slice_index J w ≡ slice_index X w
  stays w inside beside heap =
      let near = p.near in
      let some = p.each w inside beside in
      let none : for_word w (writes X k) ≡ [] = untouched X lanes k w (writes X k) p.targets heap (λ same. ⊎_elim (λ (low : w < area_word k). omega (arith, same, low)) (λ (high : area_word (k + 1) ≤ w). omega (arith, same, high)) beside) in
      some.1 ∙ ap (λ (es : List Redo). all_applied (take some.0 es) (slice_index X w)) none ∙ ap (λ (es : List Redo). all_applied es (slice_index X w)) (take_all some.0 [] (omega arith))

  pub page_stays : (i : ℕ) → i < 512 → i ≢ 64 → slice_index J i ≡ slice_index X i
  page_stays i low other =
      let areas = p.areas in
      stays i (omega (arith, areas, low)) (inl (omega (arith, low))) (λ heap. ⊎_elim (λ (root : i ≡ 64). other root) (λ (behind : 512 + 1024 * lanes ≤ i). omega (arith, behind, low)) heap)

  area_stays : (lane i : ℕ) → lane < lanes → lane ≢ k → area_word lane ≤ i → i < area_word (lane + 1) → slice_index X i ≡ slice_index J i
  area_stays lane i inside other from to =
      let areas = p.areas in
      sym (stays i (omega (arith, areas, inside, to))
      (⊎_elim (λ (low : lane < k). inl (omega (arith, low, to))) (λ (high : k ≤ lane). inr (omega (arith, high, other, from))) (cases_lt lane k))
      (λ heap. ⊎_elim (λ (root : i ≡ 64). omega (arith, root, from)) (λ (behind : 512 + 1024 * lanes ≤ i). omega (arith, behind, inside, to)) heap))

  pub lanes_stay : (lane : ℕ) → lane < lanes → lane ≢ k → SameLane X J lane
  lanes_stay lane inside other =
      let areas = p.areas in
      let long = p.as_long in
      record {
        log = record {
          long = omega (arith, areas, inside);
          as_long = omega (arith, areas, inside, long);
          same = λ i from to. area_stays lane i inside other (omega (arith, from)) to;
        };
        generation = area_stays lane (area_word lane) inside other (omega arith) (omega arith);
        seal = area_stays lane (area_word lane + 1) inside other (omega arith) (omega arith);
      }

  pub logs_stay : SameLogsBeside X J lanes k
  logs_stay = record {
    entries_are = λ lane inside other. sym (same_entries X J lane (lanes_stay lane inside other));
    records_are = λ lane inside other. sym (same_records X J lane (lanes_stay lane inside other));
  }
