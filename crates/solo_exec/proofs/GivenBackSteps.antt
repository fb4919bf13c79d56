-- The steps that give blocks back are no counted calls.
use Rattle.std.proofs.Common.{◌≡◌, ℕ, All, Bool, false, cond, List, [], ◌∷◌, refl, ap, arith}
use Rattle.std.proofs.lemmas.List.Elements.{All-head, All-tail}
use Rattle.solo_crash.specs.CallBlocks.{NewObject}
use Rattle.solo_epoch.proofs.GivenAll.{none_counted as none_given}
use Rattle.solo_epoch.specs.GivingBack.{gives_back}
use Rattle.solo_view.specs.Counts.{counted, is_counted}
use Rattle.solo_view.specs.Steps.{Step}

all_uncounted : (steps : List Step) → All (λ (s : Step). is_counted s ≡ false) steps → counted steps ≡ 0
unfolding counted
all_uncounted [] each = refl
all_uncounted (s ∷ steps) each =
    let one = All-head (λ (x : Step). is_counted x ≡ false) s steps each in
    let rest = all_uncounted steps (All-tail (λ (x : Step). is_counted x ≡ false) s steps each) in
    let first : ◌≡◌ {A = ℕ} (cond (is_counted s) 1 0) 0 = ap (λ (b : Bool). cond b 1 0) one in omega (arith, first, rest)

pub gives_uncounted : (lanes : ℕ) (ns : List NewObject) → counted (gives_back lanes ns) ≡ 0
gives_uncounted lanes ns = all_uncounted (gives_back lanes ns) (none_given lanes ns)
