-- The numbers of a history's entries, and of those of one lane.
use Rattle.std.proofs.Common.{◌≡◌, ℕ, zero, suc, ◌+◌, ◌<◌, Bool, true, false, cond, eqb, All, Contains, List, [], ◌∷◌, length, ap, subst, arith}
use Rattle.std.proofs.lemmas.List.Elements.{All-nil, All-cons}
use Rattle.solo_view.specs.View.{Numbered}
use Rattle.solo_world.specs.History.{Entry, AreNumbered, entries_by}

-- no entry has a number beyond the last one
pub number_upto : (n : ℕ) (log : List Entry) (e : Entry) → AreNumbered n log → Contains log e → e.number < n + length log
unfolding AreNumbered
number_upto n [] e numbered (k, inside, at) = absurd (omega arith)
number_upto n (d ∷ log) e numbered (zero, inside, at) = let first = numbered.0 in let same = ap (λ (x : Entry). x.number) at in omega arith
number_upto n (d ∷ log) e numbered (suc k, inside, at) = let rest = number_upto (n + 1) log e numbered.1 (k, omega arith, at) in omega arith

one_below : (limit lane : ℕ) (e : Entry) (entries : List Numbered) → e.number < limit → All (λ (x : Numbered). x.number < limit) entries → (b : Bool)
    → All (λ (x : Numbered). x.number < limit) (cond b (record { number = e.number; call = e.call } ∷ entries) entries)
one_below limit lane e entries low rest true = All-cons (λ (x : Numbered). x.number < limit) _ entries low rest
one_below limit lane e entries low rest false = rest

-- nor has one of a lane
pub own_below : (n lane : ℕ) (log : List Entry) → AreNumbered n log → All (λ (x : Numbered). x.number < n + length log) (entries_by lane log)
unfolding AreNumbered entries_by
own_below n lane [] numbered = All-nil (λ (x : Numbered). x.number < n + 0)
own_below n lane (e ∷ log) numbered =
    let shift : n + 1 + length log ≡ n + length (e ∷ log) = omega arith in
    let rest = subst (λ limit. All (λ (x : Numbered). x.number < limit) (entries_by lane log)) shift (own_below (n + 1) lane log numbered.1) in
    let first = numbered.0 in
    one_below (n + length (e ∷ log)) lane e (entries_by lane log) (omega arith) rest (eqb e.lane lane)
