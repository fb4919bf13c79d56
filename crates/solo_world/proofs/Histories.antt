-- Entries of a numbered history.
use Rattle.std.proofs.Common.{◌≡◌, ℕ, zero, suc, ◌+◌, ◌≤◌, Contains, List, [], ◌∷◌, sym, ap, ◌∙◌, arith}
use Rattle.solo_world.specs.History.{Entry, AreNumbered}

-- no entry has a number below the first one
pub number_from : (n : ℕ) (log : List Entry) (e : Entry) → AreNumbered n log → Contains log e → n ≤ e.number
unfolding AreNumbered
number_from n [] e numbered (k, inside, at) = absurd (omega arith)
number_from n (d ∷ log) e numbered (zero, inside, at) = let first = numbered.0 in let same = ap (λ (x : Entry). x.number) at in omega arith
number_from n (d ∷ log) e numbered (suc k, inside, at) = let rest = number_from (n + 1) log e numbered.1 (k, omega arith, at) in omega arith

-- two entries of one number are one
pub one_entry : (n : ℕ) (log : List Entry) (e d : Entry) → AreNumbered n log → Contains log e → Contains log d → e.number ≡ d.number → e ≡ d
unfolding AreNumbered
one_entry n [] e d numbered (k, inside, at) there same = absurd (omega arith)
one_entry n (c ∷ log) e d numbered (zero, inside, at) (zero, inside', at') same = sym at ∙ at'
one_entry n (c ∷ log) e d numbered (zero, inside, at) (suc k, inside', at') same =
    let later = number_from (n + 1) log d numbered.1 (k, omega arith, at') in let first = numbered.0 in let here = ap (λ (x : Entry). x.number) at in absurd (omega arith)
one_entry n (c ∷ log) e d numbered (suc k, inside, at) (zero, inside', at') same =
    let later = number_from (n + 1) log e numbered.1 (k, omega arith, at) in let first = numbered.0 in let here = ap (λ (x : Entry). x.number) at' in absurd (omega arith)
one_entry n (c ∷ log) e d numbered (suc k, inside, at) (suc j, inside', at') same = one_entry (n + 1) log e d numbered.1 (k, omega arith, at) (j, omega arith, at') same
