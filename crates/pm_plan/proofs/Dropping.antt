-- A drain after a flush drops something.
use Rattle.std.proofs.Common.{◌≡◌, ℕ, zero, suc, ◌<◌, Bool, true, false, not, cond, IsTrue, List, [], ◌∷◌, length, slice_index_or, refl, ap, ◌∙◌, arith, rules}
use Rattle.std.proofs.lemmas.Bool.{cond-true}
use Rattle.pm_view.specs.Changes.{Undrained}
use Rattle.pm_view.specs.Changes.{drained, flushed, is_in_line, mark}
use Rattle.pm_view.specs.Counts.{DropsSome, FlushesSome}

drops_at : (k : ℕ) (changes : List Undrained) (c : Undrained) → k < length changes → slice_index_or changes k c ≡ c → c.flushed ≡ true → DropsSome changes
drops_at k changes c below there marked = (k, c, below, there, marked)

drops_behind : (c : Undrained) (changes : List Undrained) → DropsSome changes → DropsSome (c ∷ changes)
drops_behind c changes some = (let k : ℕ = suc some.0 in k, some.1, (let below = some.2 in omega (arith, below)), some.3, some.4)

flush_marks : (line k : ℕ) (changes : List Undrained) (c : Undrained) → k < length changes → slice_index_or changes k c ≡ c → is_in_line line c ≡ true → DropsSome (flushed line changes)
flush_marks line k [] c below there here = absurd (omega (arith, below))
flush_marks line zero (d ∷ changes) c below there here =
    let marked : mark line d ≡ record d { flushed = true } = cond-true (is_in_line line d) (record d { flushed = true }) d (ap (is_in_line line) there ∙ here) in
    drops_at 0 (flushed line (d ∷ changes)) (mark line d) (omega arith) refl (ap (λ (e : Undrained). e.flushed) marked)
flush_marks line (suc k) (d ∷ changes) c below there here = drops_behind (mark line d) (flushed line changes) (flush_marks line k changes c (omega (arith, below)) there here)

-- a flush that is not idle marks a change
pub flush_drops : (line : ℕ) (changes : List Undrained) → FlushesSome line changes → DropsSome (flushed line changes)
flush_drops line changes some = flush_marks line some.0 changes some.1 some.2 some.3 (is_true (is_in_line line some.1) some.4.0) where
  is_true : (b : Bool) → IsTrue b → b ≡ true
  is_true true t = refl
  is_true false t = absurd (search rules)

-- where a drain leaves nothing of some changes, it drops them
pub emptied_drops : (changes : List Undrained) → drained changes ≡ [] → 0 < length changes → DropsSome changes
emptied_drops [] none some = absurd (omega (arith, some))
emptied_drops (c ∷ changes) none some = drops_at 0 (c ∷ changes) c some refl (at c.flushed none) where
  at : (b : Bool) → cond (not b) (c ∷ drained changes) (drained changes) ≡ [] → b ≡ true
  at true e = refl
  at false e = absurd (search rules)
