-- A memory's undrained changes and those of a view, a call at a time: the memory has the oldest
-- first, the view the latest.
use Rattle.std.proofs.Common.{◌≡◌, ℕ, ◌+◌, ◌/◌, Bool, true, false, not, ◌&&◌, ◌||◌, cond, eqb, List, [], ◌∷◌, ◌++◌, length, Option, Some, None, refl, sym, ap, ◌∙◌, subst, arith, length-append}
use Rattle.std.proofs.lemmas.List.{map-append, append-nil}
use Rattle.std.proofs.lemmas.List.Elements.{filter-append}
use Rattle.std.proofs.lemmas.List.Folds.{list_any-append}
use Rattle.pm_view.specs.declared.change.Change.{Change}
use Rattle.pm_view.specs.Changes.{Undrained, IsUndrained, is_in_line, mark, flushed, drained}
use Rattle.pm_view.specs.Counts.{is_unflushed, IsFirstUnflushed}
use Rattle.pm_memory.specs.Changes.{lies_in, change_flushed, changes_flushed, changes_drained, has_unflushed, IsLeastUnflushed, AreUndrained}

pub undrained-length : (changes : List Change) (seen : List Undrained) → AreUndrained changes seen → length changes ≡ length seen
undrained-length changes [] are = ap length are
undrained-length changes (u ∷ seen) are =
    let one : length changes ≡ length are.0 + 1 = ap length are.2 ∙ length-append are.0 (are.1 ∷ []) in
    let rest : length are.0 ≡ length seen = undrained-length are.0 seen are.4 in
    omega arith

-- a flush of a line
undrained-marked : (line : ℕ) (c : Change) (u : Undrained) → IsUndrained c u → IsUndrained (change_flushed line c) (mark line u)
undrained-marked line c u is =
    let same : eqb (c.word / 8) line ≡ eqb (u.word / 8) line = ap (λ w. eqb (w / 8) line) is.word in
    subst (λ b. IsUndrained (change_flushed line c) (cond b (record u { flushed = true }) u)) same
    (elim (eqb (c.word / 8) line) as (λ b. IsUndrained (cond b (record c { flushed = true }) c) (cond b (record u { flushed = true }) u)) [
      | true ↦ record { word = is.word; mask = is.mask; flushed = refl; old = is.old }
      | false ↦ is
    ])

pub undrained-flushed : (line : ℕ) (changes : List Change) (seen : List Undrained) → AreUndrained changes seen → AreUndrained (changes_flushed line changes) (flushed line seen)
undrained-flushed line changes [] are = ap (changes_flushed line) are
undrained-flushed line changes (u ∷ seen) are = (
  changes_flushed line are.0,
  change_flushed line are.1,
  ap (changes_flushed line) are.2 ∙ map-append (change_flushed line) are.0 (are.1 ∷ []),
  undrained-marked line are.1 u are.3,
  undrained-flushed line are.0 seen are.4,
)

-- a drain
undrained-kept : (b : Bool) (left changes : List Change) (c : Change) (u : Undrained) (seen : List Undrained) → left ≡ changes ++ cond (not b) (c ∷ []) [] → IsUndrained c u → AreUndrained changes seen → AreUndrained left (cond (not b) (u ∷ seen) seen)
undrained-kept false left changes c u seen is one are = (changes, c, is, one, are)
undrained-kept true left changes c u seen is one are = subst (λ (cs : List Change). AreUndrained cs seen) (sym (is ∙ append-nil changes)) are

pub undrained-drained : (changes : List Change) (seen : List Undrained) → AreUndrained changes seen → AreUndrained (changes_drained changes) (drained seen)
undrained-drained changes [] are = ap changes_drained are
undrained-drained changes (u ∷ seen) are =
    let split : changes_drained changes ≡ changes_drained are.0 ++ cond (not are.1.flushed) (are.1 ∷ []) [] = ap changes_drained are.2 ∙ filter-append (λ (d : Change). not d.flushed) are.0 (are.1 ∷ []) in
    let same : changes_drained changes ≡ changes_drained are.0 ++ cond (not u.flushed) (are.1 ∷ []) [] = split ∙ ap (λ b. changes_drained are.0 ++ cond (not b) (are.1 ∷ []) []) are.3.flushed in
    undrained-kept u.flushed (changes_drained changes) (changes_drained are.0) are.1 u (drained seen) same are.3 (undrained-drained are.0 seen are.4)

-- the same lines have unflushed changes
turned : (a b : Bool) → (a || (b || false)) ≡ (b || a)
turned true true = refl
turned true false = refl
turned false true = refl
turned false false = refl

pub undrained-unflushed : (line : ℕ) (changes : List Change) (seen : List Undrained) → AreUndrained changes seen → has_unflushed changes line ≡ is_unflushed seen line
undrained-unflushed line changes [] are = ap (λ (cs : List Change). has_unflushed cs line) are
undrained-unflushed line changes (u ∷ seen) are =
    let test : Change → Bool = λ c. lies_in line c && not c.flushed in
    let here : test are.1 ≡ (is_in_line line u && not u.flushed) = ap (λ w. eqb (w / 8) line && not are.1.flushed) are.3.word ∙ ap (λ b. is_in_line line u && not b) are.3.flushed in
    ap (λ (cs : List Change). has_unflushed cs line) are.2
    ∙ (list_any-append test are.0 (are.1 ∷ [])
    ∙ (turned (has_unflushed are.0 line) (test are.1)
    ∙ (ap (λ b. b || has_unflushed are.0 line) here ∙ ap (λ b. (is_in_line line u && not u.flushed) || b) (undrained-unflushed line are.0 seen are.4))))

pub first-unflushed : (changes : List Change) (seen : List Undrained) (first : Option ℕ) → AreUndrained changes seen → IsLeastUnflushed changes first → IsFirstUnflushed seen first
first-unflushed changes seen None are least = λ line. sym (undrained-unflushed line changes seen are) ∙ least line
first-unflushed changes seen (Some line) are least = (
  sym (undrained-unflushed line changes seen are) ∙ least.0,
  λ other less. sym (undrained-unflushed other changes seen are) ∙ least.1 other less,
)
