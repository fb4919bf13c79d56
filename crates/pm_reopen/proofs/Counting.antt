-- How many changes are undrained after calls, and how many words there are.
use Rattle.std.proofs.Common.{◌≡◌, ℕ, zero, suc, ◌+◌, ◌/◌, ◌≤◌, ◌<◌, Bool, true, false, cond, not, List, [], ◌∷◌, ◌++◌, length, map, length-append, length-set, refl, ◌∙◌, ap, subst, arith}
use Rattle.std.specs.List.{flat_map, range_with_len}
use Rattle.std.proofs.lemmas.List.{length-map}
use Rattle.pm_image.proofs.Ranges.{parts_more}
use Rattle.pm_record.specs.declared.redo.Redo.{Redo}
use Rattle.pm_record.specs.declared.redo.Op.{Op}
use Rattle.pm_record.specs.declared.redo.Op.TheVariants as op
use Rattle.pm_view.specs.declared.change.Change.{Change as ChangeOf}
use Rattle.pm_memory.specs.Changes.{change_flushed, changes_drained}
use Rattle.pm_memory.specs.Solo.{Solo}
use Rattle.pm_reopen.specs.Plan.{MemoryCall}
use Rattle.pm_reopen.specs.Plan.MemoryCall.{Change, Flush, Drain}
use Rattle.pm_reopen.specs.Running.{Makes, after_call, after_change}

-- how many of these calls are changes
abbrev changes_one : MemoryCall → ℕ
changes_one (Change e) = 1
changes_one (Flush line) = 0
changes_one Drain = 0

unfoldable pub changes_in : List MemoryCall → ℕ
changes_in [] = 0
changes_in (c ∷ calls) = changes_one c + changes_in calls

pub changes_in-append : (xs ys : List MemoryCall) → changes_in (xs ++ ys) ≡ changes_in xs + changes_in ys
unfolding changes_in
changes_in-append [] ys = let same : changes_in ys ≡ 0 + changes_in ys = omega arith in same
changes_in-append (x ∷ xs) ys = let rest = changes_in-append xs ys in omega (arith, rest)

pub changes_in-map : (es : List Redo) → changes_in (map Change es) ≡ length es
unfolding changes_in
changes_in-map [] = refl
changes_in-map (e ∷ es) = let rest = changes_in-map es in omega (arith, rest)

-- parts of so many changes each
pub parts_many : (f : ℕ → List MemoryCall) (b : ℕ → ℕ) (k : ℕ) → ((j : ℕ) → j < k → changes_in (f j) + b j ≤ b (j + 1)) → changes_in (flat_map f (range_with_len 0 k)) ≤ b k
unfolding changes_in
parts_many f b zero each = omega arith
parts_many f b (suc k) each =
    let next : k + 1 ≡ suc k = omega arith in
    let before : changes_in (flat_map f (range_with_len 0 k)) ≤ b k = parts_many f b k (λ j near. each j (omega (arith, near))) in
    let here : changes_in (f k) + b k ≤ b (k + 1) = each k (omega arith) in
    let both : changes_in (flat_map f (range_with_len 0 (k + 1))) ≡ changes_in (flat_map f (range_with_len 0 k)) + changes_in (f k) =
    ap changes_in (parts_more f k) ∙ changes_in-append (flat_map f (range_with_len 0 k)) (f k) in
    subst (λ (n : ℕ). changes_in (flat_map f (range_with_len 0 n)) ≤ b n) next (omega (arith, before, here, both))

fewer : (changes : List ChangeOf) → length (changes_drained changes) ≤ length changes
fewer [] = omega arith
fewer (c ∷ changes) = one (not c.flushed) (fewer changes) where
  one : (b : Bool) → length (changes_drained changes) ≤ length changes → length (cond b (c ∷ changes_drained changes) (changes_drained changes)) ≤ suc (length changes)
  one true rest = omega (arith, rest)
  one false rest = omega (arith, rest)

one_many : (o : Op) (m : Solo) (w x : ℕ) → length (after_change o m w x).changes ≡ length m.changes + 1
one_many op.Set m w x = length-append m.changes _
one_many op.Or m w x = length-append m.changes _
one_many op.And m w x = length-append m.changes _

call_many : (m : Solo) (c : MemoryCall) → length (after_call m c).changes ≤ changes_one c + length m.changes
call_many m (Change e) = let one = one_many e.op m (e.place / 8) e.value in omega (arith, one)
call_many m (Flush line) = let same = length-map m.changes (change_flushed line) in omega (arith, same)
call_many m Drain = let rest = fewer m.changes in omega (arith, rest)

pub makes_many : (a b : Solo) (xs : List MemoryCall) → Makes a b xs → length b.changes ≤ length a.changes + changes_in xs
unfolding Makes changes_in
makes_many a b [] is = let same = ap (λ (m : Solo). length m.changes) is in omega (arith, same)
makes_many a b (x ∷ xs) is =
    let rest = makes_many (after_call a x) b xs is.1 in
    let one = call_many a x in
    omega (arith, rest, one)

one_long : (o : Op) (m : Solo) (w x : ℕ) → length (after_change o m w x).words ≡ length m.words
one_long op.Set m w x = length-set m.words w _
one_long op.Or m w x = length-set m.words w _
one_long op.And m w x = length-set m.words w _

pub call_long : (m : Solo) (c : MemoryCall) → length (after_call m c).words ≡ length m.words
call_long m (Change e) = one_long e.op m (e.place / 8) e.value
call_long m (Flush line) = refl
call_long m Drain = refl

pub makes_long : (a b : Solo) (xs : List MemoryCall) → Makes a b xs → length b.words ≡ length a.words
unfolding Makes
makes_long a b [] is = ap (λ (m : Solo). length m.words) is
makes_long a b (x ∷ xs) is = makes_long (after_call a x) b xs is.1 ∙ call_long a x

-- changes alone add as many
pub changes_many : (a b : Solo) (es : List Redo) → Makes a b (map Change es) → length b.changes ≡ length a.changes + length es
unfolding Makes
changes_many a b [] is = let same = ap (λ (m : Solo). length m.changes) is in omega (arith, same)
changes_many a b (e ∷ es) is =
    let rest = changes_many (after_call a (Change e)) b es is.1 in
    let one = one_many e.op a (e.place / 8) e.value in
    omega (arith, rest, one)
