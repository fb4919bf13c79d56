-- NO FLUSH AND NO DRAIN IS IDLE: a flush marks a change that was unmarked, and a drain drops one
-- that was marked. A store makes one change.
use Rattle.std.proofs.Common.{◌≡◌, ℕ, zero, suc, ◌+◌, ◌<◌, ◌≤◌, Bool, true, false, not, cond, IsTrue, List, [], ◌∷◌, length, take, slice_index_or, refl, ap, ◌∙◌, arith}
use Rattle.pm_view.specs.Changes.{Undrained, drained, flushed, is_in_line, mark}
use Rattle.pm_view.specs.Counts.{among, counted, is_counted, is_drain, is_flush, is_store}
use Rattle.pm_view.specs.Log.{Phase, Idle}
use Rattle.pm_view.specs.Steps.{Step}
use Rattle.pm_view.specs.Steps.Step.{Flush, Drain, Occupy, NumberSeen, Store, Or, And}
use Rattle.pm_view.specs.View.{View}
use Rattle.pm_view.specs.Views.{after, after_all, begun}
use Rattle.pm_world.specs.Lawful.{Allowed}
use Rattle.pm_plan.specs.Plans.{Ready}
use Rattle.pm_call.specs.Stores.{CountedCallsAreThree, DrainsAreFew, FlushesAreFew}

-- ---- OF CHANGES

-- 1 where it is true
abbrev one_if : Bool → ℕ
one_if b = cond b 1 0

at_most_one : (b : Bool) → one_if b ≤ 1
at_most_one true = omega arith
at_most_one false = omega arith

-- how many no flush has marked: those that a drain leaves
abbrev unmarked : List Undrained → ℕ
unmarked changes = length (drained changes)

unmarked_more : (c : Undrained) (changes : List Undrained)
    → unmarked (c ∷ changes) ≡ one_if (not c.flushed) + unmarked changes
unmarked_more c changes = by (not c.flushed)
  where
    by : (b : Bool) → length (cond b (c ∷ drained changes) (drained changes))
        ≡ one_if b + length (drained changes)
    by true = omega arith
    by false = omega arith

-- a flush of a line unmarks none, and marks one that is there
mark_less : (line : ℕ) (c : Undrained) → one_if (not (mark line c).flushed) ≤ one_if (not c.flushed)
mark_less line c = by (is_in_line line c)
  where
    by : (b : Bool) → one_if (not (cond b (record c { flushed = true }) c).flushed)
        ≤ one_if (not c.flushed)
    by true = omega arith
    by false = omega arith

flush_less : (line : ℕ) (changes : List Undrained)
    → unmarked (flushed line changes) ≤ unmarked changes
flush_less line [] = omega arith
flush_less line (c ∷ changes) = omega (
  arith,
  mark_less line c,
  flush_less line changes,
  unmarked_more c changes,
  unmarked_more (mark line c) (flushed line changes),
)

flush_at : (line k : ℕ) (changes : List Undrained) (c : Undrained) → k < length changes
    → slice_index_or changes k c ≡ c → IsTrue (is_in_line line c) × (c.flushed ≡ false)
    → unmarked (flushed line changes) + 1 ≤ unmarked changes
flush_at line k [] c below there here = absurd (omega (arith, below))
flush_at line zero (d ∷ changes) c below there here =
    let now : one_if (not (mark line d).flushed) ≡ 0 =
    ap (λ (e : Undrained). one_if (not (mark line e).flushed)) there
    ∙ ap (λ b. one_if (not (cond b (record c { flushed = true }) c).flushed)) here.0 in
    let then : one_if (not d.flushed) ≡ 1 = ap (λ (e : Undrained). one_if (not e.flushed)) there
    ∙ ap (λ b. one_if (not b)) here.1 in
    omega (
      arith,
      now,
      then,
      flush_less line changes,
      unmarked_more d changes,
      unmarked_more (mark line d) (flushed line changes),
    )
flush_at line (suc k) (d ∷ changes) c below there here =
    let rest = flush_at line k changes c (omega (arith, below)) there here in
    omega (
      arith,
      mark_less line d,
      rest,
      unmarked_more d changes,
      unmarked_more (mark line d) (flushed line changes),
    )

-- a drain drops one that is marked
drop_less : (changes : List Undrained) → unmarked changes ≤ length changes
drop_less [] = omega arith
drop_less (c ∷ changes) =
    omega (arith, at_most_one (not c.flushed), drop_less changes, unmarked_more c changes)

drop_at : (k : ℕ) (changes : List Undrained) (c : Undrained) → k < length changes
    → slice_index_or changes k c ≡ c → c.flushed ≡ true → unmarked changes + 1 ≤ length changes
drop_at k [] c below there marked = absurd (omega (arith, below))
drop_at zero (d ∷ changes) c below there marked =
    let now : one_if (not d.flushed) ≡ 0 = ap (λ (e : Undrained). one_if (not e.flushed)) there
    ∙ ap (λ b. one_if (not b)) marked in
    omega (arith, now, drop_less changes, unmarked_more d changes)
drop_at (suc k) (d ∷ changes) c below there marked =
    let rest = drop_at k changes c (omega (arith, below)) there marked in
    omega (arith, at_most_one (not d.flushed), rest, unmarked_more d changes)

same_many : (line : ℕ) (changes : List Undrained) → length (flushed line changes) ≡ length changes
same_many line [] = refl
same_many line (c ∷ changes) = ap suc (same_many line changes)

-- ---- OF STEPS

begun_same : (phase : Phase) (v : View) → (begun phase v).changes ≡ v.changes
begun_same Idle v = refl
begun_same phase v = refl

-- so many flushes, and drains, are owed to so many stores, and to the changes before
record AreOwed (v w : View) (stores flushes drains : ℕ) : Type 0 where
  marks : flushes + unmarked w.changes ≤ stores + unmarked v.changes
  drops : drains + length w.changes ≤ stores + length v.changes

one_is_owed : (v : View) (s : Step) → Allowed v s
    → AreOwed v (after v s) (one_if (is_store s)) (one_if (is_flush s)) (one_if (is_drain s))
one_is_owed v (Flush line) may = record {
  marks = let less = flush_at line may.0 v.changes may.1 may.2 may.3 may.4 in omega (arith, less);
  drops = let same = same_many line v.changes in omega (arith, same);
}
one_is_owed v Drain may = record {
  marks = let less = drop_less (drained v.changes) in omega (arith, less);
  drops = let less = drop_at may.0 v.changes may.1 may.2 may.3 may.4 in omega (arith, less);
}
one_is_owed v (NumberSeen n) may = record {
  marks = let same = ap unmarked (begun_same v.log.phase v) in omega (arith, same);
  drops = let same = ap length (begun_same v.log.phase v) in omega (arith, same);
}
one_is_owed v (Occupy at bits true) may = record { marks = omega arith; drops = omega arith }
one_is_owed v s may = record { marks = omega arith; drops = omega arith }

first_are_owed : (v : View) (k : ℕ) (steps : List Step) → Ready v steps
    → AreOwed v (after_all v (take k steps)) (among is_store (take k steps))
    (among is_flush (take k steps)) (among is_drain (take k steps))
unfolding Ready among after_all
first_are_owed v zero steps ready = record { marks = omega arith; drops = omega arith }
first_are_owed v (suc k) [] ready = record { marks = omega arith; drops = omega arith }
first_are_owed v (suc k) (s ∷ steps) ready =
    let one = one_is_owed v s ready.0 in
    let rest = first_are_owed (after v s) k steps ready.2 in
    record {
      marks = omega (arith, one.marks, rest.marks);
      drops = omega (arith, one.drops, rest.drops);
    }

-- THE LAWS
pub flushes_are_few : FlushesAreFew
flushes_are_few v steps k none ready =
    let owed = (first_are_owed v k steps ready).marks in
    let before = ap unmarked none in
    omega (arith, owed, before)

pub drains_are_few : DrainsAreFew
drains_are_few v steps k none ready =
    let owed = (first_are_owed v k steps ready).drops in
    let before = ap length none in
    omega (arith, owed, before)

pub counted_calls_are_three : CountedCallsAreThree
unfolding among counted
counted_calls_are_three [] = refl
counted_calls_are_three (s ∷ steps) =
    let one = by s in
    let rest = counted_calls_are_three steps in
    omega (arith, one, rest)
  where
    by : (s : Step)
        → one_if (is_counted s) ≡ one_if (is_store s) + one_if (is_flush s) + one_if (is_drain s)
    by (Store w x) = refl
    by (Or w bits found) = refl
    by (And w bits found) = refl
    by (Flush line) = refl
    by s = refl
