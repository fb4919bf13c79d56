-- WHICH TEST APPLIES FIRST where a lane at work is refused a lock that it wants: by its list of locks, and by the line at which it was refused.
use Rattle.std.proofs.Common.{◌≡◌, ◌≢◌, ℕ, zero, suc, ◌+◌, ◌*◌, ◌%◌, ◌<◌, ◌≤◌, nat_le, nat_lt, Bool, true, false, not, ◌==◌, ◌&&◌, ◌||◌, List, [], ◌∷◌, ◌++◌, length, refl, sym, ap, ◌∙◌, arith, eq-eqb, ne_eqb, Option, None, Some}
use Rattle.std.specs.List.{AllByRecursion, list_any}
use Rattle.std.proofs.lemmas.Bool.{and_from, and_left, and_parts, and_right, both_ways, eqb-true, false_from_ne_true, le-leb, lt-ltb, ltb-true, or_left, or_right}
use Rattle.pm_layout.specs.declared.shape.Shape.{Shape}
use Rattle.pm_objects.specs.declared.calls.Want.{Want}
use Rattle.pm_objects.specs.declared.refusal.Refusal.TheVariants as refusal
use Rattle.pm_model.specs.Items.{is_among}
use Rattle.pm_model.specs.Refusals.{Seen, first_of}
use Rattle.pm_view.specs.View.{Constants, View}
use Rattle.pm_world.specs.LaneFields.{Standing, moved}
use Rattle.pm_world.specs.declared.lane.HeldLock.{HeldLock}
use Rattle.pm_crash.specs.Sim.{lists_of}
use Rattle.pm_lock.specs.Holding.{AreOnce}
use Rattle.pm_lock.specs.Locking.{lock_at}
use Rattle.pm_lock.specs.Objects as objects
use Rattle.pm_lock.specs.Wants.{has_unplaced, is_at_line, wants_to_write}
use Rattle.pm_lock.proofs.CanBegin.{has_header}
use Rattle.pm_call.specs.Held.{has_line, is_in_locks, line_of}
use Rattle.pm_call.specs.LockRefusals.{locking_tests}
use Rattle.pm_call.specs.Locking.{AgreesOn, locks_with, to_take, to_write}
use Rattle.pm_call.specs.WantedTried.{AreFew, IsPlaced}
use Rattle.pm_call.proofs.HeldLines.{has_lock, has_raised, has_right}
use Rattle.pm_call.proofs.LockLists.{all_locked_is, any_at, listed_is, locks_are, more_any, wants_off}
use Rattle.pm_call.proofs.LockRefusals.{first_here, first_skip}

-- ---- a lock of a list, by its place
pub has_at : (locks : List HeldLock) (k : ℕ) → k < length locks → has_lock locks (lock_at locks k).line ≡ true
has_at [] k low = absurd (omega (arith, low))
has_at (l ∷ locks) zero low = or_left (l.line == l.line) (has_lock locks l.line) (eq-eqb l.line l.line refl)
has_at (l ∷ locks) (suc k) low = or_right (l.line == (lock_at locks k).line) (has_lock locks (lock_at locks k).line) (has_at locks k (omega (arith, low)))

pub all_at : (P : HeldLock → Type 0) (locks : List HeldLock) (k : ℕ) → AllByRecursion P locks → k < length locks → P (lock_at locks k)
all_at P [] k all low = absurd (omega (arith, low))
all_at P (l ∷ locks) zero all low = all.0
all_at P (l ∷ locks) (suc k) all low = all_at P locks k all.1 (omega (arith, low))

-- no lock of another line is at this one
not_at : (line : ℕ) (write : Bool) (one two : List HeldLock) → AllByRecursion (λ (l : HeldLock). line ≢ l.line) (one ++ two) → any_at one line write ≡ false
not_at line write [] two apart = refl
not_at line write (l ∷ one) two apart = ap (λ b. b || any_at one line write) (and_left (l.line == line) (l.write || not write) (ne_eqb l.line line (λ e. apart.0 (sym e)))) ∙ not_at line write one two apart.1

skips : (l : HeldLock) (line : ℕ) (write : Bool) (more : List HeldLock) → l.line ≢ line → any_at more line write ≡ false → any_at (l ∷ more) line write ≡ false
skips l line write more ne rest = ap (λ b. b || any_at more line write) (and_left (l.line == line) (l.write || not write) (ne_eqb l.line line ne)) ∙ rest

all_right : (P : HeldLock → Type 0) (one two : List HeldLock) → AllByRecursion P (one ++ two) → AllByRecursion P two
all_right P [] two all = all
all_right P (l ∷ one) two all = all_right P one two all.1

-- none of the first list is at the line of one of the second
pub none_before : (one two : List HeldLock) (k : ℕ) (write : Bool) → AreOnce (one ++ two) → k < length two → any_at one (lock_at two k).line write ≡ false
none_before [] two k write once low = refl
none_before (l ∷ one) two k write once low = skips l (lock_at two k).line write one (all_at (λ (m : HeldLock). l.line ≢ m.line) two k (all_right (λ (m : HeldLock). l.line ≢ m.line) one two once.0) low)
    (none_before one two k write once.1 low)

-- nor is one of the first list for writing at the line of one of both that is for reading
pub none_writes : (one two : List HeldLock) (k : ℕ) → AreOnce (one ++ two) → k < length (one ++ two) → (lock_at (one ++ two) k).write ≡ false → any_at one (lock_at (one ++ two) k).line true ≡ false
none_writes [] two k once low reads = refl
none_writes (l ∷ one) two zero once low reads = ap (λ b. b || any_at one l.line true) (and_right (l.line == l.line) (l.write || false) (ap (λ w. w || false) reads)) ∙ not_at l.line true one two once.0
none_writes (l ∷ one) two (suc k) once low reads = skips l (lock_at (one ++ two) k).line true one (all_at (λ (m : HeldLock). l.line ≢ m.line) (one ++ two) k once.0 (omega (arith, low)))
    (none_writes one two k once.1 (omega (arith, low)) reads)

-- ---- the offset of the object under a line's lock
line_at : (line : ℕ) → line_of (64 * line + 64) ≡ line
line_at line = omega arith

pub not_in : (locks : List HeldLock) (line : ℕ) (write : Bool) → any_at locks line write ≡ false → is_in_locks locks (64 * line + 64) write ≡ false
not_in locks line write none = and_right (has_line (64 * line + 64)) (any_at locks (line_of (64 * line + 64)) write) (ap (λ n. any_at locks n write) (line_at line) ∙ none)

-- what is to be written under a lock is wanted so
pub written_wanted : (sh : Shape) (pool : ℕ) (wants : List Want) (line : ℕ) → wants_to_write sh pool wants line ≡ true → wants_off wants (64 * line + 64) true ≡ true
written_wanted sh pool wants line = more_any (λ (want : Want). want.write && is_at_line (objects.line_of sh pool want.id) line) (λ (want : Want). want.id.off == 64 * line + 64 && (want.write || false)) wants
    (λ want e. let t = and_parts want.write (is_at_line (objects.line_of sh pool want.id) line) e in
    and_from (want.id.off == 64 * line + 64) (want.write || false) (eq-eqb want.id.off (64 * line + 64) (has_header sh pool line want.id (at_line (objects.line_of sh pool want.id) t.1)).before) (or_left want.write false t.0))
  where
    at_line : (o : Option ℕ) → is_at_line o line ≡ true → o ≡ Some line
    at_line None e = absurd (both_ways false refl e)
    at_line (Some other) e = ap (λ n. Some n) (eqb-true other line e)

module _ (s : Standing) (wants : List Want) where
  -- ---- a lock that is wanted, and is not in the list so, is to be tried
  pub is_tried : (off : ℕ) (write : Bool) → ((w : Bool) → (w || not write) ≡ true → is_in_locks s.locks off w ≡ false) → wants_off wants off write ≡ true
      → list_any (λ (want : Want). not (is_in_locks s.locks want.id.off want.write)) wants ≡ true
  is_tried off write none = more_any (λ (want : Want). want.id.off == off && (want.write || not write)) (λ (want : Want). not (is_in_locks s.locks want.id.off want.write)) wants
      (λ want e. let t = and_parts (want.id.off == off) (want.write || not write) e in ap not (ap (λ o. is_in_locks s.locks o want.write) (eqb-true want.id.off off t.0) ∙ none want.write t.1))

  pub is_missing : (off : ℕ) → is_in_locks s.locks off false ≡ false → wants_off wants off false ≡ true
      → list_any (λ (want : Want). not (is_in_locks s.locks want.id.off false) && is_among (off ∷ []) want.id.off) wants ≡ true
  is_missing off none = more_any (λ (want : Want). want.id.off == off && (want.write || true)) (λ (want : Want). not (is_in_locks s.locks want.id.off false) && is_among (off ∷ []) want.id.off) wants
      (λ want e. let same = eqb-true want.id.off off (and_parts (want.id.off == off) (want.write || true) e).0 in
      and_from (not (is_in_locks s.locks want.id.off false)) (is_among (off ∷ []) want.id.off) (ap not (ap (λ o. is_in_locks s.locks o false) same ∙ none)) (or_left (off == want.id.off) false (eq-eqb off want.id.off (sym same))))

  -- ---- THE FIRST TEST
  few_so : AreFew s wants → nat_lt 64 (length s.locks + length (to_take s wants)) ≡ false
  few_so few = false_from_ne_true (nat_lt 64 (length s.locks + length (to_take s wants))) (λ e. let l = ltb-true 64 (length s.locks + length (to_take s wants)) e in omega (arith, l, few))

  pub full_first : (seen : Seen) → 64 < length s.locks + length (to_take s wants) → first_of (locking_tests seen s wants) ≡ Some refusal.LocksFull
  full_first seen many = first_here _ _ (lt-ltb 64 (length s.locks + length (to_take s wants)) many)

  pub unplaced_first : (seen : Seen) → AreFew s wants → has_unplaced s.view.fixed.shape s.view.fixed.pool wants ≡ true → first_of (locking_tests seen s wants) ≡ Some refusal.NoObject
  unplaced_first seen few some = first_skip _ _ (few_so few) ∙ first_here _ _ some

  pub busy_first : (seen : Seen) → seen.busy ≡ true → AreFew s wants → IsPlaced s wants → list_any (λ (want : Want). not (is_in_locks s.locks want.id.off want.write)) wants ≡ true
      → first_of (locking_tests seen s wants) ≡ Some refusal.Busy
  busy_first seen busy few placed tried = first_skip _ _ (few_so few) ∙ (first_skip _ _ placed ∙ first_here _ _ (and_from (list_any (λ (want : Want). not (is_in_locks s.locks want.id.off want.write)) wants) seen.busy tried busy))

  pub missing_first : (seen : Seen) → seen.busy ≡ false → AreFew s wants → IsPlaced s wants → list_any (λ (want : Want). not (is_in_locks s.locks want.id.off false) && is_among seen.missing want.id.off) wants ≡ true
      → first_of (locking_tests seen s wants) ≡ Some refusal.NoObject
  missing_first seen busy few placed missing = first_skip _ _ (few_so few) ∙ (first_skip _ _ placed ∙ (first_skip _ _ (and_right (list_any (λ (want : Want). not (is_in_locks s.locks want.id.off want.write)) wants) seen.busy busy) ∙ first_here _ _ missing))

  -- so it is at each view of the pool
  pub tests_at : (seen : Seen) (x : View) → x.fixed ≡ s.view.fixed → locking_tests seen (moved s x) wants ≡ locking_tests seen s wants
  tests_at seen x fixed = ap (λ (f : Constants). locking_tests seen (moved s (record s.view { fixed = f })) wants) fixed

  -- ---- each lock that it is to take is wanted, and not in the list
  module _ (lists : AgreesOn s (lists_of s.view)) (placed : IsPlaced s wants) (once : AreOnce (s.locks ++ to_take s wants)) (k : ℕ) (low : k < length (to_take s wants)) (high : 1 ≤ (lock_at (to_take s wants) k).line) where
    abbrev line : ℕ
    line = (lock_at (to_take s wants) k).line

    abbrev off : ℕ
    off = 64 * (lock_at (to_take s wants) k).line + 64

    pub unlisted : (write : Bool) → is_in_locks s.locks off write ≡ false
    unlisted write = not_in s.locks line write (none_before s.locks (to_take s wants) k write once low)

    listed_then : is_in_locks (locks_with s wants) off false ≡ true
    listed_then = and_from (has_line off) (any_at (locks_with s wants) (line_of off) false)
        (and_from (off % 64 == 0) (nat_le 128 off) (eq-eqb (off % 64) 0 (omega arith)) (le-leb 128 off (omega (arith, high))))
        (ap (λ n. any_at (locks_with s wants) n false) (line_at line) ∙ (listed_is (locks_with s wants) line
        ∙ or_left (has_lock (locks_with s wants) line) false (has_raised (to_write s wants) (s.locks ++ to_take s wants) line ∙ has_right s.locks (to_take s wants) line (has_at (to_take s wants) k low))))

    pub is_wanted : wants_off wants off false ≡ true
    is_wanted = ap (λ b. b || wants_off wants off false) (sym (lists.locks off false ∙ unlisted false)) ∙ (sym (all_locked_is wants (lists_of s.view).locks off false)
        ∙ (locks_are s.view.fixed.shape s.view.fixed.pool s.locks wants placed (lists_of s.view).locks lists.locks off false ∙ listed_then))
