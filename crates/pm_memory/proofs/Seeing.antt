-- How the view of lane 0 follows its memory, a memory call at a time: `m` is the memory before,
-- `k` the memory with the call counted, `n` the memory after.
use Rattle.std.proofs.Common.{◌≡◌, ℕ, suc, ◌+◌, ◌-◌, ◌/◌, ◌%◌, ◌^◌, ◌<◌, ◌≤◌, bit_and, bit_or, Bool, true, false, cond, List, ◌∷◌, length, length-set, slice_index, set, Option, Some, None, IsSomeAnd, IfSome, Result, Ok, Err, IsErr, refl, sym, ap, ◌∙◌, subst, arith, rules}
use Rattle.std.specs.Option.{ForSome, option_map}
use Rattle.std.proofs.lemmas.Nat.{and_mask}
use Rattle.pm_layout.specs.declared.shape.Shape.{Shape}
use Rattle.pm_view.specs.declared.change.Change.{Change}
use Rattle.pm_view.specs.Bits.{all_bits}
use Rattle.pm_view.specs.Changes.{Undrained, store_change, or_change, and_change, flushed, drained}
use Rattle.pm_view.specs.Claims.{Claim, Knows, Drained, class, locked, reads}
use Rattle.pm_view.specs.Counts.{MayCount, IsAtStop}
use Rattle.pm_view.specs.Founds.{FindsKnown}
use Rattle.pm_view.specs.Log.{Log, Phase, Idle, Open, Drawn, Sealing, Applying, Clearing, Retiring, Voiding, log_stored, log_changed}
use Rattle.pm_view.specs.Parts.{Part, GenerationPart, SealPart, EntryPart, SlotPart, RootPart, DescriptorPart, ChunkPart, OtherPart}
use Rattle.pm_view.specs.Steps.{Step}
use Rattle.pm_view.specs.Steps.Step.{Load, Store, Or, And, Flush, Drain}
use Rattle.pm_view.specs.View.{View}
use Rattle.pm_view.specs.Views.{after, changed_from, learned, part_in, value_in, was_of, was_in, shape_of, marked_by, claims_drained, log_left}
use Rattle.pm_memory.specs.Changes.{changes_flushed, changes_drained, AreUndrained}
use Rattle.pm_memory.specs.Runs.{AnyStep, MadeOrStopped}
use Rattle.pm_memory.specs.Solo.{Solo, Sees, AreKnown, AreLocked, IsLockWord, IsCount, IsDue, IsSpent, counted, with_change, says_stopped}
use Rattle.pm_memory.specs.declared.lane_mem.Stopped.{Stopped}
use Rattle.pm_memory.proofs.Growing.{Grows, grows_none, grows_seen, grows_marked, grows_drained, known_loaded, known_stored, known_grown}
use Rattle.pm_memory.proofs.Undrained.{undrained-flushed, undrained-drained}

-- the locks are held as before
pub locks_same : (old new : List Claim) (locks : List ℕ) → ((l : ℕ) → locked new l ≡ locked old l) → ((l : ℕ) → reads new l ≡ reads old l) → AreLocked old locks → AreLocked new locks
locks_same old new locks writes reading are line inside =
    subst (λ b. IsLockWord b (reads new line) (slice_index locks line)) (sym (writes line)) (subst (λ b. IsLockWord (locked old line) b (slice_index locks line)) (sym (reading line)) (are line inside))

-- ---- loads

record Learns (sh : Shape) (words : List ℕ) (old new : List Claim) : Type 0 where
  locked_is : (l : ℕ) → locked new l ≡ locked old l
  reads_is : (l : ℕ) → reads new l ≡ reads old l
  known : AreKnown sh new words

learns_word : (sh : Shape) (part : Part) (words : List ℕ) (w x : ℕ) (t : List Claim) → AreKnown sh t words → slice_index words w ≡ x → Learns sh words t (learned Idle part w x t)
learns_word sh part words w x t known is =
    let grows = grows_seen sh part x t in
    record { locked_is = grows.locked_is; reads_is = grows.reads_is; known = known_loaded sh words w x t _ grows known is }

learns_nothing : (sh : Shape) (words : List ℕ) (t : List Claim) → AreKnown sh t words → Learns sh words t t
learns_nothing sh words t known = record { locked_is = λ l. refl; reads_is = λ l. refl; known = known }

learns : (sh : Shape) (phase : Phase) (part : Part) (words : List ℕ) (w x : ℕ) (t : List Claim) → AreKnown sh t words → slice_index words w ≡ x → Learns sh words t (learned phase part w x t)
learns sh Idle part words w x t known is = learns_word sh part words w x t known is
learns sh Open part words w x t known is = learns_word sh part words w x t known is
learns sh (Drawn n) part words w x t known is = learns_nothing sh words t known
learns sh (Sealing n) part words w x t known is = learns_nothing sh words t known
learns sh (Applying es) part words w x t known is = learns_nothing sh words t known
learns sh Clearing part words w x t known is = learns_nothing sh words t known
learns sh (Retiring n) part words w x t known is = learns_nothing sh words t known
learns sh Voiding part words w x t known is = learns_nothing sh words t known

-- what is found is what the view knows
found_known : (b : Bool) (o : Option ℕ) (found : ℕ) → ((y : ℕ) → o ≡ Some y → found ≡ y) → IfSome (cond b o None) (λ y. found ≡ y)
found_known true None found is = tt
found_known true (Some y) found is = is y refl
found_known false o found is = tt

pub finds_known : (m : Solo) (v : View) (w found : ℕ) → found ≡ slice_index m.words w → Sees m v → FindsKnown v w found
finds_known m v w found is sees = found_known _ (value_in v w) found (λ y known. is ∙ sees.words w y known)

pub sees_loaded : (m : Solo) (v : View) (w x : ℕ) → x ≡ slice_index m.words w → Sees m v → Sees m (after v (Load w x)) × FindsKnown v w x
sees_loaded m v w x found sees =
    let new = learns v.fixed.shape v.log.phase (part_in v w) m.words w x v.claims sees.words (sym found) in (
      record {
        fixed = sees.fixed;
        words = new.known;
        occupancy = sees.occupancy;
        changes = sees.changes;
        calls = sees.calls;
        counter = sees.counter;
        locks = locks_same v.claims (learned v.log.phase (part_in v w) w x v.claims) m.locks new.locked_is new.reads_is sees.locks;
        zone_locks = sees.zone_locks;
        sizes = sees.sizes;
      },
      finds_known m v w x found sees,
    )

-- ---- counted calls

-- up to the stop number the calls are counted exactly
below_stop : (calls counted stop : ℕ) → calls % 2 ^ 64 ≡ counted → calls ≤ stop → stop < 2 ^ 64 → counted < stop → calls < stop
below_stop calls counted stop same within fits less = omega arith

pub may_count : (m : Solo) (v : View) → Sees m v → IsDue m → ForSome m.stop (λ stop. stop < 2 ^ 64) → MayCount v
may_count m v sees due fits stop is =
    let of_memory : m.stop ≡ Some stop = sym sees.fixed.stop_is ∙ is in
    below_stop (length v.calls) m.calls stop sees.calls.is (sees.calls.within stop of_memory) (fits stop of_memory) (due stop of_memory)

calls_next : (calls counted : ℕ) → calls % 2 ^ 64 ≡ counted → suc calls % 2 ^ 64 ≡ (counted + 1) % 2 ^ 64
calls_next calls counted same = omega arith

-- so the count stays within the stop number
count_next : (m : Solo) (v : View) → Sees m v → IsDue m → ForSome m.stop (λ stop. stop < 2 ^ 64) → IsCount m.stop ((m.calls + 1) % 2 ^ 64) (suc (length v.calls))
count_next m v sees due fits = record {
  is = calls_next (length v.calls) m.calls sees.calls.is;
  within = λ stop is. let less : length v.calls < stop = may_count m v sees due fits stop (sees.fixed.stop_is ∙ is) in omega arith;
}

at_most : (stop : Option ℕ) (few many : ℕ) → few ≤ many → IsSomeAnd stop (λ n. n ≤ few) → IsSomeAnd stop (λ n. n ≤ many)
at_most None few many more spent = spent
at_most (Some n) few many more spent = omega arith

is_at_stop : (m : Solo) (v : View) → Sees m v → IsSpent m → IsAtStop v
is_at_stop m v sees spent =
    let is = sees.calls.is in
    let more : m.calls ≤ length v.calls = omega (arith, is) in
    subst (λ (stop : Option ℕ). IsSomeAnd stop (λ n. n ≤ length v.calls)) (sym sees.fixed.stop_is) (at_most m.stop m.calls (length v.calls) more spent)

-- that the lane stopped is no concern of its view
pub sees_stopped : (m : Solo) (v : View) → Sees m v → Sees (says_stopped m) v
sees_stopped m v sees = record {
  fixed = sees.fixed;
  words = sees.words;
  occupancy = sees.occupancy;
  changes = sees.changes;
  calls = sees.calls;
  counter = sees.counter;
  locks = sees.locks;
  zone_locks = sees.zone_locks;
  sizes = sees.sizes;
}

pub stopped_instead : {T : Type 0} (m n : Solo) (s : T → Step) (result : Result T Stopped) → IsErr result → n ≡ says_stopped m → IsSpent m → MadeOrStopped AnyStep (Sees m) (Sees n) s result
stopped_instead m n s (Ok answer) error is spent = absurd (search rules)
stopped_instead m n s (Err stopped) error is spent = λ v sees. (subst (λ (k : Solo). Sees k v) (sym is) (sees_stopped m v sees), is_at_stop m v sees spent)

-- what the view knows that a change found is what it found
old_known : (o : Option ℕ) (mask word old : ℕ) → ((y : ℕ) → o ≡ Some y → word ≡ y) → old ≡ bit_and word mask → IfSome (option_map (λ (z : ℕ). bit_and z mask) o) (λ y. old ≡ y)
old_known None mask word old known is = tt
old_known (Some z) mask word old known is = is ∙ ap (λ n. bit_and n mask) (known z refl)

-- what the view has of a word that a store finds, it knows
was_value : (phase : Phase) (part : Part) (o : Option ℕ) (y : ℕ) → was_of phase part o ≡ Some y → o ≡ Some y
was_value phase GenerationPart o y e = e
was_value phase SealPart o y e = e
was_value phase EntryPart o y e = absurd (search rules)
was_value phase SlotPart o y e = absurd (search rules)
was_value phase RootPart o y e = e
was_value Idle (DescriptorPart c) o y e = e
was_value Open (DescriptorPart c) o y e = e
was_value (Drawn n) (DescriptorPart c) o y e = e
was_value (Sealing n) (DescriptorPart c) o y e = e
was_value (Applying todo) (DescriptorPart c) o y e = absurd (search rules)
was_value Clearing (DescriptorPart c) o y e = e
was_value (Retiring n) (DescriptorPart c) o y e = e
was_value Voiding (DescriptorPart c) o y e = e
was_value phase (ChunkPart c i) o y e = e
was_value phase OtherPart o y e = e

-- a counted call made this change
sees_changed : (m : Solo) (v : View) (s : Step) (c : Change) (was : Option ℕ) (x : ℕ) (claims : List Claim) (log : Log) → IsDue m → ForSome m.stop (λ stop. stop < 2 ^ 64) → Grows v.fixed.shape v.claims claims
    → c.word < length m.words → c.flushed ≡ false → IfSome (option_map (λ (z : ℕ). bit_and z c.mask) was) (λ y. c.old ≡ y) → Sees m v → Sees (with_change (counted m) c x) (changed_from s v c.word c.mask was x claims log)
sees_changed m v s c was x claims log due fits grows within plain old sees =
    let same : length (set m.words c.word x) ≡ length m.words = length-set m.words c.word x in
    record {
      fixed = record { lane = sees.fixed.lane; lanes = sees.fixed.lanes; stop_is = sees.fixed.stop_is; size = same ∙ sees.fixed.size };
      words = known_stored v.fixed.shape m.words c.word x v.claims claims grows sees.words within;
      occupancy = sees.occupancy;
      changes = (m.changes, c, refl, record { word = refl; mask = refl; flushed = plain; old = old }, sees.changes);
      calls = count_next m v sees due fits;
      counter = sees.counter;
      locks = locks_same v.claims (Knows c.word x ∷ claims) m.locks grows.locked_is grows.reads_is sees.locks;
      zone_locks = sees.zone_locks;
      sizes = record {
        lines = sees.sizes.lines ∙ ap (λ n. n / 8) (sym same);
        pages = sees.sizes.pages ∙ ap (λ n. n / 512) (sym same);
        zones_are = sees.sizes.zones_are;
        zone_locks_are = sees.sizes.zone_locks_are;
      };
    }

-- a flush or a drain was counted
sees_recounted : (m : Solo) (v : View) (s : Step) (changes : List Change) (left : List Undrained) (claims : List Claim) (log : Log) → IsDue m → ForSome m.stop (λ stop. stop < 2 ^ 64) → Grows v.fixed.shape v.claims claims
    → AreUndrained changes left → Sees m v → Sees (record (counted m) { changes = changes }) (record v { claims = claims; changes = left; calls = s ∷ v.calls; log = log })
sees_recounted m v s changes left claims log due fits grows are sees = record {
  fixed = sees.fixed;
  words = known_grown v.fixed.shape m.words v.claims claims grows sees.words;
  occupancy = sees.occupancy;
  changes = are;
  calls = count_next m v sees due fits;
  counter = sees.counter;
  locks = locks_same v.claims claims m.locks grows.locked_is grows.reads_is sees.locks;
  zone_locks = sees.zone_locks;
  sizes = sees.sizes;
}

whole : (x : ℕ) → x < 2 ^ 64 → x ≡ bit_and x all_bits
whole x small = let low : bit_and x (2 ^ 64 - 1) ≡ x % 2 ^ 64 = and_mask x 64 in let e : x % 2 ^ 64 ≡ x = omega arith in sym (low ∙ e)

module _ (m k n : Solo) (due : IsDue m) (fits : ForSome m.stop (λ stop. stop < 2 ^ 64)) (once : k ≡ counted m) where
  -- the call made this change of a word that was this, where that is known
  made_change : (v : View) (s : Step) (c : Change) (was : Option ℕ) (x : ℕ) (claims : List Claim) (log : Log) → Grows v.fixed.shape v.claims claims → c.word < length m.words → c.flushed ≡ false → IfSome (option_map (λ (z : ℕ). bit_and z c.mask) was) (λ y. c.old ≡ y)
      → n ≡ with_change k c x → Sees m v → Sees n (changed_from s v c.word c.mask was x claims log)
  made_change v s c was x claims log grows within plain old is sees =
      subst (λ (memory : Solo). Sees memory (changed_from s v c.word c.mask was x claims log)) (sym (is ∙ ap (λ (memory : Solo). with_change memory c x) once)) (sees_changed m v s c was x claims log due fits grows within plain old sees)

  found_in : (w found : ℕ) → found ≡ slice_index k.words w → found ≡ slice_index m.words w
  found_in w found is = is ∙ ap (λ (memory : Solo). slice_index memory.words w) once

  pub stored_made : (w x found : ℕ) (c : Change) → found < 2 ^ 64 → w < length m.words → found ≡ slice_index k.words w → c ≡ store_change w found x → n ≡ with_change k c x → (v : View) → Sees m v → Sees n (after v (Store w x)) × Unit {0} × MayCount v
  stored_made w x found c small within finds makes is v sees =
      let claims : List Claim = marked_by v.log.phase (part_in v w) x v.claims in
      let log : Log = log_stored (shape_of v) (class v.claims) v.log.phase (part_in v w) x v.log in (
        made_change v (Store w x) (store_change w found x) (was_in v w) x claims log (grows_marked v.fixed.shape v.log.phase (part_in v w) x v.claims) within refl
            (old_known (was_in v w) all_bits (slice_index m.words w) found (λ y e. sees.words w y (was_value v.log.phase (part_in v w) (value_in v w) y e)) (whole found small ∙ ap (λ y. bit_and y all_bits) (found_in w found finds))) (is ∙ ap (λ (d : Change). with_change k d x) makes) sees,
        tt,
        may_count m v sees due fits,
      )

  pub or_made : (w bits found : ℕ) (c : Change) → w < length m.words → found ≡ slice_index k.words w → c ≡ or_change w bits found → n ≡ with_change k c (bit_or found bits) → (v : View) → Sees m v → Sees n (after v (Or w bits found)) × FindsKnown v w found × MayCount v
  or_made w bits found c within finds makes is v sees = (
    made_change v (Or w bits found) (or_change w bits found) (Some found) (bit_or found bits) v.claims (log_changed v.log.phase v.log) (grows_none v.fixed.shape v.claims) within refl refl (is ∙ ap (λ (d : Change). with_change k d (bit_or found bits)) makes) sees,
    finds_known m v w found (found_in w found finds) sees,
    may_count m v sees due fits,
  )

  pub and_made : (w bits found : ℕ) (c : Change) → w < length m.words → found ≡ slice_index k.words w → c ≡ and_change w bits found → n ≡ with_change k c (bit_and found bits) → (v : View) → Sees m v → Sees n (after v (And w bits found)) × FindsKnown v w found × MayCount v
  and_made w bits found c within finds makes is v sees = (
    made_change v (And w bits found) (and_change w bits found) (Some found) (bit_and found bits) v.claims (log_changed v.log.phase v.log) (grows_none v.fixed.shape v.claims) within refl refl (is ∙ ap (λ (d : Change). with_change k d (bit_and found bits)) makes) sees,
    finds_known m v w found (found_in w found finds) sees,
    may_count m v sees due fits,
  )

  -- the call changed which changes are undrained
  made_again : (v : View) (s : Step) (f : List Change → List Change) (left : List Undrained) (claims : List Claim) (log : Log) → Grows v.fixed.shape v.claims claims → AreUndrained (f m.changes) left
      → n ≡ record k { changes = f k.changes } → Sees m v → Sees n (record v { claims = claims; changes = left; calls = s ∷ v.calls; log = log })
  made_again v s f left claims log grows are is sees =
      subst (λ (memory : Solo). Sees memory (record v { claims = claims; changes = left; calls = s ∷ v.calls; log = log })) (sym (is ∙ ap (λ (memory : Solo). record memory { changes = f memory.changes }) once)) (sees_recounted m v s (f m.changes) left claims log due fits grows are sees)

  pub flushed_made : (line : ℕ) → n ≡ record k { changes = changes_flushed line k.changes } → (v : View) → Sees m v → Sees n (after v (Flush line)) × Unit {0} × MayCount v
  flushed_made line is v sees = (made_again v (Flush line) (changes_flushed line) (flushed line v.changes) v.claims v.log (grows_none v.fixed.shape v.claims) (undrained-flushed line m.changes v.changes sees.changes) is sees, tt, may_count m v sees due fits)

  pub drained_made : n ≡ record k { changes = changes_drained k.changes } → (v : View) → Sees m v → Sees n (after v Drain) × Unit {0} × MayCount v
  drained_made is v sees =
      let left : List Undrained = drained v.changes in
      (made_again v Drain changes_drained left (claims_drained left v.log (Drained left ∷ v.claims)) (log_left left v.log) (grows_drained v.fixed.shape left v.log v.claims) (undrained-drained m.changes v.changes sees.changes) is sees, tt, may_count m v sees due fits)
