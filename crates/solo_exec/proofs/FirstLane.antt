-- A lane that is made over the words of a pool has made no step.
use Rattle.std.proofs.lemmas.Bool.{false≢true}
use Rattle.std.proofs.Common.{All, map, [], ◌≡◌, inl, ℕ, ◌+◌, ◌-◌, ◌*◌, List, slice_index, length, take, drop, Option, refl, sym, ap, ◌∙◌, subst, arith}
use Rattle.std.proofs.Math.Seq.{take-length}
use Rattle.solo_crash.specs.Alone.{Begins, BeginsAlone, WorksAlone}
use Rattle.solo_crash.specs.CallBlocks.{reserved_object}
use Rattle.solo_crash.specs.Leading.{Leads}
use Rattle.solo_crash.proofs.ReservedOn.{none_reserved}
use Rattle.solo_crash.proofs.SeenAlone.{works_where_seen}
use Rattle.solo_epoch.proofs.NothingReserved.{rests_with_none}
use Rattle.solo_epoch.specs.Reserving.{with_next_call}
use Rattle.solo_lock.specs.Resting.{HasPlace}
use Rattle.solo_model.specs.Actions.{Pending, none_pending}
use Rattle.solo_pending.specs.AllPending.{IsPendingAs}
use Rattle.solo_transaction.proofs.EndingAlone.{none_run}
use Rattle.solo_transaction.proofs.RestingViews.{NextOf, next_of, next_pending}
use Rattle.solo_transaction.specs.Resting.{StandsAtRest}
use Rattle.solo_view.specs.View.{View}
use Rattle.solo_exec.proofs.PendingLists.{still_pending}
use Rattle.pm_header.specs.declared.header.Header.{Header}
use Rattle.pm_layout.specs.declared.shape.Shape.{Shape}
use Rattle.solo_memory.proofs.Unlocked.{sees_opened}
use Rattle.solo_memory.specs.Solo.{Sees, Solo, opened, view_of}
use Rattle.solo_occupancy.specs.Words.{run_words_of, zone_words_of}
use Rattle.solo_occupancy.proofs.Words.{run_words_count, zone_words_count}
use Rattle.pm_objects.specs.declared.history.TxErr.TheVariants as error
use Rattle.pm_objects.specs.declared.pool.PoolView.{PoolView}
use Rattle.solo_made.specs.Made.{BlockLists}
use Rattle.solo_transaction.specs.AtWork.{AreForPool, IsNotMaking, LiesInReserved}
use Rattle.solo_world.specs.Lanes.{IsIdle, IsOfShape, IsSeenAs}
use Rattle.solo_world.specs.declared.lane.Lane.{Lane}
use Rattle.solo_exec.specs.Openings.{first_view, opening_of}
use Rattle.solo_exec.specs.Progress.{IsStart, KeepsReserved}
use Rattle.solo_pending.specs.declared.pending.PendingActions.{PendingActions}
use Rattle.solo_crash.specs.Pending.{pending_before, pending_from}
use Rattle.std.proofs.lemmas.List.Elements.{All-nil}

-- the memory of the words, with the occupancy words that they give
abbrev pub occupied : PoolView → List ℕ → Option ℕ → Solo
occupied pool words stop = record (opened words stop) { runs = run_words_of (slice_index words) pool.lanes pool.zones; zones = zone_words_of (slice_index words) pool.lanes pool.zones }

-- it is seen as the first view
sees_first : (pool : PoolView) (words : List ℕ) (stop : Option ℕ) → length words ≡ 512 + 1024 * pool.lanes + 33280 * pool.zones → Sees (occupied pool words stop) (first_view pool words stop)
sees_first pool words stop size =
    let s : Sees (opened words stop) (view_of (opened words stop)) = sees_opened words stop in
    record {
      lane = s.lane;
      words = s.words;
      changes = s.changes;
      stop = s.stop;
      calls = s.calls;
      within = s.within;
      numbers = s.numbers;
      count = s.count;
      counter = s.counter;
      lines = s.lines;
      locks = s.locks;
      zone_locks = s.zone_locks;
      runs = refl;
      zones = refl;
      pages = (let pages = run_words_count (slice_index words) pool.lanes pool.zones in omega (arith, pages, size));
      zone_count = zone_words_count (slice_index words) pool.lanes pool.zones;
      zone_lock_count = s.zone_lock_count;
      alone = s.alone;
    }

-- all of some words, as a part of them
all_words : (image : List ℕ) → take (0 + length image - 0) (drop 0 image) ≡ image
all_words image = let e : 0 + length image - 0 ≡ length image = omega arith in ap (λ n. take n image) e ∙ take-length image

pub seen_first : (pool : PoolView) (image words : List ℕ) (stop : Option ℕ) (m : Solo) → length image ≡ 512 + 1024 * pool.lanes + 33280 * pool.zones → words ≡ take (0 + length image - 0) (drop 0 image) → m ≡ occupied pool words stop → Sees m (first_view pool image stop)
seen_first pool image words stop m size all is = subst (λ (n : Solo). Sees n (first_view pool image stop)) (sym (is ∙ ap (λ ws. occupied pool ws stop) (all ∙ all_words image))) (sees_first pool image stop size)

-- how that memory is made
pub occupied_so : (pool : PoolView) (words lent : List ℕ) (stop : Option ℕ) (lanes zones : ℕ) (m n : Solo) (run_words zone_words : List ℕ) → lent ≡ words → lanes ≡ pool.lanes → zones ≡ pool.zones → m ≡ opened words stop
    → run_words ≡ run_words_of (slice_index lent) lanes zones → zone_words ≡ zone_words_of (slice_index lent) lanes zones → n ≡ record m { runs = run_words; zones = zone_words } → n ≡ occupied pool words stop
occupied_so pool words lent stop lanes zones m n run_words zone_words all same_lanes same_zones is runs_are zones_are made =
    made ∙ (λ i. record (is i) {
      runs = (runs_are ∙ (λ j. run_words_of (slice_index (all j)) (same_lanes j) (same_zones j))) i;
      zones = (zones_are ∙ (λ j. zone_words_of (slice_index (all j)) (same_lanes j) (same_zones j))) i;
    })

-- so long are words over which a lane begins
pub begun_long : (pool : PoolView) (words : List ℕ) (stop : Option ℕ) → (header : Header) × BeginsAlone (opening_of pool words) header pool (first_view pool words stop)
    → length words ≡ 512 + 1024 * pool.lanes + 33280 * pool.zones
begun_long pool words stop begun = let bytes = begun.1.holds.has_header.has_shape.size in omega (arith, bytes)

pub shaped_first : (pool : PoolView) (words : List ℕ) (stop : Option ℕ) (shape : Shape) → length words ≡ 512 + 1024 * pool.lanes + 33280 * pool.zones → shape.lanes ≡ pool.lanes → shape.zones ≡ pool.zones → IsOfShape (first_view pool words stop) shape
shaped_first pool words stop shape size lanes zones = record { lanes = sym lanes; zones = sym zones; size = omega (arith, size, lanes, zones) }

-- before the first call nothing is pending, and nothing reserved
none_yet : (pool : PoolView) (words : List ℕ) (stop : Option ℕ) → pending_before (first_view pool words stop) ≡ none_pending
unfolding pending_from
none_yet pool words stop = refl

makes_none : (pool : PoolView) (words : List ℕ) (stop : Option ℕ) → IsNotMaking (first_view pool words stop)
makes_none pool words stop = record { unlocked = refl; no_run = λ c in_pool reserved. absurd (false≢true reserved) }

module _ (pool : PoolView) (words : List ℕ) (stop : Option ℕ) (lane : Lane Solo) (seen : IsSeenAs Sees lane (first_view pool words stop)) (place : HasPlace (first_view pool words stop)) where
  abbrev first : View
  first = first_view pool words stop

  next : NextOf first (with_next_call first)
  next = next_of first place.lane (inl refl)

  stands_none : StandsAtRest first
  stands_none = record {
    stands = none_reserved (with_next_call first) (ap (λ (p : Pending). p.reserved) (next_pending first (with_next_call first) next ∙ none_yet pool words stop));
    within = subst (λ (p : Pending). All (LiesInReserved first) (map reserved_object p.reserved)) (sym (none_yet pool words stop)) (All-nil (LiesInReserved first));
  }

  works_none : (header : Header) (held : PoolView) → Begins (opening_of pool words) header held first → WorksAlone (opening_of pool words) header held first [] first
  unfolding Leads
  works_none header held begins = works_where_seen (opening_of pool words) header held lane.memory first first [] begins refl seen.memory

  keeps_none : KeepsReserved (opening_of pool words) lane.shape first
  keeps_none = record {
    quiet = makes_none pool words stop;
    stands = stands_none;
    rests = λ header held begins.
        let works = works_none header held begins in
        rests_with_none (opening_of pool words) header held first [] first lane.shape works refl refl refl refl seen.shape
        (none_run (opening_of pool words) header held first first [] works (makes_none pool words stop)) (ap (λ (p : Pending). p.reserved) (none_yet pool words stop));
  }

pub is_start : (pool : PoolView) (words : List ℕ) (stop : Option ℕ) (lane : Lane Solo) → (header : Header) × BeginsAlone (opening_of pool words) header pool (first_view pool words stop) → IsSeenAs Sees lane (first_view pool words stop) → IsIdle lane → lane.error ≡ error.None → lane.entries.items ≡ []
    → (blocks : BlockLists) (actions : PendingActions) → AreForPool blocks (first_view pool words stop) → IsPendingAs actions none_pending → IsStart (opening_of pool words) lane blocks actions (first_view pool words stop)
is_start pool words stop lane begun seen idle unharmed unlisted blocks actions pages nothing =
    let place : HasPlace (first_view pool words stop) = (let shape = begun.1.holds.has_header.has_shape in let some = shape.shape.lanes_from in let bytes = shape.size in record { lane = omega (arith, some); few = omega arith; inside = omega (arith, some, bytes) }) in
    record {
      rests = record {
        seen = seen;
        answered = idle.answered;
        unharmed = unharmed;
        unstopped = idle.unstopped;
        unlisted = unlisted;
        fresh = inl refl;
        undrained = inl refl;
        free = refl;
        place = place;
      };
      header = begun.0;
      pool = pool;
      begins = inl begun.1;
      keeps = keeps_none pool words stop lane seen place;
      pages = pages;
      pending = still_pending (pending_before (first_view pool words stop)) (none_yet pool words stop) nothing;
    }
