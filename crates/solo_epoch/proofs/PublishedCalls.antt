-- A call that a lane alone published has ended at its log's end.
use Rattle.std.proofs.Common.{◌≡◌, ℕ, ◌^◌, ◌<◌, ◌≤◌, Bool, true, false, All, List, [], ◌∷◌, flat_map, is_some, Some, refl, sym, ap, ◌∙◌, subst, arith}
use Rattle.std.specs.Option.{ForSome}
use Rattle.std.proofs.lemmas.Bool.{false≢true}
use Rattle.pm_header.specs.declared.header.Header.{Header}
use Rattle.pm_objects.specs.declared.pool.PoolView.{PoolView}
use Rattle.solo_view.specs.Changes.{drained}
use Rattle.solo_view.specs.declared.change.Change.{Change}
use Rattle.solo_view.specs.Area.{Part, part_of}
use Rattle.solo_view.specs.Area.Part.{EntryWord, GenerationWord, OtherWord, SealWord, SlotWord}
use Rattle.solo_view.specs.Founds.{IsAlone}
use Rattle.solo_view.specs.Log.{Log, Phase, log_changed, log_drained, log_stored, no_log}
use Rattle.solo_view.specs.Log.Phase.{Applying, Clearing, Drawn, Idle, Open, Retiring, Sealing}
use Rattle.solo_view.specs.Steps.{Step}
use Rattle.solo_view.specs.Steps.Step.{Load, Store, Or, And, Flush, Drain, TakeWrite, TakeRead, Raise, Give, ZoneTry, ZoneGive, Occupied, Occupy, Vacate, Draw, NumberSeen, StopSeen, SetStop, Tell}
use Rattle.solo_view.specs.Constants.{IsSameLane}
use Rattle.solo_view.specs.View.{Taken, View}
use Rattle.solo_view.specs.Views.{after, allocated_by, log_after_drain}
use Rattle.solo_world.specs.Fits.{LaneFits}
use Rattle.solo_world.specs.Heap.{IsOcc}
use Rattle.solo_world.specs.History.{Flies, settled}
use Rattle.solo_world.specs.Lawful.{Allowed}
use Rattle.solo_world.specs.Opening.{Opening}
use Rattle.solo_crash.specs.Held.{HoldsImage}
use Rattle.solo_crash.specs.Publishing.{Published, all_pool_published}
use Rattle.solo_crash.proofs.AloneMemory.{memory_of}
use Rattle.solo_crash.proofs.Continued.{two_same}
use Rattle.solo_sealed.specs.Sealed.{Publishes, is_publishing}
use Rattle.solo_sealed.proofs.EndedLog as ended_log
use Rattle.solo_reclaim.specs.Reclaims.{AreOfPool}
use Rattle.solo_epoch.specs.Epochs.{HasEnded, HasEntriesFor, HasSameHeap, IsPublishing, LoadsNoneOf, MayPublish, PromisesTaken, ReservesNoRun}
use Rattle.solo_epoch.proofs.PublishingCalls.{alone, base, before, few, fits, has, heap, lane, led, may, newest, own, stands}
use Rattle.solo_epoch.proofs.HandedOver.{allocated, freed_of_pool, hands_over, reserved_drawn}
use Rattle.solo_epoch.proofs.HeldBehindLog.{holds_behind}
use Rattle.solo_epoch.proofs.KnowingLanes.{knows_at_work, none_freed}
use Rattle.solo_epoch.proofs.LeftBlocks.{IsWordOfBits, left_all, left_small}
use Rattle.solo_epoch.proofs.PromisedTaken.{promises}
use Rattle.solo_epoch.proofs.PublishedImages.{image_stands}
use Rattle.solo_sealed.proofs.Steps.{begun_same}
use Rattle.solo_epoch.proofs.TakenBehindLog.{knows_behind}

-- ---- a log that comes to its end is empty

is_idle : Phase → Bool
is_idle Idle = true
is_idle phase = false

not_idle : (phase : Phase) → is_publishing phase ≡ true → phase ≡ Idle → ⊥
not_idle phase publishing idle = false≢true (ap is_publishing (sym idle) ∙ publishing)

-- no store ends it
stored_on : (p : Phase) (part : Part) (x : ℕ) (log : Log) → log.phase ≡ p → is_publishing p ≡ true → (log_stored p part x log).phase ≡ Idle → ⊥
unfolding is_idle
stored_on Drawn GenerationWord x log at publishing idle = false≢true (ap is_idle idle)
stored_on Drawn SealWord x log at publishing idle = false≢true (ap is_idle idle)
stored_on Drawn EntryWord x log at publishing idle = false≢true (ap is_idle (sym at ∙ idle))
stored_on Drawn SlotWord x log at publishing idle = false≢true (ap is_idle (sym at ∙ idle))
stored_on Drawn OtherWord x log at publishing idle = false≢true (ap is_idle (sym at ∙ idle))
stored_on Sealing part x log at publishing idle = false≢true (ap is_idle (sym at ∙ idle))
stored_on (Applying applied) GenerationWord x log at publishing idle = false≢true (ap is_idle idle)
stored_on (Applying applied) SealWord x log at publishing idle = false≢true (ap is_idle idle)
stored_on (Applying applied) EntryWord x log at publishing idle = false≢true (ap is_idle idle)
stored_on (Applying applied) SlotWord x log at publishing idle = false≢true (ap is_idle idle)
stored_on (Applying applied) OtherWord x log at publishing idle = false≢true (ap is_idle idle)
stored_on Clearing part x log at publishing idle = false≢true (ap is_idle (sym at ∙ idle))
stored_on Idle part x log at publishing idle = false≢true publishing
stored_on (Open slot pair) part x log at publishing idle = false≢true publishing
stored_on Retiring part x log at publishing idle = false≢true publishing

changed_on : (p : Phase) (log : Log) → log.phase ≡ p → is_publishing p ≡ true → (log_changed p log).phase ≡ Idle → ⊥
unfolding is_idle
changed_on Drawn log at publishing idle = false≢true (ap is_idle (sym at ∙ idle))
changed_on Sealing log at publishing idle = false≢true (ap is_idle (sym at ∙ idle))
changed_on (Applying applied) log at publishing idle = false≢true (ap is_idle idle)
changed_on Clearing log at publishing idle = false≢true (ap is_idle (sym at ∙ idle))
changed_on Idle log at publishing idle = false≢true publishing
changed_on (Open slot pair) log at publishing idle = false≢true publishing
changed_on Retiring log at publishing idle = false≢true publishing

-- a drain does, and leaves none
drained_empty : (p : Phase) (drawn : Bool) (log : Log) → log.phase ≡ p → is_publishing p ≡ true → (log_drained p drawn log).phase ≡ Idle → log_drained p drawn log ≡ no_log Idle
unfolding is_idle
drained_empty Drawn drawn log at publishing idle = absurd (false≢true (ap is_idle (sym at ∙ idle)))
drained_empty Sealing drawn log at publishing idle = absurd (false≢true (ap is_idle idle))
drained_empty (Applying applied) drawn log at publishing idle = absurd (false≢true (ap is_idle (sym at ∙ idle)))
drained_empty Clearing drawn log at publishing idle = refl
drained_empty Idle drawn log at publishing idle = absurd (false≢true publishing)
drained_empty (Open slot pair) drawn log at publishing idle = absurd (false≢true publishing)
drained_empty Retiring drawn log at publishing idle = absurd (false≢true publishing)

drain_empty : (left : List Change) (v : View) → is_publishing v.log.phase ≡ true → (log_after_drain left v).phase ≡ Idle → log_after_drain left v ≡ no_log Idle
drain_empty [] v publishing idle = drained_empty v.log.phase (is_some v.number) v.log refl publishing idle
drain_empty (c ∷ left) v publishing idle = absurd (not_idle v.log.phase publishing idle)

empty_after : (v : View) (s : Step) → is_publishing v.log.phase ≡ true → Allowed v s → (after v s).log.phase ≡ Idle → (after v s).log ≡ no_log Idle
empty_after v (Load w x) publishing may idle = absurd (not_idle v.log.phase publishing idle)
empty_after v (Store w x) publishing may idle = absurd (stored_on v.log.phase (part_of v.lane w) x v.log refl publishing idle)
empty_after v (Or w bits x) publishing may idle = absurd (changed_on v.log.phase v.log refl publishing idle)
empty_after v (And w bits x) publishing may idle = absurd (changed_on v.log.phase v.log refl publishing idle)
empty_after v (Flush line) publishing may idle = absurd (not_idle v.log.phase publishing idle)
empty_after v Drain publishing may idle = drain_empty (drained v.changes) v publishing idle
empty_after v (TakeWrite line won) publishing may idle = absurd (not_idle v.log.phase publishing idle)
empty_after v (TakeRead line won) publishing may idle = absurd (not_idle v.log.phase publishing idle)
empty_after v (Raise line won) publishing may idle = absurd (not_idle v.log.phase publishing idle)
empty_after v (Give line) publishing may idle = absurd (not_idle v.log.phase publishing idle)
empty_after v (ZoneTry zone won) publishing may idle = absurd (not_idle v.log.phase publishing idle)
empty_after v (ZoneGive zone) publishing may idle = absurd (not_idle v.log.phase publishing idle)
empty_after v (Occupied at x) publishing may idle = absurd (not_idle v.log.phase publishing idle)
empty_after v (Occupy at bits won) publishing may idle = absurd (not_idle v.log.phase publishing idle)
empty_after v (Vacate at bits) publishing may idle = absurd (not_idle v.log.phase publishing idle)
empty_after v (Draw n) publishing may idle = absurd (false≢true (sym (ap is_publishing may.is_open) ∙ publishing))
empty_after v (NumberSeen n) publishing may idle = absurd (not_idle v.log.phase publishing (ap (λ (u : View). u.log.phase) (sym (begun_same v.log.phase v publishing)) ∙ idle))
empty_after v (StopSeen set) publishing may idle = absurd (not_idle v.log.phase publishing idle)
empty_after v SetStop publishing may idle = absurd (not_idle v.log.phase publishing idle)
empty_after v (Tell operation reply) publishing may idle = absurd (not_idle v.log.phase publishing idle)

pub empty_along : (v : View) (steps : List Step) (w : View) → (v.log.phase ≡ Idle → v.log ≡ no_log Idle) → Publishes v steps w → w.log.phase ≡ Idle → w.log ≡ no_log Idle
unfolding Publishes
empty_along v [] w empty leads idle = ap (λ (u : View). u.log) leads ∙ empty (ap (λ (u : View). u.log.phase) (sym leads) ∙ idle)
empty_along v (s ∷ steps) w empty leads idle = empty_along (after v s) steps w (empty_after v s leads.0 leads.1) leads.3 idle

module _ (o : Opening) (header : Header) (pool : PoolView) (u : View) (n : ℕ) (all : List Published) (w : View) (call : IsPublishing o header pool u n all w) (no_run : ReservesNoRun o.lanes u)
    (loads : All (LoadsNoneOf u.log.entries) call.log_steps) (over : w.log.phase ≡ Idle) (within : ForSome w.stop (λ stop. w.calls ≤ stop)) where
  abbrev b : View
  b = after u (Draw n)

  abbrev before_it : PoolView
  before_it = before o header pool u n all w call

  abbrev its_base : PoolView
  its_base = base o header pool u n all w call

  its_entries : HasEntriesFor u header before_it its_base all
  its_entries = has o header pool u n all w call

  is_alone : IsAlone u
  is_alone = alone o header pool u n all w call

  may_now : MayPublish b header before_it its_base all
  may_now = may o header pool u n all w call

  own_lane : IsSameLane b w
  own_lane = lane o header pool u n all w call

  same_heap : HasSameHeap b w
  same_heap = heap o header pool u n all w call

  own_fits_now : LaneFits o (memory_of u) (settled o (stands o header pool u n all w call).log (stands o header pool u n all w call).decided) (Flies (stands o header pool u n all w call).log (stands o header pool u n all w call).decided 0) 0 u
  own_fits_now = fits o header pool u n all w call

  -- its picture promises what will be taken
  promised : PromisesTaken b all
  promised = promises u n all (knows_at_work o header pool call.start u call.steps call.works no_run) (none_freed o header pool call.start u call.steps call.works)
      (hands_over o header pool before_it its_base call.start u call.steps all call.works its_entries n (own o header pool u n all w call))

  -- what it has reserved still is of the pool, and of bits of a word
  these_small : All IsWordOfBits (flat_map (allocated_by u) u.log.entries)
  these_small = (allocated o header pool before_it its_base call.start u call.steps all call.works its_entries).small

  of_pool_still : All (λ (t : Taken). IsOcc o.lanes o.zones t.at) b.reserved
  of_pool_still = subst (All (λ (t : Taken). IsOcc o.lanes o.zones t.at)) (sym (reserved_drawn u n)) (left_all (IsOcc o.lanes o.zones) (flat_map (allocated_by u) u.log.entries) u.reserved these_small own_fits_now.blocks.of_pool)

  small_still : All IsWordOfBits b.reserved
  small_still = subst (All IsWordOfBits) (sym (reserved_drawn u n)) (left_small (flat_map (allocated_by u) u.log.entries) u.reserved these_small own_fits_now.blocks.small)

  pub has_ended : HasEnded o header pool w
  has_ended = record {
    now = all_pool_published o.lanes all its_base;
    holds = two_same (λ (a c : ℕ). HoldsImage w.words a c header (all_pool_published a all its_base)) u.lanes o.lanes u.zones o.zones own_fits_now.lane.lanes own_fits_now.lane.zones
        (image_stands b w header before_it its_base all call.log_steps may_now is_alone call.publishes over);
    replays = led o header pool u n all w call;
    clean = λ j low. let lanes = own_fits_now.lane.lanes in let c = ended_log.clean b w call.log_steps may_now.seal is_alone call.publishes over j (omega (arith, lanes, low)) in
        record { unsealed = c.unsealed; first_generation = c.first_generation; last_generation = c.last_generation; stale = c.stale };
    lane = record { lanes = own_lane.lanes ∙ own_fits_now.lane.lanes; zones = own_lane.zones ∙ own_fits_now.lane.zones; lane = own_lane.lane ∙ own_fits_now.lane.lane; size = refl };
    held = λ i there. holds_behind o header pool before_it its_base call.start u call.steps n all call.works call.draws may_now w call.log_steps i call.publishes loads there;
    drained = ended_log.drained b w call.log_steps may_now.seal is_alone call.publishes over;
    idle = empty_along b call.log_steps w (λ idle. absurd (false≢true (ap is_publishing (sym idle) ∙ ap is_publishing may_now.seal.drawn))) call.publishes over;
    of_pool = subst (All (λ (t : Taken). IsOcc o.lanes o.zones t.at)) (sym same_heap.reserved) of_pool_still;
    small = subst (All (λ (t : Taken). t.bits < 2 ^ 64)) (sym same_heap.reserved) small_still;
    freed_of_pool = subst (AreOfPool o.lanes o.zones) (sym same_heap.freed) (two_same (λ a c. AreOfPool a c b.freed) u.lanes o.lanes u.zones o.zones own_fits_now.lane.lanes own_fits_now.lane.zones
        (freed_of_pool o header pool before_it its_base call.start u call.steps all call.works its_entries n));
    taken = knows_behind b w header before_it its_base all call.log_steps may_now is_alone call.publishes over promised;
    within = within;
    of_header = own_lane.pool ∙ (ap (λ (x : View). x.pool) (sym (stands o header pool u n all w call).here) ∙ (stands o header pool u n all w call).goes.of_pool);
    alone = own_lane.table ∙ is_alone;
    numbered = call.numbered;
    newest = same_heap.number ∙ ap Some (newest o header pool u n all w call);
    few = few o header pool u n all w call;
  }
