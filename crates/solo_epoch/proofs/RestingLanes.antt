-- A lane that is alone and rests behind a call begins again from the words as they stand.
use Rattle.std.proofs.Common.{subst, ◌≡◌, ◌≢◌, inl, ⊎_elim, ℕ, ◌<◌, ◌≤◌, false, List, [], length, refl, sym, ap, ◌∙◌, arith}
use Rattle.std.proofs.lemmas.Bool.{cases_eq, false≢true}
use Rattle.pm_header.specs.declared.header.Header.{Header}
use Rattle.pm_objects.specs.declared.pool.PoolView.{PoolView}
use Rattle.solo_view.specs.Log.{Log, no_log}
use Rattle.solo_view.specs.Log.Phase.{Idle}
use Rattle.solo_view.specs.Steps.{Step}
use Rattle.solo_view.specs.View.{View}
use Rattle.solo_world.specs.Lawful.{OnlyFilled}
use Rattle.solo_world.specs.Crash.{IsBeingWritten, loses}
use Rattle.solo_world.specs.Fits.{LaneFits}
use Rattle.solo_world.specs.History.{Flies, settled}
use Rattle.solo_world.specs.Opening.{Opening}
use Rattle.solo_world.specs.Opens.{IsClean, IsRested}
use Rattle.solo_world.specs.Records.{is_drained_slot, used_slots}
use Rattle.solo_world.proofs.Filled.{filled_slot}
use Rattle.solo_sealed.proofs.IdleLanes.{idle_clean}
use Rattle.solo_crash.specs.Alone.{BeginsAgain, WorksAlone, standing}
use Rattle.solo_crash.proofs.AloneCourse.{StandsAlone, begins_alone, stands_at}
use Rattle.solo_crash.proofs.AloneImages.{ended_stays}
use Rattle.solo_crash.proofs.AloneMemory.{memory_of}
use Rattle.solo_crash.proofs.KnownHeap.{known_alone}
use Rattle.solo_crash.proofs.OnTheWay.{alone_on_the_way}
use Rattle.solo_epoch.specs.Epochs.{ReservesNoRun, RestsBehindCall}
use Rattle.solo_epoch.proofs.ClosedCalls.{idle_is_closed}
use Rattle.solo_epoch.proofs.StandingPools.{holds_calls, own_fits}
use Rattle.solo_epoch.proofs.KnowingLanes.{free_here}

-- its log is empty, with nothing undrained but words that it filled and nothing locked, and no chunk that it reserved is a run
pub record IsAtRest (w : View) : Type 0 where
  pub idle : w.log ≡ no_log Idle
  pub changes : OnlyFilled w
  pub free : w.locks ≡ []
  pub unlocked : w.zone_locks ≡ []
  pub no_run : ReservesNoRun w.lanes w

module _ (o : Opening) (header : Header) (pool : PoolView) (v w : View) (steps : List Step) (works : WorksAlone o header pool v steps w) (rests : IsAtRest w) where
  stands : StandsAlone o header pool w
  stands = stands_at o header pool v steps w works.begins works.leads works.numbered works.within

  fits : LaneFits o (memory_of w) (settled o stands.log stands.decided) (Flies stands.log stands.decided 0) 0 w
  fits = own_fits o header pool w stands

  idle : w.log.phase ≡ Idle
  idle = ap (λ (l : Log). l.phase) rests.idle

  -- no slot of it is being written, and no call of it is lost
  writes_none : (slot : ℕ) → slot < 64 → IsBeingWritten w slot → ⊥
  writes_none slot within = ⊎_elim
      (λ (undrained : is_drained_slot w slot ≡ false). false≢true (sym undrained ∙ filled_slot w slot (let some = stands.goes.in_lanes in let lane = fits.lane.lane in let lanes = fits.lane.lanes in omega (arith, some, lane, lanes)) within rests.changes))
      (λ (used : (length w.log.records ≤ slot) × (slot < used_slots w.log.phase w)). let all : used_slots w.log.phase w ≡ length w.log.records = ap (λ p. used_slots p w) idle in let from = used.0 in let to = used.1 in omega (arith, all, from, to))

  loses_none : (n : ℕ) → loses w.words w n ≡ false
  loses_none n = ended_stays w w.words n (inl idle)

  each_idle : (j : ℕ) → j < o.lanes → (stands.views j).log.phase ≡ Idle
  each_idle j low = ⊎_elim
      (λ (same : j ≡ 0). ap (λ k. (stands.views k).log.phase) same ∙ (ap (λ (u : View). u.log.phase) stands.here ∙ idle))
      (λ (other : j ≢ 0). stands.goes.others j low other)
      (cases_eq j 0)

  lane_size : length w.words ≡ length o.words
  lane_size = fits.lane.size

  clean : (j : ℕ) → j < o.lanes → IsClean (standing o w) j
  clean j low = idle_clean o (memory_of w) stands.views stands.log stands.decided stands.goes.world w.words lane_size (λ i. refl) j low (each_idle j low)

  rested : IsRested (standing o w) 0 w
  rested = record {
    lane = record { lanes = fits.lane.lanes; zones = fits.lane.zones; lane = fits.lane.lane; size = refl };
    words = refl;
    held = fits.picture.held;
    changes = rests.changes;
    room = fits.room;
    idle = rests.idle;
    no_locks = rests.free;
    of_pool = fits.blocks.of_pool;
    small = fits.blocks.small;
    free = free_here o header pool v w steps works (subst (λ m. ReservesNoRun m w) fits.lane.lanes rests.no_run);
    nothing_freed = fits.blocks.freed;
    within = works.within;
  }

  pub begins_at_rest : BeginsAgain (standing o w) header pool w
  begins_at_rest =
      let calls = holds_calls o header pool w stands writes_none loses_none v works.begins in record {
        now = calls.before;
        holds = calls.holds;
        replays = calls.replays;
        clean = clean;
        rested = rested;
        unlocked = rests.unlocked;
        pages = let pages = stands.pages in let size = stands.goes.world.sound.size in let long = lane_size in omega (arith, pages, size, long);
        zone_count = stands.zone_count;
        occupied = λ at bit of low. known_alone o header pool v w steps at bit works of low;
        of_pool = ap (λ (u : View). u.pool) (sym stands.here) ∙ stands.goes.of_pool;
        alone = alone_on_the_way v w steps (begins_alone o header pool v works.begins) works.leads;
        numbered = works.numbered;
        newest = λ n is. stands.goes.newest n (ap (λ (u : View). u.number) stands.here ∙ is) ∙ sym stands.goes.world.counter;
        closed = idle_is_closed o header pool v w steps works rests.idle;
        few = let room = stands.goes.world.counter_room in let counter = stands.goes.world.counter in omega (arith, room, counter);
      }

pub begins_again : (o : Opening) (header : Header) (pool : PoolView) (v w : View) (steps : List Step) → WorksAlone o header pool v steps w → RestsBehindCall w → BeginsAgain (standing o w) header pool w
begins_again o header pool v w steps works rests =
    begins_at_rest o header pool v w steps works (record { idle = rests.idle; changes = rests.changes; free = rests.free; unlocked = rests.unlocked; no_run = rests.no_run })
