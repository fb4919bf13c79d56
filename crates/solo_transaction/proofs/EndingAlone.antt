-- A lane alone may end its transaction behind its call, and begins again then.
use Rattle.std.proofs.Common.{◌≡◌, ℕ, zero, suc, ◌≤◌, List, [], ◌∷◌, ◌++◌, Some, length, sym, ap, ◌∙◌, subst, arith}
use Rattle.std.specs.List.{list_any}
use Rattle.pm_header.specs.declared.header.Header.{Header}
use Rattle.pm_image.specs.declared.block.Block.{Block}
use Rattle.solo_memory.specs.Solo.{AreNumbered}
use Rattle.pm_objects.specs.declared.pool.PoolView.{PoolView}
use Rattle.solo_view.proofs.Sequences.{after_all-append}
use Rattle.solo_view.specs.Founds.{IsAlone}
use Rattle.solo_view.specs.Log.{no_log}
use Rattle.solo_view.specs.Log.Phase.{Idle}
use Rattle.solo_view.specs.Steps.{Step}
use Rattle.solo_view.specs.Steps.Step.{Give}
use Rattle.solo_view.specs.View.{View}
use Rattle.solo_view.specs.Views.{after_all}
use Rattle.solo_world.specs.Fits.{LaneFits}
use Rattle.solo_world.specs.History.{Flies, settled}
use Rattle.solo_world.specs.Opening.{Opening}
use Rattle.solo_world.specs.Sequences.{Ready, counted, in_turn, nothing, one}
use Rattle.solo_world.specs.declared.lane.HeldLock.{HeldLock}
use Rattle.solo_world.specs.declared.lane.Lane.{Lane}
use Rattle.solo_world.proofs.Filled.{none_filled}
use Rattle.solo_world.proofs.Sequencing.{ready_left, ready_right}
use Rattle.solo_world.specs.Heap.{heap_words}
use Rattle.solo_crash.proofs.AloneCourse.{StandsAlone, stands_at}
use Rattle.solo_crash.proofs.AloneMemory.{memory_of}
use Rattle.solo_crash.proofs.Leading.{leads_then}
use Rattle.solo_crash.specs.Alone.{BeginsAgain, WorksAlone, standing}
use Rattle.solo_crash.specs.Leading.{Leads}
use Rattle.solo_lock.proofs.Drawless.{drawless}
use Rattle.solo_lock.proofs.Leading.{ready_leads}
use Rattle.solo_lock.specs.Locking.{gives, line_at}
use Rattle.solo_epoch.proofs.EndedCalls.{ended_kept}
use Rattle.solo_epoch.proofs.KnowingLanes.{knows_at_work}
use Rattle.solo_epoch.proofs.MakingAlone.{makes_alone}
use Rattle.solo_epoch.proofs.ReclaimingLanes.{begins_reclaimed}
use Rattle.solo_epoch.proofs.RestingLanes.{begins_again}
use Rattle.solo_epoch.proofs.StandingPools.{own_fits}
use Rattle.solo_epoch.specs.Epochs.{HasEnded, RestsBehindCall, ReservesNoRun}
use Rattle.solo_made.specs.Made.{BlockLists}
use Rattle.solo_tx.specs.Ending.{IsAfterCall}
use Rattle.solo_transaction.proofs.NotMaking.{not_making_knowing, reserves_no_run}
use Rattle.solo_transaction.specs.Allocating.{MayAllocate}
use Rattle.solo_transaction.specs.AtWork.{IsAtWorkWith, IsNotMaking}
use Rattle.solo_transaction.specs.Ending.{HasEndedWith, MayEnd, unlocked_view}

-- ---- as locks are given back

module _ (o : Opening) (header : Header) (pool : PoolView) (locks : List HeldLock) where
  given_first : (n : ℕ) (v : View) → Ready v (counted (λ i. one (Give (line_at locks i))) n v) → HasEnded o header pool v → HasEnded o header pool (after_all v (counted (λ i. one (Give (line_at locks i))) n v))
  unfolding nothing counted in_turn one Ready after_all
  given_first zero v ready ended = ended
  given_first (suc n) v ready ended =
      let front : List Step = counted (λ i. one (Give (line_at locks i))) n v in
      let give : Step = Give (line_at locks n) in
      let m : View = after_all v front in
      subst (HasEnded o header pool) (sym (after_all-append v front (give ∷ [])))
      (ended_kept o header pool m give (given_first n v (ready_left v front (give ∷ []) ready) ended) (ready_right v front (give ∷ []) ready).0 tt)

  given_all : (v : View) → Ready v (gives locks v) → HasEnded o header pool v → HasEnded o header pool (unlocked_view v locks)
  unfolding gives
  given_all v ready ended = given_first (length locks) v ready ended

-- ---- of a lane that works alone, and makes no object now

module _ (o : Opening) (header : Header) (pool : PoolView) (start v : View) (steps : List Step) (works : WorksAlone o header pool start steps v) where
  stands_v : StandsAlone o header pool v
  stands_v = stands_at o header pool start steps v works.begins works.leads works.numbered works.within

  fits_v : LaneFits o (memory_of v) (settled o stands_v.log stands_v.decided) (Flies stands_v.log stands_v.decided 0) 0 v
  fits_v = own_fits o header pool v stands_v

  pub none_run : IsNotMaking v → ReservesNoRun v.lanes v
  none_run quiet = reserves_no_run o (heap_words o (memory_of v)) v fits_v.blocks fits_v.lane.lanes fits_v.lane.zones quiet

-- what it knows is taken tells that no chunk that it has still is a run
pub ended_makes_none : {M : Type 0} (at : M → View → Type 0) (lane : Lane M) (v : View) (locks : List HeldLock) (kept : List Block) → v.zone_locks ≡ [] → (ended : HasEndedWith at lane v locks kept) → IsNotMaking ended.view
ended_makes_none at lane v locks kept unlocked ended =
    not_making_knowing ended.view (ap (λ (z : View). z.zone_locks) ended.reclaims.same ∙ (ap (λ (z : View). z.zone_locks) ended.given ∙ unlocked)) ended.reclaims.taken

module _ {M : Type 0} (o : Opening) (header : Header) (pool : PoolView) (at : M → View → Type 0) (lane : Lane M) where
  pub ended_may_end : (v : View) → HasEnded o header pool v → IsAfterCall at lane v → MayEnd at lane v
  ended_may_end v ended behind = record { behind = behind; alone = ended.alone; taken = ended.taken }

  module _ (v : View) (locks : List HeldLock) (kept : List Block) (ended : HasEndedWith at lane v locks kept) where
    abbrev u : View
    u = unlocked_view v locks

    abbrev w : View
    w = ended.view

    pub ended_begins_again : HasEnded o header pool v → v.zone_locks ≡ [] → BeginsAgain (standing o w) header pool w
    ended_begins_again over unlocked =
        begins_reclaimed o header pool u w kept (given_all o header pool locks v ended.ready over) (ap (λ (z : View). z.zone_locks) ended.given ∙ unlocked) (ap (λ (z : View). z.locks) ended.given) ended.reclaims ended.left

    -- ---- of a lane that works alone still

    module _ (start : View) (steps : List Step) (works : WorksAlone o header pool start steps v) (idle : v.log ≡ no_log Idle) (unlocked : v.zone_locks ≡ []) (number : ℕ) (numbered : v.number ≡ Some number) where
      leads_u : Leads v (gives locks v) u
      leads_u = ready_leads v (gives locks v) ended.ready (drawless v (gives locks v) (let same = ap (λ (z : View). length z.entries) ended.given in omega (arith, same)))

      works_w : WorksAlone o header pool start (steps ++ (gives locks v ++ ended.reclaims.steps)) w
      works_w = record {
        begins = works.begins;
        leads = leads_then start v w steps (gives locks v ++ ended.reclaims.steps) works.leads (leads_then v u w (gives locks v) ended.reclaims.steps leads_u ended.reclaims.leads);
        numbered = subst (AreNumbered 1) (sym (ap (λ (z : View). z.entries) ended.reclaims.same ∙ ap (λ (z : View). z.entries) ended.given)) works.numbered;
        within =
            let calls = ap (λ (z : View). z.calls) ended.reclaims.same ∙ ap (λ (z : View). z.calls) ended.given in
            let stop = ap (λ (z : View). z.stop) ended.reclaims.same ∙ ap (λ (z : View). z.stop) ended.given in
            λ s is. subst (λ n. n ≤ s) (sym calls) (works.within s (sym stop ∙ is));
      }

      stands_w : StandsAlone o header pool w
      stands_w = stands_at o header pool start (steps ++ (gives locks v ++ ended.reclaims.steps)) w works_w.begins works_w.leads works_w.numbered works_w.within

      fits_w : LaneFits o (memory_of w) (settled o stands_w.log stands_w.decided) (Flies stands_w.log stands_w.decided 0) 0 w
      fits_w = own_fits o header pool w stands_w

      no_run : ReservesNoRun w.lanes w
      no_run = reserves_no_run o (heap_words o (memory_of w)) w fits_w.blocks fits_w.lane.lanes fits_w.lane.zones (ended_makes_none at lane v locks kept unlocked ended)

      rests_w : RestsBehindCall w
      rests_w = record {
        idle = ap (λ (z : View). z.log) ended.reclaims.same ∙ (ap (λ (z : View). z.log) ended.given ∙ idle);
        changes = none_filled w ended.drained;
        free = ended.rests.free;
        unlocked = ap (λ (z : View). z.zone_locks) ended.reclaims.same ∙ (ap (λ (z : View). z.zone_locks) ended.given ∙ unlocked);
        no_run = no_run;
        number = number;
        numbered = ap (λ (z : View). z.number) ended.reclaims.same ∙ (ap (λ (z : View). z.number) ended.given ∙ numbered);
      }

      pub given_up_begins_again : BeginsAgain (standing o w) header pool w
      given_up_begins_again = begins_again o header pool start w (steps ++ (gives locks v ++ ended.reclaims.steps)) works_w rests_w

  -- ---- what it may do as it works alone

  module _ (start v : View) (steps : List Step) (works : WorksAlone o header pool start steps v) where
    pub given_up_may_end : IsAlone v → IsNotMaking v → IsAfterCall at lane v → MayEnd at lane v
    given_up_may_end alone quiet behind = record { behind = behind; alone = alone; taken = knows_at_work o header pool start v steps works (subst (λ n. ReservesNoRun n v) (fits_v o header pool start v steps works).lane.lanes (none_run o header pool start v steps works quiet)) }

    pub may_allocate : (blocks : BlockLists) → IsAtWorkWith o at lane blocks v → MayAllocate o at lane blocks v
    may_allocate blocks is = record {
      works = is;
      can = makes_alone o header pool start v steps lane.shape works (record {
        alone = is.alone;
        working = is.work.working;
        of_shape = is.work.seen.shape;
        unlocked = is.not_making.unlocked;
        plain = ap (list_any _) is.work.no_entries;
        zones = (let zones = (fits_v o header pool start v steps works).lane.zones in let few = is.work.zones in let count = (stands_v o header pool start v steps works).zone_count in omega (arith, zones, few, count));
        runs = (let pages = (stands_v o header pool start v steps works).pages in let size = (stands_v o header pool start v steps works).goes.world.sound.size in let long = (fits_v o header pool start v steps works).lane.size in let lanes = (fits_v o header pool start v steps works).lane.lanes in let zones = (fits_v o header pool start v steps works).lane.zones in omega (arith, pages, size, long, lanes, zones));
        no_run = none_run o header pool start v steps works is.not_making;
      });
    }
