-- WHAT A CANCEL CAME TO at a lane: all is made persistent, and it is told; or the lane stopped.
use Rattle.std.proofs.Common.{◌≡◌, true, [], refl, sym, ap, ◌∙◌, subst, None, Some, Ok, Err}
use Rattle.pm_memory.specs.Runs.{Made}
use Rattle.pm_memory.specs.declared.lane_mem.Stopped.{Stopped}
use Rattle.pm_objects.specs.declared.calls.Operation.TheVariants.{Cancel}
use Rattle.pm_objects.specs.declared.refusal.Refusal.{Refusal}
use Rattle.pm_objects.specs.declared.refusal.Refusal.TheVariants as refusal
use Rattle.pm_view.specs.Steps.{Step}
use Rattle.pm_view.specs.Steps.Step.{Tell}
use Rattle.pm_view.specs.View.{View}
use Rattle.pm_view.specs.Views.{after_all}
use Rattle.pm_world.specs.LaneFields.{Fields, fields_of}
use Rattle.pm_world.specs.Lawful.{Allowed}
use Rattle.pm_world.specs.declared.lane.Lane.{Lane}
use Rattle.pm_plan.specs.Plans.{IsReady, Runs, persists_all}
use Rattle.pm_plan.proofs.Going.{persists_all_lawful}
use Rattle.pm_call.specs.Did.{IsAt, work_refusal}
use Rattle.pm_call.specs.Plans.{tells}
use Rattle.pm_call.proofs.CancelledWords.{cancel_allowed, cancel_fields, cancels_after, leads_cancel}
use Rattle.pm_call.proofs.RollbackLanes.{ran_err}
use Rattle.pm_action.specs.Inside.{Cancelled, CancelledSo}

module _ {M : Type 0} (at : M → View → Type 0) (old : Lane M) where
  pub cancelled_nothing : (r : Refusal) → Some r ≡ work_refusal old → Cancelled at old old (Err r)
  unfolding Cancelled
  cancelled_nothing r e = subst (λ o. CancelledSo o at old old (Err r)) e (refl, refl)

  pub persist_may : IsAt at old → IsReady (at old.memory) persists_all
  unfolding IsReady
  persist_may is = (
    is.standing.view,
    (is.works.memory, (persists_all_lawful is.standing.view).0),
  )

  -- all is persistent, and it may be told
  pub tell_may : (mid : M) → IsAt at old → Runs {T = Unit {0}} (at old.memory) (at mid) persists_all (Ok tt)
      → (v : View) × at mid v × Allowed v (Tell Cancel None)
  unfolding Runs
  tell_may mid is runs = (
    after_all is.standing.view (persists_all is.standing.view),
    runs is.standing.view is.works.memory (persists_all_lawful is.standing.view).0,
    cancel_allowed is.standing is.stands,
  )

  pub was_stopped : (mid : M) (new : Lane M) (stopped : Stopped) (answer : Refusal)
      → None ≡ work_refusal old
      → Runs {T = Unit {0}} (at old.memory) (at mid) persists_all (Err stopped)
      → answer ≡ refusal.Stopped → new ≡ record old { memory = mid; stopped = true }
      → Cancelled at old new (Err answer)
  unfolding Cancelled Runs
  was_stopped mid new stopped answer none runs is same =
      subst (λ r. Cancelled at old new (Err r)) (sym is)
      (subst (λ l. Cancelled at old l (Err refusal.Stopped)) (sym same)
      (subst (λ o. CancelledSo o at old (record old { memory = mid; stopped = true }) (Err refusal.Stopped)) none
      (λ s works stands. (
        (leads_cancel s stands).unrefused,
        record {
          working = stands.working;
          ready = (leads_cancel s stands).ready;
          stops = ran_err (at mid) s.view persists_all (tells Cancel None) stopped
              (leads_cancel s stands).ready
              (runs s.view works.memory (persists_all_lawful s.view).0);
          fields = ap (λ (f : Fields). record f {
            generation = old.log.generation;
            records = old.log.records.items;
            stopped = true;
          }) works.fields;
          facts = (leads_cancel s stands).stands.facts;
        },
      ))))

  module _ (may : View → Step → Type 0) (grants : (v : View) (s : Step) → Allowed v s → may v s)
      (mid : M) (new : Lane M) where
    pub was_cancelled : None ≡ work_refusal old
        → Runs {T = Unit {0}} (at old.memory) (at mid) persists_all (Ok tt)
        → Made may (at mid) (at new.memory) (Tell Cancel None)
        → fields_of new ≡ record (fields_of old) { pending = [] } → Cancelled at old new (Ok tt)
    unfolding Cancelled Runs
    was_cancelled none runs made same = subst (λ o. CancelledSo o at old new (Ok tt)) none (λ s works stands.
        let l = leads_cancel s stands in
        let w : View = after_all s.view (persists_all s.view) in
        let all = runs s.view works.memory (persists_all_lawful s.view).0 in
        record {
          unrefused = l.unrefused;
          ready = l.ready;
          works = record {
            memory = subst (at new.memory) (sym (cancels_after s.view))
                (made w all (grants w (Tell Cancel None) (cancel_allowed s stands))).0;
            fields = same
                ∙ (ap (λ (f : Fields). record f { pending = [] }) works.fields
                ∙ sym (cancel_fields s stands));
          };
          stands = l.stands;
        })
