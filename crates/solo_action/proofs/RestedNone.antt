-- A lane that works alone and rests behind a call, with nothing pending: it begins again, and rests there with nothing reserved.
use Rattle.std.proofs.Common.{◌≡◌, inl, inr, All, List, [], map, refl, sym, ap, ◌∙◌, subst}
use Rattle.std.proofs.lemmas.List.Elements.{All-nil}
use Rattle.pm_header.specs.declared.header.Header.{Header}
use Rattle.pm_layout.specs.declared.shape.Shape.{Shape}
use Rattle.solo_model.specs.Actions.{Pending, none_pending}
use Rattle.pm_objects.specs.declared.pool.PoolView.{PoolView}
use Rattle.solo_view.specs.Founds.{IsAlone}
use Rattle.solo_view.specs.Log.{no_log}
use Rattle.solo_view.specs.Log.Phase.{Idle}
use Rattle.solo_view.specs.Steps.{Step}
use Rattle.solo_view.specs.View.{View}
use Rattle.solo_world.proofs.Filled.{none_filled}
use Rattle.solo_world.specs.Lanes.{IsOfShape}
use Rattle.solo_world.specs.Opening.{Opening}
use Rattle.solo_crash.specs.Alone.{BeginsAgain, WorksAlone, standing}
use Rattle.solo_crash.specs.CallBlocks.{reserved_object}
use Rattle.solo_crash.specs.Leading.{Leads}
use Rattle.solo_crash.specs.Pending.{pending_before}
use Rattle.solo_crash.proofs.ReservedOn.{none_reserved}
use Rattle.solo_epoch.specs.Epochs.{ReservesNoRun}
use Rattle.solo_epoch.specs.Reserving.{with_next_call}
use Rattle.solo_epoch.proofs.NothingReserved.{rests_with_none}
use Rattle.solo_epoch.proofs.RestingLanes.{begins_at_rest}
use Rattle.solo_transaction.specs.AtWork.{IsNotMaking, LiesInReserved}
use Rattle.solo_transaction.proofs.RestingViews.{next_of, next_pending}
use Rattle.solo_transaction.proofs.StandsBehindBegin.{works_inside}
use Rattle.solo_action.specs.Outside.{RestsStill}
use Rattle.solo_action.proofs.AloneAtRest.{works_no_run}

module _ (o : Opening) (header : Header) (pool : PoolView) (start x : View) (steps : List Step) (works : WorksAlone o header pool start steps x) (alone : IsAlone x) (idle : x.log ≡ no_log Idle) (drained : x.changes ≡ []) (free : x.locks ≡ []) (quiet : IsNotMaking x)
    (none : pending_before x ≡ none_pending) where
  no_run : ReservesNoRun x.lanes x
  no_run = works_no_run o header pool start x steps works quiet

  begins_there : BeginsAgain (standing o x) header pool x
  begins_there = begins_at_rest o header pool start x steps works (record { idle = idle; changes = none_filled x drained; free = free; unlocked = quiet.unlocked; no_run = no_run })

  works_again : WorksAlone (standing o x) header pool x [] x
  unfolding Leads
  works_again = record { begins = inr begins_there; leads = refl; numbered = works.numbered; within = works.within }

  pub rests_empty : (shape : Shape) → IsOfShape x shape → RestsStill o header pool x shape
  rests_empty shape of_shape = record {
    rests = rests_with_none (standing o x) header pool x [] x shape works_again idle free quiet.unlocked alone of_shape no_run (ap (λ (p : Pending). p.reserved) none);
    stands = record {
      stands = none_reserved (with_next_call x) (ap (λ (p : Pending). p.reserved) (next_pending x (with_next_call x) (next_of x (works_inside o header pool start x steps works) (inl idle)) ∙ none));
      within = subst (λ (p : Pending). All (LiesInReserved x) (map reserved_object p.reserved)) (sym none) (All-nil (LiesInReserved x));
    };
    quiet = quiet;
  }
