-- WHAT IS PENDING IS CANCELLED once all that is undrained is persistent: the lane is at work then.
use Rattle.std.proofs.Common.{◌≡◌, [], ◌∷◌, refl, sym, ap, ◌∙◌, subst, None}
use Rattle.pm_objects.specs.declared.calls.Operation.TheVariants.{Cancel}
use Rattle.pm_view.specs.Steps.Step.{Tell}
use Rattle.pm_view.specs.View.{View}
use Rattle.pm_view.specs.Views.{after, after_all}
use Rattle.pm_world.specs.LaneFields.{Standing, at_work, moved}
use Rattle.pm_world.specs.Lawful.{Allowed}
use Rattle.pm_plan.specs.Plans.{Ready, in_turn, one, persists_all}
use Rattle.pm_plan.proofs.Going.{persists_all_lawful}
use Rattle.pm_plan.proofs.Plans.{after_all-append, ready_both}
use Rattle.pm_call.specs.At.{At}
use Rattle.pm_call.specs.Did.{next}
use Rattle.pm_call.specs.Plans.{cancels}
use Rattle.pm_call.specs.Publishing.{CancelsMayBeTold, LeadsCancel}
use Rattle.pm_call.proofs.Persisted.{IsDrained, drained_at, drained_by, drained_view}
use Rattle.pm_call.proofs.PublishedWords.{cancel_stands, cancel_unrefused}

-- a cancel is told after all else
pub cancels_after : (v : View)
    → after_all v (cancels v) ≡ after (after_all v (persists_all v)) (Tell Cancel None)
unfolding in_turn one after_all
cancels_after v = after_all-append v (persists_all v) (Tell Cancel None ∷ [])

pub cancels_ready : (v : View) → Ready v (persists_all v)
    → Allowed (after_all v (persists_all v)) (Tell Cancel None) → Ready v (cancels v)
unfolding in_turn one Ready
cancels_ready v first may = ready_both v (persists_all v) (Tell Cancel None ∷ []) first (may, tt, tt)

module _ (s : Standing) (at : At s) where
  abbrev w : View
  w = after_all s.view (persists_all s.view)

  d : IsDrained s.view w s.view.log.records
  d = drained_by s.view at.working at.unbumped s.view.log.records refl

  abbrev p : View
  p = drained_view s s.level at s.view.log.records refl w d

  here : At (moved s p)
  here = drained_at s s.level at s.view.log.records refl w d

  pub cancel_allowed : Allowed (after_all s.view (persists_all s.view)) (Tell Cancel None)
  cancel_allowed = subst (λ (y : View). Allowed y (Tell Cancel None)) (sym d.same) here.working.is_open

  cancelled_view : after_all s.view (cancels s.view) ≡ after p (Tell Cancel None)
  cancelled_view = cancels_after s.view ∙ ap (λ (y : View). after y (Tell Cancel None)) d.same

  pub cancel_fields : at_work (next s cancels) ≡ record (at_work s) { pending = [] }
  cancel_fields = ap (λ (y : View). at_work (moved s y)) cancelled_view

  pub leads_cancel : LeadsCancel s
  leads_cancel = record {
    unrefused = cancel_unrefused s at;
    ready = cancels_ready s.view (persists_all_lawful s.view).0 cancel_allowed;
    stands = subst (λ (y : View). At (moved s y)) (sym cancelled_view) (cancel_stands (moved s p) here);
  }

pub pending_words_may_be_cancelled : CancelsMayBeTold
pending_words_may_be_cancelled s at = leads_cancel s at
