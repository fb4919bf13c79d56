-- What a lane at work leaves where it gives up all that is pending: docs/FORMAT.md, "Sequences".
use Rattle.std.specs.Prelude.{◌≡◌, None}
use Rattle.pm_objects.specs.declared.calls.Operation.TheVariants.{Cancel}
use Rattle.solo_model.specs.Actions.{none_pending}
use Rattle.solo_crash.specs.Pending.{pending_in}
use Rattle.solo_view.specs.Steps.Step.{Tell}
use Rattle.solo_view.specs.View.{View}
use Rattle.solo_view.specs.Views.{after_all}
use Rattle.solo_world.specs.Opening.{Opening}
use Rattle.solo_world.specs.Sequences.{Ready, Sequence, in_turn, one, settles}
use Rattle.solo_world.specs.declared.lane.Lane.{Lane}
use Rattle.solo_lock.specs.Leading.{DrawEnded}
use Rattle.solo_tx.specs.AtWork.{IsAtWork}

-- all that is undrained is made persistent, and the cancel is told
unfoldable pub cancels : Sequence
cancels = in_turn settles (one (Tell Cancel None))

-- from the view before, the lane gave up all that was pending, and is at work still. No number was drawn
pub record HasCanceled {M : Type 0} (o : Opening) (at : M → View → Type 0) (lane : Lane M) (v : View) : Type 0 where
  pub ready : Ready v (cancels v)
  pub draws : DrawEnded v (cancels v)
  pub works : IsAtWork o at lane (after_all v (cancels v))
  pub none : pending_in (after_all v (cancels v)) ≡ none_pending
