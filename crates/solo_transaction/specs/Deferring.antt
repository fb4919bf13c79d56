-- A free that is deferred and a word that is to be set, in a transaction (pmemobj_defer_free(3), pmemobj_set_value(3)): what either leaves: docs/MODEL.md,
-- "Transactions that make objects".
use Rattle.std.specs.Prelude.{Option, option_map}
use Rattle.pm_objects.specs.declared.calls.Operation.{Operation}
use Rattle.pm_objects.specs.declared.history.Value.TheVariants.{Refused}
use Rattle.pm_objects.specs.declared.refusal.Refusal.{Refusal}
use Rattle.solo_view.specs.Steps.Step.{Tell}
use Rattle.solo_view.specs.View.{View}
use Rattle.solo_view.specs.Views.{after}
use Rattle.solo_world.specs.Opening.{Opening}
use Rattle.solo_world.specs.declared.lane.Lane.{Lane}
use Rattle.solo_crash.specs.Pending.{pending_in}
use Rattle.solo_made.specs.Made.{BlockLists}
use Rattle.solo_pending.specs.AllPending.{IsPendingAs}
use Rattle.solo_pending.specs.declared.pending.PendingActions.{PendingActions}
use Rattle.solo_transaction.specs.AtWork.{IsAtWorkWith}

-- from the view before, the lane told the operation, or its refusal, and no more: it is at work still, and lists what is pending then
pub record HasToldPending {M : Type 0} (o : Opening) (at : M → View → Type 0) (lane : Lane M) (blocks : BlockLists) (pending : PendingActions) (v : View) (op : Operation) (refused : Option Refusal) : Type 0 where
  pub works : IsAtWorkWith o at lane blocks (after v (Tell op (option_map Refused refused)))
  pub listed : IsPendingAs pending (pending_in (after v (Tell op (option_map Refused refused))))
