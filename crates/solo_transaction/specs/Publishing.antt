-- A publish of pending actions in a transaction that may have made and freed objects (pmemobj_tx_publish(3)): what it leaves, done, refused or stopped.
use Rattle.std.specs.Prelude.{◌≡◌, ◌≤◌, All, false, List, None, Some, slice_index}
use Rattle.solo_crash.specs.CallBlocks.{FreeNoRoot, TellsOfRoot}
use Rattle.solo_crash.specs.OnActions.{CanFreeIn, CanSetIn, IsPublishReasonIn, PublishesIn, entries_published}
use Rattle.solo_crash.specs.Pending.{pending_in, sets_in}
use Rattle.solo_crash.specs.Reserved.{root_in}
use Rattle.solo_model.specs.Actions.{max_entries, none_pending}
use Rattle.solo_made.specs.Made.{BlockLists}
use Rattle.pm_objects.specs.declared.calls.Operation.TheVariants.{Publish}
use Rattle.pm_objects.specs.declared.history.Value.TheVariants.{Refused}
use Rattle.pm_objects.specs.declared.refusal.Refusal.{Refusal}
use Rattle.solo_tx.specs.Ending.{IsEndedBy, IsStoppedIn}
use Rattle.solo_tx.specs.Sequences.{gives_up}
use Rattle.solo_view.specs.Steps.Step.{Tell}
use Rattle.solo_view.specs.View.{View}
use Rattle.solo_view.specs.Views.{after}
use Rattle.solo_world.specs.Opening.{Opening}
use Rattle.solo_world.specs.declared.lane.Lane.{Lane}
use Rattle.solo_world.specs.declared.lane.Span.{Span}
use Rattle.solo_transaction.specs.AtWork.{IsAtWorkWith}

-- all that is pending can be published: nothing was asked for late, each object that is to be freed can be, and is not the root by the lane's words, each word can
-- be set, and the log has room
pub record CanPublish (v : View) : Type 0 where
  pub in_time : (pending_in v).late ≡ false
  pub frees : All (CanFreeIn v) (pending_in v).frees
  pub each : All (CanSetIn v) (sets_in v)
  pub not_root : FreeNoRoot (root_in (slice_index v.words)) (pending_in v).frees
  pub room : entries_published v ≤ max_entries

-- there is this reason to refuse the publish, to which the root agrees by the lane's words
pub record IsPublishRefused (v : View) (r : Refusal) : Type 0 where
  pub reason : IsPublishReasonIn v r
  pub root : TellsOfRoot (root_in (slice_index v.words)) Publish (Some (Refused r)) (pending_in v)

-- from the view before, the lane told the publish, is at work still with these lists, and that is the plain model's: nothing is pending any more
pub record HasPublishedWith {M : Type 0} (o : Opening) (at : M → View → Type 0) (lane : Lane M) (blocks : BlockLists) (v : View) : Type 0 where
  pub works : IsAtWorkWith o at lane blocks (after v (Tell Publish None))
  pub publishes : PublishesIn v (after v (Tell Publish None))
  pub none : pending_in (after v (Tell Publish None)) ≡ none_pending

-- there was this reason to refuse the publish, and so the call with these records was given up by it
pub record IsPublishGivenUp {M : Type 0} (at : M → View → Type 0) (lane : Lane M) (spans : List Span) (r : Refusal) (w : View) : Type 0 where
  pub reason : IsPublishReasonIn w r
  pub ended : IsEndedBy at lane w (gives_up spans Publish (Some (Refused r)) lane.last) Publish (Some (Refused r))

-- the lane stopped while it gave the call up, for a reason to refuse the publish
pub record IsPublishStopped {M : Type 0} (at : M → View → Type 0) (lane : Lane M) (spans : List Span) (w : View) : Type 0 where
  pub refusal : Refusal
  pub reason : IsPublishReasonIn w refusal
  pub stopped : IsStoppedIn at lane w (gives_up spans Publish (Some (Refused refusal)) lane.last) Publish (Some (Refused refusal))
