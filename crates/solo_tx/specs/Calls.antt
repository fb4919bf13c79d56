-- What the calls on ranges leave where they are done, refused or stopped: each looks at words first.
use Rattle.std.specs.Prelude.{◌⊎◌, ℕ, List, None, Some}
use Rattle.solo_crash.specs.Operations.{IsReason}
use Rattle.solo_model.specs.Checks.{Range}
use Rattle.pm_objects.specs.declared.calls.Operation.{Operation}
use Rattle.pm_objects.specs.declared.history.Value.TheVariants.{Refused}
use Rattle.pm_objects.specs.declared.refusal.Refusal.{Refusal}
use Rattle.solo_undo.specs.Working.{IsWorking}
use Rattle.solo_view.specs.View.{View}
use Rattle.solo_world.specs.Sequences.{Sequence}
use Rattle.solo_world.specs.declared.lane.Lane.{Lane}
use Rattle.solo_world.specs.declared.lane.Span.{Span}
use Rattle.solo_tx.specs.Ending.{IsEndedBy, IsStoppedIn}
use Rattle.solo_tx.specs.Learning.{Looks}
use Rattle.solo_tx.specs.Sequences.{gives_up}

-- from the view before, the lane looked at some words at most, is at work, and this holds of its view then
pub record HasLooked (v : View) (Q : View → Type 0) : Type 0 where
  pub loads : ℕ
  pub view : View
  pub looks : Looks loads v view
  pub working : IsWorking view
  pub holds : Q view

-- there was this reason to refuse the operation on the range, and so the call with these records was given up by it
pub record IsGivenUpFor {M : Type 0} (at : M → View → Type 0) (lane : Lane M) (spans : List Span) (op : Operation) (range : Range) (r : Refusal) (w : View) : Type 0 where
  pub reason : IsReason w op range r
  pub ended : IsEndedBy at lane w (gives_up spans op (Some (Refused r)) lane.last) op (Some (Refused r))

-- the lane stopped while it gave the call up, for a reason to refuse the operation on the range
pub record IsStoppedFor {M : Type 0} (at : M → View → Type 0) (lane : Lane M) (spans : List Span) (op : Operation) (range : Range) (w : View) : Type 0 where
  pub refusal : Refusal
  pub reason : IsReason w op range refusal
  pub stopped : IsStoppedIn at lane w (gives_up spans op (Some (Refused refusal)) lane.last) op (Some (Refused refusal))

-- the lane stopped in the steps of the operation, which it could make, or while it gave the call up
abbrev pub IsStoppedAt : {M : Type 0} → (M → View → Type 0) → Lane M → List Span → Operation → Range → (View → Type 0) → Sequence → View → Type 0
IsStoppedAt at lane spans op range Can steps w = (Can w × IsStoppedIn at lane w steps op None) ⊎ IsStoppedFor at lane spans op range w
