-- What a publish outside of a transaction has once it tried the locks of the objects that are named, and looked for the objects.
use Rattle.std.specs.Prelude.{◌≡◌, ◌⊎◌, ℕ, ◌+◌, ◌*◌, ◌/◌, ◌<◌, true, false, All, Contains, List, [], length, slice_index, Some, Result, Ok, Err}
use Rattle.std.specs.List.{Any}
use Rattle.solo_crash.specs.CallBlocks.{FreeNoRoot}
use Rattle.solo_crash.specs.OnActions.{CanFree, CanSet, PassesObject}
use Rattle.solo_crash.specs.Operations.{IsHeld, TakesWanted}
use Rattle.solo_crash.specs.Pending.{pending_before}
use Rattle.solo_crash.specs.Reserved.{root_in}
use Rattle.solo_model.specs.Actions.{Action, Pending, wants_for, wants_pending}
use Rattle.solo_model.specs.Actions.Action.{SetWord}
use Rattle.pm_objects.specs.declared.calls.Operation.TheVariants.{Publish}
use Rattle.pm_objects.specs.declared.history.Value.TheVariants.{Refused}
use Rattle.pm_objects.specs.declared.ids.Oid.{Oid}
use Rattle.pm_objects.specs.declared.refusal.Refusal.{Refusal}
use Rattle.pm_objects.specs.declared.refusal.Refusal.TheVariants as refusal
use Rattle.solo_pending.specs.Pending.{sets_of}
use Rattle.solo_pending.specs.AllPending.{IsPendingAs}
use Rattle.solo_pending.specs.declared.actions.SetAction.{SetAction}
use Rattle.solo_pending.specs.declared.pending.PendingActions.{PendingActions}
use Rattle.solo_tx.specs.Ending.{LiesUnlocked}
use Rattle.solo_undo.specs.Working.{FindsOpening}
use Rattle.solo_view.specs.Blocks.{is_chunk}
use Rattle.solo_view.specs.Steps.{Step}
use Rattle.solo_view.specs.View.{View}
use Rattle.solo_world.specs.Opening.{IsSound, Opening}
use Rattle.solo_world.specs.declared.lane.Lane.{Lane}
use Rattle.solo_lock.specs.Begun.{IsBegun}
use Rattle.solo_lock.specs.Finding.{FindsObjects}
use Rattle.solo_lock.specs.Lacking.{LacksObject}
use Rattle.solo_lock.specs.Leading.{IsLed}
use Rattle.solo_lock.specs.Locking.{IsBusy}
use Rattle.solo_action.specs.BegunAlone.{BeginsAlone}
use Rattle.solo_action.specs.Outside.{IsToldOutside}

-- the id is of the view's pool, and eight bytes at this offset pass the end of its object, by the size that the view's words have in the object's header
pub record IsTooShort (v : View) (id : Oid) (off : ℕ) : Type 0 where
  pub line : ℕ
  pub of_pool : id.pool ≡ v.pool
  pub place : id.off ≡ 64 * line + 64
  pub past : slice_index v.words (8 * line + 1) < off + 8

-- by the view's words the action passes the end of its object
abbrev pub Overruns : View → Action → Type 0
Overruns v (SetWord id off value) = IsTooShort v id off

-- the lane holds the object for writing, knows its size, and holds it in a chunk of the pool
pub record HoldsObject (v : View) (id : Oid) : Type 0 where
  pub held : IsHeld v id true
  pub known : Contains v.known (8 * held.lock.line + 1)
  pub chunk : is_chunk v.lanes (held.lock.line / 64) ≡ true
  pub inside : held.lock.line < length v.words / 8

abbrev pub HoldsEach : View → List SetAction → Type 0
HoldsEach v actions = All (λ (a : SetAction). HoldsObject v a.id) actions

-- from the one view to the other the lane looked again at words that it knows
pub record LooksAgain (v w : View) : Type 0 where
  pub led : IsLed v w
  pub same : w ≡ record v { known = w.known; seen = w.seen }
  pub remembers : (u : ℕ) → Contains v.known u → Contains w.known u
  pub saw : (s : Step) → Contains v.seen s → Contains w.seen s

-- and the memory is seen so, with this
pub record HasLookedAgain (at : View → Type 0) (v : View) (Q : View → Type 0) : Type 0 where
  pub view : View
  pub looks : LooksAgain v view
  pub there : at view
  pub holds : Q view

-- the lane holds exactly the objects of these actions, for writing, found each, and each action sets a word of its object
pub record HoldsActions (v : View) (actions : List Action) : Type 0 where
  pub takes : TakesWanted v [] (wants_for actions)
  pub objects : FindsObjects v
  pub each : All (CanSet v) actions

-- from the view before, without a counted call, the call went on to a view at which nothing is told or drawn yet, and this holds
pub record GoesOnTo {M : Type 0} (at : M → View → Type 0) (lane : Lane M) (v : View) (Q : View → Type 0) : Type 0 where
  pub view : View
  pub led : IsLed v view
  pub begun : IsBegun at lane view
  pub entries : view.entries ≡ v.entries
  pub holds : Q view

-- ---- all that is pending

-- what the lists name, whatever is reserved
abbrev pub named_in : PendingActions → Pending
named_in list = record { sets = sets_of list.sets.items; frees = list.frees.items; reserved = []; late = list.late }

-- The lane holds exactly the objects that are named, for writing, and found each. None was asked for late, of an object that was to be freed already, and none that is to be freed
-- is the root; each of these can be freed, and each action sets a word of its object
pub record HoldsPending (v : View) (p : Pending) : Type 0 where
  pub takes : TakesWanted v [] (wants_pending p)
  pub objects : FindsObjects v
  pub in_time : p.late ≡ false
  pub not_root : FreeNoRoot (root_in (slice_index v.words)) p.frees
  pub frees : All (CanFree v) p.frees
  pub each : All (CanSet v) p.sets

-- it holds them so, but one was asked for late
pub record HoldsLate (v : View) (p : Pending) : Type 0 where
  pub takes : TakesWanted v [] (wants_pending p)
  pub objects : FindsObjects v
  pub late : p.late ≡ true

-- or none was, and one that is to be freed is the root
pub record HoldsRoot (v : View) (p : Pending) : Type 0 where
  pub takes : TakesWanted v [] (wants_pending p)
  pub objects : FindsObjects v
  pub in_time : p.late ≡ false
  pub root : Any (λ (id : Oid). slice_index v.words 64 ≡ id.off) p.frees

-- or none is, and an action passes its object's end
pub record HoldsShort (v : View) (p : Pending) : Type 0 where
  pub takes : TakesWanted v [] (wants_pending p)
  pub objects : FindsObjects v
  pub in_time : p.late ≡ false
  pub not_root : FreeNoRoot (root_in (slice_index v.words)) p.frees
  pub some : Any (PassesObject v) p.sets

-- why a publish of what is pending is refused: by the view's words something that is named is no object, or the lane holds the objects, and one was asked for late; an object that is
-- to be freed is the root; or an action passes its object's end
abbrev pub IsHoldReason : View → Pending → Refusal → Type 0
IsHoldReason v p refusal.NoObject = Any (LacksObject v) (wants_pending p) ⊎ HoldsLate v p
IsHoldReason v p refusal.RootKept = HoldsRoot v p
IsHoldReason v p refusal.OutOfRange = HoldsShort v p
IsHoldReason v p r = ⊥

-- what a try to hold the objects that are named, of a call that has begun, leaves with this answer: the lane holds them, or rests, since a lock was
-- another lane's; or there is this reason to refuse the publish, and the lane holds some locks still
abbrev pub SeeksObjects : {M T : Type 0} → (M → View → Type 0) → Lane M → Pending → View → Result T Refusal → Type 0
SeeksObjects at lane p v (Ok done) = GoesOnTo at lane v (λ w. HoldsPending w p)
SeeksObjects at lane p v (Err refusal.Busy) = IsBusy at lane v
SeeksObjects at lane p v (Err r) = GoesOnTo at lane v (λ w. IsHoldReason w p r)

-- the publish was refused with NoObject, and told so, and by the words of the view then something that is named is no object; or one was asked for late
pub record HasFoundNone {M : Type 0} (at : M → View → Type 0) (lane : Lane M) (p : Pending) (v : View) : Type 0 where
  pub told : IsToldOutside at lane v Publish (Some (Refused refusal.NoObject))
  pub lacking : Any (LacksObject told.view) (wants_pending p) ⊎ (p.late ≡ true)

-- the publish was refused with RootKept, and told so: without a counted call or a draw it came to hold the objects that are named, of which one that is to be freed is the root, and
-- looked at no word since
pub record HasFoundRoot {M : Type 0} (at : M → View → Type 0) (lane : Lane M) (p : Pending) (v : View) : Type 0 where
  pub told : IsToldOutside at lane v Publish (Some (Refused refusal.RootKept))
  pub holding : View
  pub led : IsLed v holding
  pub undrawn : holding.entries ≡ v.entries
  pub holds : HoldsRoot holding p
  pub words : told.view.words ≡ holding.words

-- the publish was refused with OutOfRange, and told so: it came to hold the objects, and an action passes its object's end
pub record HasFoundShort {M : Type 0} (at : M → View → Type 0) (lane : Lane M) (p : Pending) (v : View) : Type 0 where
  pub told : IsToldOutside at lane v Publish (Some (Refused refusal.OutOfRange))
  pub holding : View
  pub led : IsLed v holding
  pub undrawn : holding.entries ≡ v.entries
  pub holds : HoldsShort holding p
  pub words : told.view.words ≡ holding.words

-- what a publish that is refused so leaves: the lane rests. Busy is not told
abbrev pub RefusesToHold : {M : Type 0} → (M → View → Type 0) → Lane M → Pending → View → Refusal → Type 0
RefusesToHold at lane p v refusal.Busy = IsBusy at lane v
RefusesToHold at lane p v refusal.NoObject = HasFoundNone at lane p v
RefusesToHold at lane p v refusal.RootKept = HasFoundRoot at lane p v
RefusesToHold at lane p v refusal.OutOfRange = HasFoundShort at lane p v
RefusesToHold at lane p v r = ⊥

-- why the objects are not held
abbrev pub IsHoldCause : Refusal → Type 0
IsHoldCause refusal.Busy = Unit {0}
IsHoldCause refusal.NoObject = Unit {0}
IsHoldCause refusal.RootKept = Unit {0}
IsHoldCause refusal.OutOfRange = Unit {0}
IsHoldCause r = ⊥

-- ---- a call that has begun

-- what the view finds of blocks is as at a sound opening, and nothing undrained lies under a lock of the lane
pub record FindsSound (v : View) : Type 0 where
  pub opening : Opening
  pub sound : IsSound opening
  pub finds : FindsOpening opening v
  pub apart : LiesUnlocked v

-- and so it is wherever the lane goes on to without a counted call, as some memory is seen
abbrev pub StaysSound : {M : Type 0} → (M → View → Type 0) → View → Type 0
StaysSound {M} at v = (memory : M) (w : View) → IsLed v w → at memory w → FindsSound w

-- the lane is alone, its call has begun with nothing told, what it has reserved stands, and it finds the pool sound; the lists are what is pending
pub record BeginsToPublish {M : Type 0} (at : M → View → Type 0) (lane : Lane M) (pending : PendingActions) (w : View) : Type 0 where
  pub begins : BeginsAlone at lane w
  pub sound : StaysSound at w
  pub listed : IsPendingAs pending (pending_before w)
