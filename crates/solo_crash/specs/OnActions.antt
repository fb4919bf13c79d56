-- What a lane's view shows of a call on pending actions, inside of a transaction and outside.
use Rattle.std.specs.Prelude.{◌≡◌, ◌⊎◌, ℕ, ◌+◌, ◌%◌, ◌==◌, ◌<◌, ◌≤◌, not, nat_le, false, true, All, if◌then◌else◌, [], ◌∷◌, length, map, option_map, Option, Some, None}
use Rattle.std.specs.List.{Any}
use Rattle.pm_objects.specs.declared.calls.Operation.{Operation}
use Rattle.pm_objects.specs.declared.calls.Operation.TheVariants.{Cancel, DeferFree, Publish, SetValue}
use Rattle.pm_objects.specs.declared.calls.Want.{Want}
use Rattle.pm_objects.specs.declared.history.Value.{Value}
use Rattle.pm_objects.specs.declared.history.Value.TheVariants.{Refused}
use Rattle.pm_objects.specs.declared.ids.Oid.{Oid}
use Rattle.pm_objects.specs.declared.refusal.Refusal.{Refusal}
use Rattle.pm_objects.specs.declared.refusal.Refusal.TheVariants as refusal
use Rattle.solo_model.specs.Actions.{Action, Pending, max_actions, max_entries, object_of, only_sets, pending_count, wants_pending}
use Rattle.solo_model.specs.Actions.Action.{SetWord}
use Rattle.solo_view.specs.View.{View}
use Rattle.solo_world.specs.Records.{pool_entries}
use Rattle.solo_crash.specs.CallBlocks.{CallBlocks, IsOldIn, blocks_behind, blocks_in}
use Rattle.solo_crash.specs.Operations.{has_at, HasNewRange, HasRange, IsGone, IsHeld, IsLeft, IsMade, KeepsLog, KeepsWords, PassesEnd, PassesNewEnd, TakesWanted, Tells}
use Rattle.solo_crash.specs.Pending.{pending_before, pending_in, published_in, sets_before, sets_in}
use Rattle.solo_crash.specs.Performing.{IsWord, entry_for}

-- ---- what is asked of the actions alone

-- why a set-value at an offset is refused, if it is, where this is pending: it is at no multiple of eight bytes, or there is no
-- room for one more
abbrev pub set_refusal : ℕ → Pending → Option Refusal
set_refusal off p = if not (off % 8 == 0) then Some refusal.Unaligned else if nat_le max_actions (pending_count p) then Some refusal.ActionsFull else None

-- and why a free that is deferred is: there is no room for one more
abbrev pub defer_refusal : Pending → Option Refusal
defer_refusal p = if nat_le max_actions (pending_count p) then Some refusal.ActionsFull else None

-- what a call on the pending actions alone answers, whatever the pool
abbrev pub IsPendingAnswer : Pending → Operation → Option Value → Type 0
IsPendingAnswer p (SetValue id off value) reply = reply ≡ option_map Refused (set_refusal off p)
IsPendingAnswer p (DeferFree id) reply = reply ≡ option_map Refused (defer_refusal p)
IsPendingAnswer p Cancel reply = reply ≡ None
IsPendingAnswer p op reply = ⊥

-- ---- in a transaction

-- the lane told such a call, and did nothing else
pub record ChangesPending (v next : View) (op : Operation) (reply : Option Value) : Type 0 where
  pub tells : Tells v next op reply
  pub logs : KeepsLog v next
  pub words : KeepsWords v next
  pub answer : IsPendingAnswer (pending_in v) op reply

-- the lane holds the action's object for writing, and what it sets is a word of that object
abbrev pub CanSet : View → Action → Type 0
CanSet v (SetWord id off value) = HasRange v id off 8 true × IsWord (SetWord id off value)

-- it holds the object, and the action passes its end
abbrev pub PassesObject : View → Action → Type 0
PassesObject v (SetWord id off value) = PassesEnd v id off 8 true

-- so many entries the transaction would have with all that is pending, that of its lane's generation among them
abbrev pub entries_wanted : View → ℕ
entries_wanted v = length (published_in v) + length (sets_in v) + 1

-- what is set is a word of an object that the call made and has, which needs no lock
abbrev pub CanSetNew : View → Action → Type 0
CanSetNew v (SetWord id off value) = HasNewRange v id off 8 × IsWord (SetWord id off value)

-- or the action passes such an object's end
abbrev pub PassesNewObject : View → Action → Type 0
PassesNewObject v (SetWord id off value) = PassesNewEnd v id off 8

-- the call found the object of the action, and did not free it
abbrev pub IsOnOld : View → Action → Type 0
IsOnOld v a = IsOldIn v (object_of a).off

-- what can be set in a call that may have made and freed objects: a word of an object that it found and did not free, or of one that it made and has
abbrev pub CanSetIn : View → Action → Type 0
CanSetIn v a = (CanSet v a × IsOnOld v a) ⊎ CanSetNew v a

-- and what passes the end of such an object
abbrev pub PassesIn : View → Action → Type 0
PassesIn v a = (PassesObject v a × IsOnOld v a) ⊎ PassesNewObject v a

-- an object can be freed: the lane holds it for writing and found its block, which has a line
abbrev pub CanFree : View → Oid → Type 0
CanFree v id = (held : IsHeld v id true) × (1 ≤ held.lines)

-- so it can in such a call if the call neither made nor freed it, and so can one that the call made and has
abbrev pub CanFreeIn : View → Oid → Type 0
CanFreeIn v id = (CanFree v id × IsOldIn v id.off) ⊎ IsMade v id

-- what the call has made and freed once what is pending is published
abbrev pub blocks_published : View → CallBlocks
blocks_published v = blocks_behind Publish None (pending_in v) (blocks_in v)

-- so many entries the transaction has then, that of its lane's generation among them
abbrev pub entries_published : View → ℕ
entries_published v = entries_wanted v + (length (blocks_published v).made + length (blocks_published v).freed)

-- All that is pending can be published in such a call, the lane told so, and did nothing else: no object was to be freed before something else was asked of it,
-- each that is to be freed can be, each word can be set, and the log has room
pub record PublishesIn (v next : View) : Type 0 where
  pub tells : Tells v next Publish None
  pub logs : KeepsLog v next
  pub words : KeepsWords v next
  pub in_time : (pending_in v).late ≡ false
  pub frees : All (CanFreeIn v) (pending_in v).frees
  pub each : All (CanSetIn v) (sets_in v)
  pub room : entries_published v ≤ max_entries

-- the lane has not the object for writing: its call made none there, and it holds no such lock
abbrev pub LacksObject : View → Oid → Type 0
LacksObject v id = id.pool ≡ v.pool → has_at v id.off true ≡ false

-- it has it, whether it is gone or not
abbrev pub HasObject : View → Oid → Type 0
HasObject v id = (id.pool ≡ v.pool) × (has_at v id.off true ≡ true)

-- the lane has not the object of the action for writing
abbrev pub LacksObjectOf : View → Action → Type 0
LacksObjectOf v a = LacksObject v (object_of a)

-- it has it, whether it is gone or not
abbrev pub HasObjectOf : View → Action → Type 0
HasObjectOf v a = HasObject v (object_of a)

-- it has it, and it is not gone
abbrev pub IsOnLeft : View → Action → Type 0
IsOnLeft v a = IsLeft v (object_of a) true

-- the lane has each object that is to be freed or set, none is gone, and none was to be freed before something else was asked of it
pub record HasAllLeft (v : View) : Type 0 where
  pub in_time : (pending_in v).late ≡ false
  pub left : All (λ (want : Want). IsLeft v want.id true) (wants_pending (pending_in v))

-- what is pending could be published, but the log has no room for its entries
pub record HasNoRoom (v : View) : Type 0 where
  pub in_time : (pending_in v).late ≡ false
  pub frees : All (CanFreeIn v) (pending_in v).frees
  pub each : All (CanSetIn v) (sets_in v)
  pub full : max_entries < entries_published v

-- Why such a publish is refused: the first of these that holds of all that is pending. Which object is the root is not asked for here: the reply tells it
-- (`TellsOfRoot`). No object is in a list or has members
abbrev pub IsPublishReasonIn : View → Refusal → Type 0
IsPublishReasonIn v refusal.NotLocked = Any (λ (want : Want). LacksObject v want.id) (wants_pending (pending_in v))
IsPublishReasonIn v refusal.NoObject =
    All (λ (want : Want). HasObject v want.id) (wants_pending (pending_in v))
    × (((pending_in v).late ≡ true) ⊎ Any (λ (want : Want). IsGone v want.id true) (wants_pending (pending_in v)))
IsPublishReasonIn v refusal.RootKept = HasAllLeft v × (1 ≤ length (pending_in v).frees)
IsPublishReasonIn v refusal.OutOfRange = HasAllLeft v × Any (PassesIn v) (sets_in v)
IsPublishReasonIn v refusal.ActionsFull = HasNoRoom v
IsPublishReasonIn v r = ⊥

-- ---- outside of a transaction

-- a call on the pending actions alone is told, and is all of the call
pub record ChangesPendingOutside (v : View) (op : Operation) (reply : Option Value) : Type 0 where
  pub call : v.call ≡ record { operation = op; reply = reply } ∷ []
  pub no_records : v.log.records ≡ []
  pub no_entries : v.log.entries ≡ []
  pub answer : IsPendingAnswer (pending_before v) op reply

-- the lane holds each object that is to be freed or set, and found it
pub record HoldsNamed (v : View) : Type 0 where
  pub in_lanes : v.lane < v.lanes
  pub takes : TakesWanted v [] (wants_pending (pending_before v))

-- and none was to be freed before something else was asked of it
pub record HoldsInTime (v : View) : Type 0 where
  pub holds : HoldsNamed v
  pub in_time : (pending_before v).late ≡ false

-- words alone are pending, and published: the lane has an entry for each action, in their order
pub record PublishesOutside (v : View) : Type 0 where
  pub call : v.call ≡ record { operation = Publish; reply = None } ∷ []
  pub no_records : v.log.records ≡ []
  pub alone : pending_before v ≡ only_sets (sets_before v)
  pub holds : HoldsNamed v
  pub each : All (CanSet v) (sets_before v)
  pub entries : pool_entries v ≡ map entry_for (sets_before v)

-- All that is pending is published: the lane told nothing of its call before, holds each object in time, each that is to be freed can be, and each word can be set;
-- it told the publish, and recorded no word
pub record PublishesAll (v next : View) : Type 0 where
  pub untold : v.call ≡ []
  pub tells : Tells v next Publish None
  pub words : KeepsWords v next
  pub no_records : next.log.records ≡ []
  pub holds : HoldsInTime v
  pub frees : All (CanFree v) (pending_before v).frees
  pub each : All (CanSet v) (sets_before v)

-- Why a publish outside is refused: an object is missing, which the model allows wherever one is named; or the root would be freed, of which the reply tells
-- (`TellsOfRoot`); or an action passes its object's end
abbrev pub IsOutsideReason : View → Refusal → Type 0
IsOutsideReason v refusal.NoObject = 1 ≤ length (wants_pending (pending_before v))
IsOutsideReason v refusal.RootKept = HoldsInTime v × (1 ≤ length (pending_before v).frees)
IsOutsideReason v refusal.OutOfRange = HoldsInTime v × Any (PassesObject v) (sets_before v)
IsOutsideReason v r = ⊥

-- the lane refused to publish what is pending, and told so
pub record RefusesOutside (v : View) (r : Refusal) : Type 0 where
  pub call : v.call ≡ record { operation = Publish; reply = Some (Refused r) } ∷ []
  pub no_records : v.log.records ≡ []
  pub no_entries : v.log.entries ≡ []
  pub reason : IsOutsideReason v r
