-- What the ends of a call leave of its view, and of its lane.
use Rattle.std.specs.Prelude.{◌≡◌, ◌⊎◌, ℕ, All, false, true, List, [], ◌∷◌, ◌++◌, take, Option, Some, None}
use Rattle.pm_objects.specs.declared.calls.Operation.{Operation}
use Rattle.pm_objects.specs.declared.calls.Operation.TheVariants.{Commit}
use Rattle.pm_objects.specs.declared.history.TxErr.{TxErr}
use Rattle.pm_objects.specs.declared.history.Value.{Value}
use Rattle.solo_memory.specs.Runs.{Stops}
use Rattle.solo_crash.specs.CallBlocks.{KeepsBlocks, blocks_in}
use Rattle.solo_crash.specs.OpenCall.{IsGivenUp, WasAborted}
use Rattle.solo_crash.specs.Operations.{TakesBack, Tells}
use Rattle.solo_crash.specs.Reserved.{IsBorneOut}
use Rattle.solo_undo.specs.Working.{HasArea, IsSameCall, IsWorking}
use Rattle.solo_view.specs.declared.change.Change.{Change}
use Rattle.solo_view.specs.Founds.{IsAlone}
use Rattle.solo_view.specs.Held.{is_under}
use Rattle.solo_view.specs.Log.{no_log}
use Rattle.solo_view.specs.Constants.{IsSameLane}
use Rattle.solo_view.specs.Log.Phase.{Idle, Open}
use Rattle.solo_view.specs.View.{Lock, Numbered, Told, View}
use Rattle.solo_view.specs.Views.{after_all}
use Rattle.solo_world.specs.Lanes.{IsSeenAs, last_number_of}
use Rattle.solo_world.specs.Opening.{Opening}
use Rattle.solo_world.specs.Sequences.{Sequence, Ready, settles}
use Rattle.solo_world.specs.declared.lane.Lane.{Lane}
use Rattle.solo_world.specs.declared.lane.Span.{Span}
use Rattle.solo_lock.specs.Begun.{HoldsLines}
use Rattle.solo_lock.specs.Leading.{DrawEnded}
use Rattle.solo_lock.specs.Resting.{HasPlace, IsAtRest, MayRest}
use Rattle.solo_tx.specs.AtWork.{IsAtWork, PublishesLocked}
use Rattle.solo_tx.specs.Generations.{CanPublish}
use Rattle.solo_tx.specs.Publishing.{MayPublish}
use Rattle.pm_record.specs.declared.redo.Redo.{Redo}
use Rattle.solo_tx.specs.Sequences.{commits, completes, decides, decides_all, ends_call, logs_listed}

-- some view that the lane may be seen as is at work, without redo entries
abbrev pub IsWorkingLane : {M : Type 0} → (M → View → Type 0) → Lane M → Type 0
IsWorkingLane at lane = (v : View) × (IsSeenAs at lane v × IsWorking v × (v.log.entries ≡ []))

-- the call is open still, with every recorded word as it was, no records, and nothing undrained
pub record IsTakenBack (v w : View) : Type 0 where
  pub call : IsSameCall v w
  pub log : w.log ≡ no_log (Open [] [])
  pub drained : w.changes ≡ []
  pub takes_back : TakesBack v w

-- the lane is at work, whatever it was opened with, as some view
abbrev pub IsLaneAtWork : {M : Type 0} → (M → View → Type 0) → Lane M → Type 0
IsLaneAtWork at lane = (o : Opening) × ((v : View) × IsAtWork o at lane v)

-- some view that the lane may be seen as is at work, and the entries that the lane lists may be published with its commit
abbrev pub MayCommitCall : {M : Type 0} → (M → View → Type 0) → Lane M → Type 0
MayCommitCall at lane = (v : View) × (IsSeenAs at lane v × IsWorking v × CanPublish v lane.entries.items)

-- the memory may be seen as a view from which the lane may make the sequence, whatever number it draws
unfoldable pub IsReadyForAny : (View → Type 0) → (ℕ → Sequence) → Type 0
IsReadyForAny at steps = (v : View) × (at v × ((n : ℕ) → Ready v (steps n v)))

-- with these records and these redo entries the call may be decided, whatever number it draws: the entries may be published, or, without any, the
-- records ended
abbrev pub CanDecide : View → List Span → List Redo → Type 0
CanDecide v spans [] = HasArea v × ((n : ℕ) → Ready v (decides spans n v))
CanDecide v spans (e ∷ entries) = MayPublish v (e ∷ entries)

-- the memory may be seen as a view from which a call with these records and these redo entries may be decided
abbrev pub IsDecidable : (View → Type 0) → List Span → List Redo → Type 0
IsDecidable at spans entries = (v : View) × (at v × CanDecide v spans entries)

-- the view once the entries are logged, the commit is told and the call drew this number
abbrev pub decided_view : View → List Redo → ℕ → View
decided_view v entries n = after_all (after_all v (logs_listed entries v)) (ends_call Commit None n (after_all v (logs_listed entries v)))

-- and the one where all was made persistent before
abbrev pub drawn_view : View → List Redo → ℕ → View
drawn_view v entries n = decided_view (after_all v (settles v)) entries n

-- from each such view the call drew this number, and the lane stopped behind that
abbrev pub StopsEnded : (View → Type 0) → (View → Type 0) → List Span → List Redo → ℕ → Type 0
StopsEnded old new spans entries n = (v : View) → old v → Ready v (decides_all spans entries n v) → Stops new (decided_view v entries n) (completes spans entries (decided_view v entries n))

-- from each such view the commit drew this number, and the lane stopped behind that
abbrev pub StopsDrawn : (View → Type 0) → (View → Type 0) → List Span → List Redo → ℕ → Type 0
StopsDrawn old new spans entries n = (v : View) → old v → Ready v (commits spans entries n v) → Stops new (drawn_view v entries n) (completes spans entries (drawn_view v entries n))

-- the call was given up with this error, and is one of a lane alone's history: whatever pool was before it, or from each that may be, which what the lane has
-- bears out
abbrev pub EndsGivenUp : View → TxErr → Type 0
EndsGivenUp v error = IsGivenUp v error ⊎ (WasAborted v error × IsBorneOut v)

-- The open call may be given up: it told nothing of the heap, or its lane is alone, and what that has bears out what the call told.
abbrev pub MayGiveUp : View → Type 0
MayGiveUp v = KeepsBlocks v ⊎ (IsAlone v × IsBorneOut v)

-- It may be committed, with no change of a block to publish: it told nothing of the heap, or has nothing that it made and freed nothing that it found, what
-- the lane has bears that out, and each action that it published is of a word under a lock. One on an object that the call made and freed again is not: that
-- is entered as a change of the heap.
abbrev pub PublishesNoBlock : View → Type 0
PublishesNoBlock v = KeepsBlocks v ⊎ (((blocks_in v).made ≡ []) × ((blocks_in v).freed ≡ []) × IsBorneOut v × PublishesLocked v)

-- once it is taken back, with all that the lane reserved, and this operation is told, the call is given up with this error
abbrev pub GivesUpBy : View → Operation → Option Value → TxErr → Type 0
GivesUpBy v operation reply error = (next : View) → Tells v next operation reply → TakesBack v next → next.reserved ≡ v.reserved → EndsGivenUp next error

-- no call is open any more: it drew this number, the lane's last, its log is empty, nothing is undrained, and the lane holds the locks that it held
pub record IsOver (v w : View) (n : ℕ) : Type 0 where
  pub lane : IsSameLane v w
  pub locks : w.locks ≡ v.locks
  pub log : w.log ≡ no_log Idle
  pub drained : w.changes ≡ []
  pub number : w.number ≡ Some n
  pub last : last_number_of w.entries ≡ n

-- no call is open any more: it drew this number, the lane's last, its log is empty, and the lane has its locks and what was undrained still
pub record IsToldAs (v w : View) (n : ℕ) : Type 0 where
  pub lane : IsSameLane v w
  pub locks : w.locks ≡ v.locks
  pub log : w.log ≡ no_log Idle
  pub changes : w.changes ≡ v.changes
  pub number : w.number ≡ Some n
  pub last : last_number_of w.entries ≡ n

-- the lane is between its call and the end of its transaction: no call is open, no entry is listed, nothing is undrained, and it holds its locks
-- still
pub record IsAfterCall {M : Type 0} (at : M → View → Type 0) (lane : Lane M) (v : View) : Type 0 where
  pub seen : IsSeenAs at lane v
  pub unstopped : lane.stopped ≡ false
  pub unlisted : lane.entries.items ≡ []
  pub log : v.log ≡ no_log Idle
  pub drained : v.changes ≡ []
  pub lines : HoldsLines v
  pub place : HasPlace v

-- nothing undrained lies under a lock of the lane
abbrev pub LiesUnlocked : View → Type 0
LiesUnlocked v = All (λ (c : Change). All (λ (l : Lock). is_under c.word l ≡ false) v.locks) v.changes

-- the lane is between a call and its rest: no call is open, no entry is listed, nothing is undrained but what may be at rest, and that under none of the
-- locks, which the lane holds still
pub record IsAfterTold {M : Type 0} (at : M → View → Type 0) (lane : Lane M) (v : View) : Type 0 where
  pub seen : IsSeenAs at lane v
  pub unstopped : lane.stopped ≡ false
  pub unlisted : lane.entries.items ≡ []
  pub log : v.log ≡ no_log Idle
  pub undrained : MayRest v
  pub apart : LiesUnlocked v
  pub lines : HoldsLines v
  pub place : HasPlace v

abbrev pub IsLaneAfterTold : {M : Type 0} → (M → View → Type 0) → Lane M → Type 0
IsLaneAfterTold at lane = (v : View) × IsAfterTold at lane v

abbrev pub IsLaneAfterCall : {M : Type 0} → (M → View → Type 0) → Lane M → Type 0
IsLaneAfterCall at lane = (v : View) × IsAfterCall at lane v

-- the call with one more operation, told with its reply
abbrev pub told_more : List Told → Operation → Option Value → List Told
told_more call operation reply = call ++ record { operation = operation; reply = reply } ∷ []

-- the entries with one more: this call drew this number
abbrev pub drawn_more : List Numbered → ℕ → List Told → List Numbered
drawn_more entries n call = entries ++ record { number = n; call = call } ∷ []

-- the steps were made, what they draw is an ended call's, and then no call is open: it came to this operation with its reply, and its entry
-- is the last
pub record IsEndedBy {M : Type 0} (at : M → View → Type 0) (lane : Lane M) (v : View) (steps : Sequence) (operation : Operation) (reply : Option Value) : Type 0 where
  pub ready : Ready v (steps v)
  pub draws : DrawEnded v (steps v)
  pub behind : IsAfterCall at lane (after_all v (steps v))
  pub over : IsOver v (after_all v (steps v)) lane.last
  pub told : (after_all v (steps v)).call ≡ told_more v.call operation reply
  pub entries : (after_all v (steps v)).entries ≡ drawn_more v.entries lane.last (after_all v (steps v)).call

-- the call drew this number, and its entry is the last
pub record IsDrawnAs (v w : View) (n : ℕ) : Type 0 where
  pub number : w.number ≡ Some n
  pub entries : w.entries ≡ drawn_more v.entries n w.call

-- and came to this operation with its reply
abbrev pub IsDrawnBy : View → View → Operation → Option Value → ℕ → Type 0
IsDrawnBy v w operation reply n = (w.call ≡ told_more v.call operation reply) × IsDrawnAs v w n

-- the call drew no number, and no entry came
abbrev pub IsUndrawn : View → View → Type 0
IsUndrawn v w = (w.number ≡ None) × (w.entries ≡ v.entries)

-- the call drew no number, or it came to this operation with its reply and its entry is the last
pub record IsDrawnOrNot (v w : View) (operation : Operation) (reply : Option Value) : Type 0 where
  pub told : (w.number ≡ None) ⊎ (w.call ≡ told_more v.call operation reply)
  pub entries : ((w.number ≡ None) × (w.entries ≡ v.entries)) ⊎ ((n : ℕ) × IsDrawnAs v w n)

-- the first of the steps were made, up to the lane's stop. The lane tells the number that its call drew by then, if it did
pub record IsStoppedAmong {M : Type 0} (at : M → View → Type 0) (lane : Lane M) (v : View) (steps : Sequence) (operation : Operation) (reply : Option Value) : Type 0 where
  pub ready : Ready v (steps v)
  pub stops : Stops (at lane.memory) v (steps v)
  pub stopped : lane.stopped ≡ true
  pub drawn : lane.drawn ≡ (after_all v (take stops.made (steps v))).number
  pub came : IsDrawnOrNot v (after_all v (take stops.made (steps v))) operation reply

-- the first of the steps were made, up to the lane's stop: what they draw is an ended call's. The lane tells the number that its call drew
-- by then, if it did
pub record IsStoppedIn {M : Type 0} (at : M → View → Type 0) (lane : Lane M) (v : View) (steps : Sequence) (operation : Operation) (reply : Option Value) : Type 0 where
  pub ready : Ready v (steps v)
  pub draws : DrawEnded v (steps v)
  pub stops : Stops (at lane.memory) v (steps v)
  pub stopped : lane.stopped ≡ true
  pub drawn : lane.drawn ≡ (after_all v (take stops.made (steps v))).number
  pub came : IsDrawnOrNot v (after_all v (take stops.made (steps v))) operation reply

-- the steps gave every lock back, nothing else changed that the lane keeps, and it rests
pub record IsClosedBy {M : Type 0} (at : M → View → Type 0) (lane : Lane M) (v : View) (steps : Sequence) : Type 0 where
  pub ready : Ready v (steps v)
  pub rests : IsAtRest at lane (after_all v (steps v))
  pub same : after_all v (steps v) ≡ record v { locks = []; known = (after_all v (steps v)).known }
