-- A LANE AT WORK LOCKS OBJECTS, as a law: it takes the locks that are wanted, finds an object
-- under each, raises those that are to be written, and tells the operation; and it is at work
-- then, with the longer list of locks. pmemobj_tx_lock(3), and pmemobj_tx_begin(3) of an inner
-- level.
use Rattle.std.specs.Prelude.{◌≡◌, ◌⊎◌, ℕ, ◌+◌, ◌<◌, ◌≤◌, Bool, true, false, Contains, List, [], ◌∷◌, ◌++◌, length, map, None, Some}
use Rattle.std.specs.List.{AllByRecursion}
use Rattle.pm_layout.specs.Areas.{greatest_generation, redo_entries, word_of_seal}
use Rattle.pm_model.specs.Transaction.{Transaction, is_locked}
use Rattle.pm_objects.specs.declared.history.TxErr.TheVariants as error
use Rattle.pm_objects.specs.declared.calls.Operation.{Operation}
use Rattle.pm_objects.specs.declared.calls.Operation.TheVariants.{Begin, Lock}
use Rattle.pm_objects.specs.declared.calls.Want.{Want}
use Rattle.pm_view.specs.Places.{Place}
use Rattle.pm_view.specs.Steps.{Step}
use Rattle.pm_view.specs.Steps.Step.{NumberSeen, Tell}
use Rattle.pm_view.specs.View.{View}
use Rattle.pm_view.specs.Views.{after, after_all, value_in}
use Rattle.pm_world.specs.InWorld.{IsSound, SizesFit}
use Rattle.pm_world.specs.Sights.{is_recorded}
use Rattle.pm_crash.specs.Facts.{HaveFacts}
use Rattle.pm_world.specs.LaneFields.{Standing, moved}
use Rattle.pm_world.specs.Lawful.{Allowed}
use Rattle.pm_world.specs.declared.lane.HeldLock.{HeldLock}
use Rattle.pm_crash.specs.Sim.{MayTell, Sim, lists_of}
use Rattle.pm_undo.specs.Records.{kept_by}
use Rattle.pm_undo.specs.Spans as spans
use Rattle.pm_undo.specs.Working.{IsWorking}
use Rattle.pm_lock.specs.Acquiring.{AreFinds, MayWant}
use Rattle.pm_lock.specs.Holding.{IsTaken}
use Rattle.pm_lock.specs.Objects.{HasLooked, IsOfWorld, StandsAt}
use Rattle.pm_lock.specs.Raising.{raised, raises}
use Rattle.pm_lock.specs.Wants.{has_unplaced, wanted, wants_to_write}
use Rattle.pm_call.specs.At.{At, IsDataOf, MaySet, MayTakeNumber, entries_so_far, set_entry}
use Rattle.pm_call.specs.Held.{AreHeld, HoldsAll, KnowsOwn, is_in_locks}
use Rattle.pm_call.specs.Quiet.{WentQuietly}
use Rattle.pm_call.specs.Waiting.{HasPending, pending_now}
use Rattle.pm_call.specs.Did.{IsUnrefused}
use Rattle.pm_call.specs.Stages.{IsBetween}

-- ---- WHICH LOCKS

-- those that the lane takes, the lines that are to be written, and its list then
abbrev pub to_take : Standing → List Want → List HeldLock
to_take s wants = wanted s.view.fixed.shape s.view.fixed.pool s.locks [] wants

abbrev pub to_write : Standing → List Want → ℕ → Bool
to_write s wants = wants_to_write s.view.fixed.shape s.view.fixed.pool wants

abbrev pub locks_with : Standing → List Want → List HeldLock
locks_with s wants = raised (to_write s wants) (s.locks ++ to_take s wants)

-- ---- WHAT IT DOES

-- it takes them, by tries or by waits; looks under each, and finds an object, and its view is one
-- of a world then, or none was to be taken; and it raises those that are to be written
pub record TakesLocks (s : Standing) (wants : List Want) (x : View) : Type 0 where
  pub taken : View
  pub takes : IsTaken s.view (to_take s wants) taken
  pub told : (n : Step) → Contains s.view.seen n → Contains taken.seen n
  pub looks : List Step
  pub finds : AreFinds s.view.fixed.shape (to_take s wants) looks
  pub stays : HasLooked taken (after_all taken looks)
  pub objects : AllByRecursion (λ (l : HeldLock). StandsAt (after_all taken looks) l.line)
      (to_take s wants)
  pub world : IsOfWorld (after_all taken looks) ⊎ (to_take s wants ≡ [])
  pub raises_ : x ≡ after_all (after_all taken looks)
      (raises (to_write s wants) (s.locks ++ to_take s wants))
  pub quiet : WentQuietly s.view x

-- THE LANE MAY LOCK: its call is open, and its lists are the model's, whatever the level
pub record AgreesOn (s : Standing) (tx : Transaction) : Type 0 where
  pub locks : (off : ℕ) (write : Bool)
      → is_locked tx.locks off write ≡ is_in_locks s.locks off write
  pub count : length tx.locks ≡ length s.locks
  pub recorded : tx.recorded ≡ spans.words_in (kept_by s.view)
  pub records : tx.records ≡ length s.view.log.records
  pub blocks : (tx.made ≡ []) × (tx.dropped ≡ []) × (tx.freed ≡ [])
  -- what is pending follows from what was told, with its replies
  pub pending : tx.pending ≡ pending_now s.view
  pub sets : s.entries ≡ map set_entry tx.sets
  pub may_set : AllByRecursion (MaySet s) tx.sets
  pub error_is : tx.error ≡ error.None

-- these are all locks that it holds
pub record CanLockWith (s : Standing) (all : List HeldLock) : Type 0 where
  pub working : IsWorking s.view
  pub unbumped : s.view.log.bumped ≡ false
  pub sound : IsSound s.view
  pub sizes : SizesFit s.view
  pub sealed : value_in s.view (word_of_seal s.view.fixed.shape s.view.fixed.lane) ≡ Some 0
  pub number : MayTakeNumber s.view
  pub held : AreHeld s.view s.locks
  pub holds : HoldsAll s.view all
  pub own : KnowsOwn s.view
  pub room : length s.entries < redo_entries s.view.fixed.shape
  pub recorded : (p : Place) → is_recorded s.view.log.records p ≡ true → IsDataOf s.view p
  pub lists : AgreesOn s (lists_of s.view)
  pub pending : HasPending s.view
  pub sim : Sim s.view (entries_so_far s)
  pub facts : HaveFacts s.view
  pub tells : MayTell s.view

-- those of its list alone
abbrev pub CanLock : Standing → Type 0
CanLock s = CanLockWith s s.locks

-- the operation that wants them, and the level then
abbrev pub IsLocking : Operation → List Want → ℕ → ℕ → Type 0
IsLocking (Lock want) wants level next = (wants ≡ want ∷ []) × (next ≡ level)
IsLocking (Begin these) wants level next = (wants ≡ these) × (next ≡ level + 1) × (level < 64)
IsLocking op wants level next = ⊥

-- it is not refused: each id has a place, and the locks are not too many
pub record MayLock (s : Standing) (op : Operation) (wants : List Want) (level : ℕ)
    : Type 0 where
  pub is : IsLocking op wants s.level level
  pub placed : has_unplaced s.view.fixed.shape s.view.fixed.pool wants ≡ false
  pub few : length s.locks + length (to_take s wants) ≤ 64

-- ---- WHAT THAT LEAVES

abbrev pub locked_with : Standing → Operation → List Want → ℕ → View → Standing
locked_with s op wants level x = record s {
  view = after x (Tell op None);
  locks = locks_with s wants;
  level = level;
}

pub record LeadsLocks (s : Standing) (op : Operation) (wants : List Want) (level : ℕ)
    (x : View) : Type 0 where
  pub unrefused : IsUnrefused (moved s x) op
  pub allowed : Allowed x (Tell op None)
  pub stands : At (locked_with s op wants level x)

-- THE LAW: a lane at work may take more, and tell the operation
abbrev pub ObjectsMayBeLocked : Type 0
ObjectsMayBeLocked = (s : Standing) (op : Operation) (wants : List Want) (level : ℕ) (x : View)
    → At s → MayLock s op wants level → TakesLocks s wants x → LeadsLocks s op wants level x

-- and pm_lock may be asked for them
abbrev pub LocksMayBeWanted : Type 0
LocksMayBeWanted = (s : Standing) → CanLock s → MayWant s.view s.view.fixed.shape s.locks []

-- so may a lane at work
abbrev pub LanesAtWorkMayLock : Type 0
LanesAtWorkMayLock = (s : Standing) → At s → CanLock s

-- ---- THE OUTERMOST LEVEL BEGINS

-- the call is open, and told nothing and recorded nothing; the lane holds no lock
pub record IsOpened (s : Standing) : Type 0 where
  pub working : IsWorking s.view
  pub unbumped : s.view.log.bumped ≡ false
  pub sound : IsSound s.view
  pub sizes : SizesFit s.view
  pub sealed : value_in s.view (word_of_seal s.view.fixed.shape s.view.fixed.lane) ≡ Some 0
  pub number : MayTakeNumber s.view
  pub call : s.view.call ≡ []
  pub records : s.view.log.records ≡ []
  pub drained : s.view.changes ≡ []
  pub locks : s.locks ≡ []
  pub holds : HoldsAll s.view []
  pub own : KnowsOwn s.view
  pub entries : s.entries ≡ []
  pub pending : HasPending s.view
  pub facts : HaveFacts s.view

-- it may lock
abbrev pub OpenedLanesMayLock : Type 0
OpenedLanesMayLock = (s : Standing) → IsOpened s → CanLock s

-- THE LAW: such a lane may take the locks that are wanted, and tell the begin; it is at work then
abbrev pub TransactionsMayBegin : Type 0
TransactionsMayBegin = (s : Standing) (wants : List Want) (x : View) → IsOpened s
    → has_unplaced s.view.fixed.shape s.view.fixed.pool wants ≡ false
    → length s.locks + length (to_take s wants) ≤ 64 → TakesLocks s wants x
    → LeadsLocks s (Begin wants) wants 1 x

-- ---- A CALL OPENS

-- THE LAW: between two calls one opens as the lane sees a number that is not the last, where its
-- generation is not the last either
abbrev pub CallsMayOpen : Type 0
CallsMayOpen = (s : Standing) (n : ℕ) → IsBetween s
    → s.view.log.generation < greatest_generation s.view.fixed.shape
    → n < greatest_generation s.view.fixed.shape
    → IsOpened (moved s (after s.view (NumberSeen n)))
