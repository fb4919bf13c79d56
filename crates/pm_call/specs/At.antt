-- A LANE AT WORK IN A TRANSACTION, between two of its operations: by plain data alone. Its log may grow; each object whose lock it has is found; its lists are
-- those of the model's transaction that its operations led to; and from whatever bits it agrees with, what it told leads the model there.
use Rattle.std.specs.Prelude.{◌≡◌, ℕ, ◌+◌, ◌/◌, ◌%◌, ◌^◌, ◌<◌, ◌≤◌, Bool, true, false, Contains, List, [], length, map, Some, None}
use Rattle.std.specs.List.{AllByRecursion}
use Rattle.pm_layout.specs.Areas.{greatest_generation, redo_entries, word_of_seal}
use Rattle.pm_objects.specs.declared.history.TxErr.TheVariants as error
use Rattle.pm_model.specs.Pending.{SetWord}
use Rattle.pm_model.specs.Transaction.{Transaction, is_locked, is_working}
use Rattle.pm_record.specs.declared.redo.Op.TheVariants as op
use Rattle.pm_record.specs.declared.redo.Redo.{Redo}
use Rattle.pm_view.specs.Entries.{Entry}
use Rattle.pm_view.specs.Places.{Place, word_of}
use Rattle.pm_view.specs.Steps.Step.{NumberSeen}
use Rattle.pm_view.specs.View.{View}
use Rattle.pm_view.specs.Views.{value_in}
use Rattle.pm_world.specs.InWorld.{IsSound, SizesFit}
use Rattle.pm_world.specs.LaneFields.{Standing}
use Rattle.pm_world.specs.declared.lane.HeldLock.{HeldLock}
use Rattle.pm_world.specs.Sights.{is_recorded}
use Rattle.pm_crash.specs.Facts.{HaveFacts}
use Rattle.pm_crash.specs.Footprints.{has_found}
use Rattle.pm_crash.specs.Looked.{KnowsSize, size_seen, word_place, words_in}
use Rattle.pm_crash.specs.Sim.{Sim, lists_of}
use Rattle.pm_crash.specs.SimFacts.{is_begun}
use Rattle.pm_undo.specs.Records.{kept_by}
use Rattle.pm_undo.specs.Spans as spans
use Rattle.pm_undo.specs.Working.{IsWorking}
use Rattle.pm_call.specs.Held.{AreHeld, AreLines, HoldsAll, KnowsOwn, is_in_locks}
use Rattle.pm_call.specs.Waiting.{HasPending, pending_now}

-- the entries of the blocks that the call made and freed so far: none, as long as no call of a transaction makes or frees a block
abbrev pub entries_so_far : Standing → List Entry
entries_so_far s = []

-- a word of an object to be set, as an entry of the lane's list; its object is held for writing, and has the word
abbrev pub set_entry : SetWord → Redo
set_entry a = record { place = a.id.off + a.off; op = op.Set; value = a.value }

pub record MaySet (s : Standing) (a : SetWord) : Type 0 where
  pub locked : is_in_locks s.locks a.id.off true ≡ true
  pub aligned : a.off % 8 ≡ 0
  pub size : ℕ
  pub sized : size_seen s.view a.id.off ≡ Some size
  pub inside : a.off + 8 ≤ size
  pub small : a.value < 2 ^ 64

-- THE LANE'S LISTS ARE THOSE OF THE MODEL'S TRANSACTION at this level
pub record AreLists (s : Standing) (level : ℕ) (tx : Transaction) : Type 0 where
  pub level_is : tx.level ≡ level
  pub works : is_working tx.stage ≡ true
  pub locks : (off : ℕ) (write : Bool) → is_locked tx.locks off write ≡ is_in_locks s.locks off write
  pub count : length tx.locks ≡ length s.locks
  pub recorded : tx.recorded ≡ spans.words_in (kept_by s.view)
  pub records : tx.records ≡ length s.view.log.records
  pub blocks : (tx.made ≡ []) × (tx.dropped ≡ []) × (tx.freed ≡ [])
  -- what is pending follows from what was told, with its replies
  pub pending : tx.pending ≡ pending_now s.view
  -- the words that it published are entries to be logged
  pub sets : s.entries ≡ map set_entry tx.sets
  pub may_set : AllByRecursion (MaySet s) tx.sets
  pub error_is : tx.error ≡ error.None

-- a recorded word is of the data of an object that the lane found, and of which it knows the size: in a line that the object has. The lane knows the word too
pub record IsDataOf (v : View) (p : Place) : Type 0 where
  pub off : ℕ
  pub object : KnowsSize v [] off
  pub found : has_found v object.block ≡ true
  pub index : ℕ
  pub at : p ≡ word_place v object.block index
  pub data_ : 8 ≤ index
  pub within : index < words_in v object.block
  pub alive : index / 8 ≤ (object.size + 63) / 64
  pub value : ℕ
  pub known : value_in v (word_of v.fixed.shape p) ≡ Some value
  pub small : value < 2 ^ 64

-- the call saw that it may take a number, and took none
pub record MayTakeNumber (v : View) : Type 0 where
  pub seen : ℕ
  pub told : Contains v.seen (NumberSeen seen)
  pub below : seen < greatest_generation v.fixed.shape
  pub none : v.number ≡ None

-- AT WORK at this level of the model's transaction, where these are all locks that the lane holds: more than its transaction has, once an operation got some and was refused
pub record IsAtWith (s : Standing) (level : ℕ) (all : List HeldLock) : Type 0 where
  pub working : IsWorking s.view
  pub unbumped : s.view.log.bumped ≡ false
  pub begun : is_begun s.view.call ≡ true
  pub some : 1 ≤ level
  pub most : level ≤ 64
  pub sound : IsSound s.view
  pub sizes : SizesFit s.view
  pub sealed : value_in s.view (word_of_seal s.view.fixed.shape s.view.fixed.lane) ≡ Some 0
  pub number : MayTakeNumber s.view
  pub held : AreHeld s.view s.locks
  pub lines : AreLines s.view.fixed.shape s.locks
  pub few : length s.locks ≤ 64
  pub holds : HoldsAll s.view all
  pub own : KnowsOwn s.view
  -- its entries have room in a log, beside the one that ends the generation
  pub room : length s.entries < redo_entries s.view.fixed.shape
  pub recorded : (p : Place) → is_recorded s.view.log.records p ≡ true → IsDataOf s.view p
  pub lists : AreLists s level (lists_of s.view)
  pub pending : HasPending s.view
  pub sim : Sim s.view (entries_so_far s)
  pub facts : HaveFacts s.view

-- with the locks of its transaction alone
abbrev pub IsAt : Standing → ℕ → Type 0
IsAt s level = IsAtWith s level s.locks

abbrev pub At : Standing → Type 0
At s = IsAt s s.level
