-- A lane as plain data, and what its fields say.
use Rattle.std.specs.Prelude.{◌≡◌, ℕ, Bool, false, List, [], ◌∷◌, ◌++◌, ◌-◌, ◌<◌, length, map, replicate, Option, None, Some}
use Rattle.pm_layout.specs.declared.shape.Shape.{Shape}
use Rattle.pm_layout.specs.Areas.{word_of_generation, word_of_seal}
use Rattle.pm_objects.specs.declared.calls.Operation.{Operation}
use Rattle.pm_objects.specs.declared.calls.Operation.TheVariants as operation
use Rattle.pm_objects.specs.declared.history.TxErr.{TxErr}
use Rattle.pm_objects.specs.declared.history.TxErr.TheVariants as error
use Rattle.pm_objects.specs.declared.history.Value.{Value}
use Rattle.pm_objects.specs.declared.history.Value.TheVariants as value
use Rattle.pm_model.specs.declared.stage.Stage.{Stage}
use Rattle.pm_model.specs.declared.stage.Stage.TheVariants as stage
use Rattle.pm_record.specs.declared.redo.Redo.{Redo}
use Rattle.pm_view.specs.Log.{Recorded}
use Rattle.pm_view.specs.Places.{word_of}
use Rattle.pm_view.specs.Steps.Step.{Load}
use Rattle.pm_view.specs.View.{View, Constants, Told, Numbered, idle}
use Rattle.pm_view.specs.Views.{after}
use Rattle.pm_world.specs.OwnedBits.{Owned}
use Rattle.pm_world.specs.declared.lane.HeldLock.{HeldLock}
use Rattle.pm_world.specs.declared.lane.Lane.{Lane}
use Rattle.pm_world.specs.declared.lane.PendingAction.{PendingAction}
use Rattle.pm_world.specs.declared.lane.PendingAction.TheVariants.{Reserved, Freed, Set}
use Rattle.pm_world.specs.declared.lane.KeptRecord.{KeptRecord}

-- what a lane's fields say, but for its memory
pub record Fields : Type 0 where
  pub pool : ℕ
  pub shape : Shape
  pub locks : List HeldLock
  pub generation : ℕ
  pub records : List KeptRecord
  pub entries : List Redo
  pub pending : List PendingAction
  pub reserved : Owned
  pub freed : Owned
  pub level : ℕ
  pub stage : Stage
  pub error : TxErr
  pub drawn : Option ℕ
  pub last : ℕ
  pub stopped : Bool

abbrev pub fields_of : {M : Type 0} → Lane M → Fields
fields_of lane = record {
  pool = lane.pool;
  shape = lane.shape;
  locks = lane.locks.items;
  generation = lane.log.generation;
  records = lane.log.records.items;
  entries = lane.entries.items;
  pending = lane.pending.items;
  reserved = lane.reserved;
  freed = lane.freed;
  level = lane.level;
  stage = lane.stage;
  error = lane.error;
  drawn = lane.drawn;
  last = lane.last;
  stopped = lane.stopped;
}

-- A LANE BETWEEN TWO OPERATIONS: its view, and what its lists have besides: its locks in the order
-- in which it took them, the entries that it is to log, and the bits of blocks that it reserved and
-- freed
pub record Standing : Type 0 where
  pub view : View
  pub locks : List HeldLock
  pub entries : List Redo
  pub reserved : Owned
  pub freed : Owned
  pub level : ℕ

-- the same with another view
abbrev pub moved : Standing → View → Standing
moved s v = record s { view = v }

-- ---- WHAT THE VIEW SAYS OF THE LISTS

-- old words with zeros after them, as a slot has them
abbrev pub padded : List ℕ → List ℕ
padded old = old ++ replicate (4 - length old) 0

-- a record as the lane keeps it
abbrev pub kept_of : Shape → Recorded → KeptRecord
kept_of sh r = record { word = word_of sh r.place; count = length r.old; old = padded r.old }

-- a pending action as the lane lists it
abbrev pub listed_as : Operation → Option Value → List PendingAction
listed_as (operation.Reserve size kind) (Some (value.Offset off)) = Reserved off size kind ∷ []
listed_as (operation.DeferFree id) None = Freed id ∷ []
listed_as (operation.SetValue id off x) None = Set id off x ∷ []
listed_as op reply = []

abbrev pub listed : List Told → List PendingAction
listed [] = []
listed (t ∷ told) = listed_as t.operation t.reply ++ listed told

-- the number of the latest of a lane's entries; 0 where it has none
abbrev pub last_number : List Numbered → ℕ
last_number [] = 0
last_number (e ∷ entries) = e.number

-- at this stage, with no number of an open call, and not aborted
abbrev pub fields_at : Stage → Standing → Fields
fields_at stage s = record {
  pool = s.view.fixed.pool;
  shape = s.view.fixed.shape;
  locks = s.locks;
  generation = s.view.log.generation;
  records = map (kept_of s.view.fixed.shape) s.view.log.records;
  entries = s.entries;
  pending = listed s.view.actions;
  reserved = s.reserved;
  freed = s.freed;
  level = s.level;
  stage = stage;
  error = error.None;
  drawn = None;
  last = last_number s.view.entries;
  stopped = false;
}

-- AT WORK in a transaction; and with none open
abbrev pub at_work : Standing → Fields
at_work s = fields_at stage.Work s

abbrev pub at_rest : Standing → Fields
at_rest s = fields_at stage.None s

-- the lane may be seen as this view, and its fields say this
pub record IsSeenAs {M : Type 0} (at : M → View → Type 0) (lane : Lane M) (v : View) (f : Fields) : Type 0 where
  pub memory : at lane.memory v
  pub fields : fields_of lane ≡ f

abbrev pub Works : {M : Type 0} → (M → View → Type 0) → Lane M → Standing → Type 0
Works at lane s = IsSeenAs at lane s.view (at_work s)

abbrev pub Rests : {M : Type 0} → (M → View → Type 0) → Lane M → Standing → Type 0
Rests at lane s = IsSeenAs at lane s.view (at_rest s)

-- the view of a lane that has looked at its generation and its seal, and of which nothing else was
-- asked
abbrev pub opened : Constants → ℕ → View
opened fixed generation =
    after (after (idle fixed generation) (Load (word_of_generation fixed.shape fixed.lane) generation))
    (Load (word_of_seal fixed.shape fixed.lane) 0)

-- the memory is that of a lane of a pool of this shape, of which nothing was asked
pub record IsUnused {M : Type 0} (at : M → View → Type 0) (memory : M) (sh : Shape)
    (fixed : Constants) (generation : ℕ) : Type 0 where
  pub shape : fixed.shape ≡ sh
  pub lane : fixed.lane < sh.lanes
  pub seen : at memory (idle fixed generation)

-- a lane of which nothing was asked, of a pool with so many pages
abbrev pub unused : View → Owned → Standing
unused v none = record { view = v; locks = []; entries = []; reserved = none; freed = none; level = 0 }

-- no transaction is open, no lock is held, no number waits for its answer, and the lane has not stopped
pub record IsIdle (f : Fields) : Type 0 where
  pub stage : f.stage ≡ stage.None
  pub level : f.level ≡ 0
  pub locks : f.locks ≡ []
  pub answered : f.drawn ≡ None
  pub unstopped : f.stopped ≡ false
