-- WHAT THE PARTS OF A COMMIT, or of a publish, DO to a lane whose call is drained: the call takes its number, and its records and entries end. Each over the
-- views that the lane's memory may be seen as.
use Rattle.std.specs.Prelude.{◌≡◌, ◌≢◌, ℕ, ◌+◌, List, [], ◌∷◌, Some, None, Result, Ok, Err}
use Rattle.pm_memory.specs.Runs.{Stops}
use Rattle.pm_memory.specs.declared.lane_mem.Stopped.{Stopped}
use Rattle.pm_objects.specs.declared.calls.Operation.{Operation}
use Rattle.pm_objects.specs.declared.calls.Operation.TheVariants.{Commit}
use Rattle.pm_record.specs.declared.redo.Redo.{Redo}
use Rattle.pm_view.specs.View.{View}
use Rattle.pm_view.specs.Views.{after_all}
use Rattle.pm_world.specs.LaneFields.{Fields, IsSeenAs, fields_of, last_number}
use Rattle.pm_world.specs.declared.lane.Lane.{Lane}
use Rattle.pm_plan.specs.Plans.{Plan, Ready, in_turn}
use Rattle.pm_redo.specs.Calls.{KeepsEntries, MayLog}
use Rattle.pm_redo.specs.Plans.{performs, writes_log}
use Rattle.pm_redo.specs.Stages.{CanLog, CanSeal}
use Rattle.pm_undo.specs.Records.{with_log}
use Rattle.pm_undo.specs.Undoing.{KeepsLog}
use Rattle.pm_undo.specs.Working.{CanRetire}
use Rattle.pm_call.specs.GivenUp.{MovesLog}
use Rattle.pm_call.specs.Plans.{ends_call, ends_records, finishes, logs_entries, performs_call}

-- ---- FROM WHICH VIEWS

-- records may end, where there are some
unfoldable pub CanEndRecords : View → Type 0
CanEndRecords v = v.log.records ≢ [] → CanRetire v

-- once this operation is told the call may take whatever number, and this holds then
pub record CanNumber (v : View) (op : Operation) (Then : View → Type 0) : Type 0 where
  pub ready : (n : ℕ) → Ready v (ends_call op None n v)
  pub then : (n : ℕ) → Then (after_all v (ends_call op None n v))

-- a log of these entries may be written; it may be performed once the call has its number
pub record CanLogCall (v : View) (op : Operation) (entries : List Redo) : Type 0 where
  pub logs : CanLog v entries
  pub numbers : CanNumber (after_all v (writes_log entries v)) op CanSeal

unfoldable pub CanFinish : View → List Redo → Type 0
CanFinish v [] = CanNumber v Commit CanEndRecords
CanFinish v (e ∷ entries) = CanLogCall v Commit (e ∷ entries)

-- the lane may be seen so that it may do this
abbrev pub StandsAs : (View → Type 0) → (View → Type 0) → Type 0
StandsAs Keeps P = (v : View) × Keeps v × P v

-- ---- WHAT IS LEFT

-- the call has its number, and no entry
abbrev pub numbered : ℕ → View → Fields → Fields
numbered n w f = record (with_log w f) { entries = []; drawn = Some (n + 1); last = n + 1 }

-- the lane's fields tell the number of its open call, and the last number of a call, as this view
-- does
pub record TellsNumber {M : Type 0} (lane : Lane M) (v : View) : Type 0 where
  pub drawn : lane.drawn ≡ v.number
  pub last : lane.last ≡ last_number v.entries

-- the lane came to its stop on the way, from this view to that one: it tells its number there, where
-- it told it here
pub record IsCutShort {M : Type 0} (old new : Lane M) (v w : View) : Type 0 where
  pub numbered : TellsNumber old v → TellsNumber new w
  pub same : fields_of new ≡ record (fields_of old) { generation = new.log.generation; records = new.log.records.items; entries = new.entries.items; drawn = new.drawn; last = new.last }

abbrev pub FinishedAs : {M : Type 0} → (M → View → Type 0) → Lane M → Lane M → Plan → ℕ → View → Result (Unit {0}) Stopped → Type 0
FinishedAs at old new plan n v (Ok done) = IsSeenAs at new (after_all v (plan v)) (numbered n (after_all v (plan v)) (fields_of old))
FinishedAs at old new plan n v (Err stopped) =
    Stops (λ w. at new.memory w × IsCutShort old new v w) v (plan v)

-- the log was performed, and lists no entry and no record
abbrev pub PerformedAs : {M : Type 0} → (M → View → Type 0) → Lane M → Lane M → Plan → View → Result (Unit {0}) Stopped → Type 0
PerformedAs at old new plan v (Ok done) = IsSeenAs at new (after_all v (plan v)) (record (with_log (after_all v (plan v)) (fields_of old)) { entries = [] })
PerformedAs at old new plan v (Err stopped) = Stops (at new.memory) v (plan v) × (fields_of new ≡ fields_of old)

-- ---- WHAT WAS DONE

module _ {M : Type 0} (at : M → View → Type 0) where
  -- the lane lists this log's entries, at its generation
  pub record KeepsCall (lane : Lane M) (v : View) : Type 0 where
    pub keeps : KeepsEntries at lane v
    pub generation : lane.log.generation ≡ v.log.generation

  unfoldable pub EndedRecords : Lane M → Lane M → Result (Unit {0}) Stopped → Type 0
  EndedRecords old new result = (v : View) → KeepsLog at old v → CanEndRecords v → MovesLog at old new ends_records v result

  unfoldable pub FinishedRecords : Operation → Lane M → Lane M → Result (Unit {0}) Stopped → Type 0
  FinishedRecords op old new result = (n : ℕ) × ((v : View) → KeepsLog at old v → CanNumber v op CanEndRecords → FinishedAs at old new (in_turn (ends_call op None n) ends_records) n v result)

  unfoldable pub PerformedEntries : Lane M → Lane M → Result (Unit {0}) Stopped → Type 0
  PerformedEntries old new result = (found : ℕ → ℕ) × ((v : View) → KeepsCall old v → CanSeal v → PerformedAs at old new (performs found) v result)

  unfoldable pub PerformedCall : Operation → Lane M → Lane M → Result (Unit {0}) Stopped → Type 0
  PerformedCall op old new result = (found : ℕ → ℕ) × (n : ℕ) × ((v : View) → KeepsCall old v → CanNumber v op CanSeal → FinishedAs at old new (performs_call op found n) n v result)

  unfoldable pub FinishedEntries : Operation → Lane M → Lane M → Result (Unit {0}) Stopped → Type 0
  FinishedEntries op old new result = (found : ℕ → ℕ) × (n : ℕ) × ((v : View) → MayLog at old old.log.generation v → CanLogCall v op old.entries.items → FinishedAs at old new (logs_entries op old.entries.items found n) n v result)

  unfoldable pub Finished : Lane M → Lane M → Result (Unit {0}) Stopped → Type 0
  Finished old new result = (found : ℕ → ℕ) × (n : ℕ) × ((v : View) → KeepsLog at old v → CanFinish v old.entries.items → FinishedAs at old new (finishes old.entries.items found n) n v result)
