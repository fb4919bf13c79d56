-- WHAT THE CALLS OF REDO LOGGING DO to a lane: by cases of what they return, for each view that the
-- lane's memory may be seen as.
use Rattle.std.specs.Prelude.{◌≡◌, ℕ, ◌+◌, ◌<◌, ◌≤◌, [], ◌∷◌, ◌++◌, length, Result, Ok, Err}
use Rattle.pm_layout.specs.Areas.{redo_entries}
use Rattle.pm_memory.specs.Runs.{Stops}
use Rattle.pm_memory.specs.declared.lane_mem.Stopped.{Stopped}
use Rattle.pm_objects.specs.declared.refusal.Refusal.{Refusal}
use Rattle.pm_objects.specs.declared.refusal.Refusal.TheVariants as refusal
use Rattle.pm_record.specs.declared.redo.Redo.{Redo}
use Rattle.pm_view.specs.View.{View}
use Rattle.pm_view.specs.Views.{after_all}
use Rattle.pm_world.specs.declared.lane.Lane.{Lane}
use Rattle.pm_plan.specs.Plans.{Plan}
use Rattle.pm_redo.specs.Entries.{listed_entries}
use Rattle.pm_redo.specs.Plans.{applies, clears, performs, seals, writes_log}
use Rattle.pm_redo.specs.Stages.{CanApply, CanClear, CanLog, CanSeal}

-- the entry is the last of the lane's list; or the list had as many as a log has room for beside
-- the entry that ends the generation
unfoldable pub HasPut : {M : Type 0} → Redo → Lane M → Lane M → Result (Unit {0}) Refusal → Type 0
HasPut entry old new (Ok done) =
    (length old.entries.items + 1 < redo_entries old.shape)
    × (new.entries.items ≡ old.entries.items ++ entry ∷ [])
    × (new ≡ record old { entries = new.entries })
HasPut entry old new (Err refusal.ActionsFull) =
    (redo_entries old.shape ≤ length old.entries.items + 1) × (new ≡ old)
HasPut entry old new (Err r) = ⊥

module _ {M : Type 0} (at : M → View → Type 0) where
  -- the lane's memory may be seen so, and its list may be logged with this generation
  pub record MayLog (lane : Lane M) (generation : ℕ) (v : View) : Type 0 where
    pub memory : at lane.memory v
    pub shape : lane.shape ≡ v.fixed.shape
    pub generation_ : generation ≡ v.log.generation
    pub can : CanLog v lane.entries.items

  -- THE LANE'S MEMORY MAY BE SEEN SO, and its list is of the entries that this view has in its log
  pub record KeepsEntries (lane : Lane M) (v : View) : Type 0 where
    pub memory : at lane.memory v
    pub shape : lane.shape ≡ v.fixed.shape
    pub entries : lane.entries.items ≡ listed_entries v

  -- THE PLAN WAS CARRIED OUT, the list is the log's, and this is so; or the first of the plan was,
  -- up to the stop
  abbrev pub LeftAs : View → Plan → Type 0 → Lane M → Lane M → Result (Unit {0}) Stopped → Type 0
  LeftAs v plan kept old new (Ok done) = KeepsEntries new (after_all v (plan v)) × kept
  LeftAs v plan kept old new (Err stopped) =
      Stops (at new.memory) v (plan v) × (new ≡ record old { memory = new.memory })

  unfoldable pub Logged : ℕ → Lane M → Lane M → Result (Unit {0}) Stopped → Type 0
  Logged generation old new result = (v : View) → MayLog old generation v
      → LeftAs v (writes_log old.entries.items)
      (new ≡ record old { memory = new.memory; entries = new.entries }) old new result

  unfoldable pub Sealed : Lane M → Lane M → Result (Unit {0}) Stopped → Type 0
  Sealed old new result = (v : View) → KeepsEntries old v → CanSeal v
      → LeftAs v seals (new ≡ record old { memory = new.memory }) old new result

  -- that was the plan for what each OR and AND found
  unfoldable pub Applied : Lane M → Lane M → Result (Unit {0}) Stopped → Type 0
  Applied old new result = (found : ℕ → ℕ) × ((v : View) → KeepsEntries old v → CanApply v
      → LeftAs v (applies found) (new ≡ record old { memory = new.memory }) old new result)

  -- no entry and no record is listed any more
  abbrev pub IsEmptied : Lane M → Lane M → Type 0
  IsEmptied old new = (new.log.records.items ≡ [])
      × (new ≡ record old {
        memory = new.memory;
        log = record old.log { records = new.log.records };
        entries = new.entries;
      })

  unfoldable pub Cleared : Lane M → Lane M → Result (Unit {0}) Stopped → Type 0
  Cleared old new result = (v : View) → KeepsEntries old v → CanClear v
      → LeftAs v clears (IsEmptied old new) old new result

  unfoldable pub Performed : Lane M → Lane M → Result (Unit {0}) Stopped → Type 0
  Performed old new result = (found : ℕ → ℕ) × ((v : View) → KeepsEntries old v → CanSeal v
      → LeftAs v (performs found) (IsEmptied old new) old new result)

  -- the lane may be seen so that it may do this
  abbrev pub StandsTo : Lane M → (View → Type 0) → Type 0
  StandsTo lane P = (v : View) × KeepsEntries lane v × P v
