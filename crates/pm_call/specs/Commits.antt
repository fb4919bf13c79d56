-- A LEVEL IS COMMITTED, as laws of data.
use Rattle.std.specs.Prelude.{◌≡◌, Bool, false, Result, Ok, Err, ℕ, suc, ◌+◌, ◌-◌, ◌/◌, ◌≤◌, List, [], ◌∷◌, take}
use Rattle.std.specs.List.{AllByRecursion}
use Rattle.pm_record.specs.declared.redo.Redo.{Redo}
use Rattle.pm_view.specs.Log.{Recorded}
use Rattle.pm_objects.specs.declared.calls.Operation.TheVariants.{Commit}
use Rattle.pm_model.specs.declared.stage.Stage.TheVariants as stage
use Rattle.pm_objects.specs.declared.history.TxErr.TheVariants as error
use Rattle.pm_view.specs.View.{View}
use Rattle.pm_view.specs.Views.{after_all}
use Rattle.pm_memory.specs.Runs.{Stops}
use Rattle.pm_memory.specs.declared.lane_mem.Stopped.{Stopped}
use Rattle.pm_world.specs.LaneFields.{IsSeenAs, Standing, Works, fields_at, fields_of, last_number}
use Rattle.pm_world.specs.declared.lane.Lane.{Lane}
use Rattle.pm_crash.specs.Facts.{HaveFacts}
use Rattle.pm_plan.specs.Plans.{Ready}
use Rattle.pm_call.specs.At.{At, IsAt}
use Rattle.pm_call.specs.Did.{After, IsOver, IsUnrefused, next}
use Rattle.pm_call.specs.Finishing.{TellsNumber}
use Rattle.pm_call.specs.GivenUp.{generation_after}
use Rattle.pm_call.specs.Plans.{commits, commits_inner}
use Rattle.pm_call.specs.Ranges.{KnowsWord}
use Rattle.pm_call.specs.Stages.{IsPastAt, unlisted}
use Rattle.pm_call.specs.Unwritten.{WritesNoRecord}

-- ---- AN INNER LEVEL: nothing is stored, and the outer one is at work
pub record LeavesLevel (s : Standing) : Type 0 where
  pub unrefused : IsUnrefused s Commit
  pub ready : Ready s.view (commits_inner s.view)
  pub stands : IsAt (next s commits_inner) (s.level - 1)

abbrev pub InnerLevelsMayBeCommitted : Type 0
InnerLevelsMayBeCommitted = (s : Standing) → At s → 2 ≤ s.level → LeavesLevel s

-- it was committed so: the lane is past its work
unfoldable pub CommittedInner : {M : Type 0} → (M → View → Type 0) → Lane M → Lane M → Type 0
CommittedInner at old new = (s : Standing) → Works at old s → At s → 2 ≤ s.level
    → IsUnrefused s Commit × IsPastAt at new (next s commits_inner) stage.OnCommit error.None

-- ---- THE OUTERMOST LEVEL: the call has its number, and is over. Its generation ends where it has records or entries
abbrev pub generation_left : List Redo → List Recorded → ℕ → ℕ
generation_left [] records generation = generation_after records generation
generation_left (e ∷ entries) records generation = generation + 1

pub record LeavesCommitted (s : Standing) (found : ℕ → ℕ) (n : ℕ) : Type 0 where
  pub unrefused : IsUnrefused s Commit
  pub ready : Ready s.view (commits s.entries found n s.view)
  pub over : IsOver (next s (commits s.entries found n))
  pub generation : (next s (commits s.entries found n)).view.log.generation ≡ generation_left s.entries s.view.log.records s.view.log.generation
  pub number : last_number (next s (commits s.entries found n)).view.entries ≡ suc n
  -- what is pending stays so
  pub fixed : (next s (commits s.entries found n)).view.fixed ≡ s.view.fixed
  pub pending : (next s (commits s.entries found n)).view.actions ≡ s.view.actions

-- the lane knows each word that it published, as it stands
abbrev pub KnowsEntries : Standing → Type 0
KnowsEntries s = AllByRecursion (λ (e : Redo). KnowsWord s.view (e.place / 8)) s.entries

-- THE LAW: so it is whatever number the call takes, and whatever its steps find
abbrev pub OutermostLevelsMayBeCommitted : Type 0
OutermostLevelsMayBeCommitted = (s : Standing) (found : ℕ → ℕ) (n : ℕ) → At s → s.level ≡ 1 → KnowsEntries s → LeavesCommitted s found n

-- ---- WHAT COMMITTING THE OUTERMOST LEVEL DID to a lane

-- the call is over, and the lane past its work
pub record WasCommitted {M : Type 0} (at : M → View → Type 0) (lane : Lane M) (s : Standing) : Type 0 where
  pub found : ℕ → ℕ
  pub number : ℕ
  pub ready : Ready s.view (commits s.entries found number s.view)
  pub sees : IsSeenAs at lane (after_all s.view (commits s.entries found number s.view)) (record (fields_at stage.OnCommit (next s (commits s.entries found number))) { entries = [] })
  pub over : IsOver (next s (commits s.entries found number))
  pub unrefused : IsUnrefused s Commit

-- the first of its steps were made, up to the lane's stop. After all of the plan the entries would
-- have their facts; so those have that are there by now
pub record CommitCut {M : Type 0} (at : M → View → Type 0) (lane : Lane M) (s : Standing) (stopped : Bool) : Type 0 where
  pub found : ℕ → ℕ
  pub number : ℕ
  pub ready : Ready s.view (commits s.entries found number s.view)
  pub stops : Stops (at lane.memory) s.view (commits s.entries found number s.view)
  pub numbered : TellsNumber lane
      (after_all s.view (take stops.made (commits s.entries found number s.view)))
  pub fields : fields_of lane ≡ record (fields_at stage.Work s) { generation = lane.log.generation; records = lane.log.records.items; entries = lane.entries.items; drawn = lane.drawn; last = lane.last; stopped = stopped }
  pub facts : HaveFacts (next s (commits s.entries found number)).view
  pub unwritten : WritesNoRecord
      (after_all s.view (take stops.made (commits s.entries found number s.view)))

abbrev pub CommittedAs : {M : Type 0} → (M → View → Type 0) → Lane M → Result (Unit {0}) Stopped → Standing → Type 0
CommittedAs at lane (Ok done) s = WasCommitted at lane s
CommittedAs at lane (Err stopped) s = CommitCut at lane s false

unfoldable pub Committed : {M : Type 0} → (M → View → Type 0) → Lane M → Lane M → Result (Unit {0}) Stopped → Type 0
Committed at old new result = (s : Standing) → Works at old s → At s → s.level ≡ 1 → KnowsEntries s → CommittedAs at new result s

-- the lane looked at the words that it published, and knows them then
unfoldable pub LookedAtEntries : {M : Type 0} → (M → View → Type 0) → Lane M → Lane M → Type 0
LookedAtEntries at old new = (s : Standing) → Works at old s → At s → After s (λ t. KnowsEntries t × Works at new t × At t)

-- so the call was committed, from whatever the lane knew of them
unfoldable pub CallCommitted : {M : Type 0} → (M → View → Type 0) → Lane M → Lane M → Result (Unit {0}) Stopped → Type 0
CallCommitted at old new result = (s : Standing) → Works at old s → At s → s.level ≡ 1 → After s (CommittedAs at new result)

-- THE LAW: a lane whose call was committed is past its work, with nothing listed to be logged; so its level may end
abbrev pub CommittedArePast : {M : Type 0} → (M → View → Type 0) → Type 0
CommittedArePast {M} at = (lane : Lane M) (s : Standing) → At s → s.level ≡ 1 → (by : WasCommitted at lane s)
    → IsPastAt at lane (unlisted (next s (commits s.entries by.found by.number))) stage.OnCommit error.None
