-- WORKS AND THEIR LANES: before and after the works ran, and as the lanes came back.
use Rattle.std.specs.Prelude.{◌≡◌, ℕ, ◌<◌, List, [], All, length, slice_index_or, Vec}
use Rattle.std.specs.Global.{Global}
use Rattle.atomic_table.specs.Table.{Me}
use Rattle.pm_crash.specs.Facts.{HaveFacts}
use Rattle.pm_memory.specs.Changes.{AreUndrained}
use Rattle.pm_shared.specs.Openings.{pool_with}
use Rattle.pm_shared.specs.Rule.{Knowledge}
use Rattle.pm_shared.specs.Seats.{IsSeen}
use Rattle.pm_view.specs.Changes.{IsFormed}
use Rattle.pm_view.specs.View.{View}
use Rattle.pm_view.specs.declared.change.Change.{Change}
use Rattle.pm_run.specs.NewLanes.{IsNew}
use Rattle.pm_run.specs.Runs.{LaneRan}
use Rattle.pm_run.specs.declared.job.Job.{Job}

-- ---- BEFORE

-- of the job's lane nothing was asked, and its work can run
abbrev pub CanRun : {N W : Type 0} → (W → Type 0) → Job N W → Type 0
CanRun can job = can job.work × IsNew IsSeen job.lane job.number

-- the job has lane k, and this work
pub record IsReady {N W : Type 0} (k : ℕ) (work : W) (job : Job N W) : Type 0 where
  pub number_is : job.number ≡ k
  pub work_is : job.work ≡ work
  pub is_new : IsNew IsSeen job.lane job.number

pub record AreReady {N W : Type 0} (works : List W) (jobs : List (Job N W)) : Type 0 where
  pub count : length jobs ≡ length works
  pub each : (k : ℕ) (w : W) (job : Job N W) → k < length works
      → IsReady k (slice_index_or works k w) (slice_index_or jobs k job)

-- ---- AFTER

-- the work ran on lane k from what it was before, and left it in this view
pub record IsDone {N W : Type 0} (left : W → W → View → Type 0) (k : ℕ) (before : W)
    (job : Job N W) : Type 0 where
  pub view : View
  pub seen : IsSeen job.lane.memory view
  pub facts : HaveFacts view
  pub lane_is : view.fixed.lane ≡ k
  pub work_says : left before job.work view

-- each job is what its thread left of it
abbrev pub AllRan : {N W : Type 0} → (W → W → View → Type 0) → List (Job N W) → List (Job N W)
    → Type 0
AllRan {N} {W} left old new = (k : ℕ) (job : Job N W) → k < length old
    → IsDone left (slice_index_or old k job).number (slice_index_or old k job).work
    (slice_index_or new k job)

-- work k ran on lane k
pub record AreDone {N W : Type 0} (left : W → W → View → Type 0) (before : List W)
    (jobs : List (Job N W)) : Type 0 where
  pub count : length jobs ≡ length before
  pub each : (k : ℕ) (w : W) (job : Job N W) → k < length jobs
      → IsDone left k (slice_index_or before k w) (slice_index_or jobs k job)

-- the lanes may come back
abbrev pub CanJoin : {N W : Type 0} → (W → W → View → Type 0) → List (Job N W) → Type 0
CanJoin {N} {W} left jobs = (before : List W) × AreDone left before jobs

-- ---- AS THE LANES CAME BACK

abbrev pub items_of : Vec Change Global → List Change
items_of changes = changes.items

-- lane k did, with facts for its calls, and with these changes undrained
pub record LaneBack {W : Type 0} (left : W → W → View → Type 0) (back : List View)
    (undrained : List (List Change)) (k : ℕ) (before after : W) : Type 0 where
  pub ran : LaneRan left back k before after
  pub facts : HaveFacts ran.view
  pub drained : AreUndrained (slice_index_or undrained k []) ran.view.changes

-- lanes below the number of these works did
pub record AreBack {W : Type 0} (left : W → W → View → Type 0) (before : List W)
    (back : List View) (undrained : List (List Change)) (after : List W) : Type 0 where
  pub views : length back ≡ length after
  pub lists : length undrained ≡ length after
  pub formed : All (All IsFormed) undrained
  pub each : (k : ℕ) (w : W) → k < length after
      → LaneBack left back undrained k (slice_index_or before k w) (slice_index_or after k w)

-- all lanes of these jobs did, to the pool's seat
abbrev pub CameBack : {N W : Type 0} → (W → W → View → Type 0) → List (Job N W) → Me ℕ Knowledge
    → List (List Change) → List W → Type 0
CameBack {N} {W} left jobs me undrained after = (before : List W) → AreDone left before jobs
    → (back : List View) × (me ≡ pool_with back) × AreBack left before back undrained after
