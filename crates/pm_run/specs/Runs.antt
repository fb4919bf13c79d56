-- WHAT LANES LEAVE that ran works, where power fails at the end: docs/MODEL.md, "Crash".
use Rattle.std.specs.Prelude.{◌≡◌, ℕ, ◌<◌, Bool, List, length, slice_index_or}
use mathlib.Core.Option.{some}
use lib.ListN.{get_elem?}
use Rattle.pm_layout.specs.Chunks.{words_of}
use Rattle.pm_lanes.specs.Closed.{AllAreBack, AllHaveFacts, BackWith, MaySurvive}
use Rattle.pm_memory.specs.Keep.{IsKeptImage}
use Rattle.pm_shared.specs.Closings.{Closes}
use Rattle.pm_shared.specs.declared.rule.Beginning.{Beginning}
use Rattle.pm_view.specs.View.{View}
use Rattle.pm_view.specs.declared.change.Change.{Change}
use Rattle.pm_run.specs.Fates.{AreJudged}

-- lane k came back in the view in which its work left it
pub record LaneRan {W : Type 0} (left : W → W → View → Type 0) (back : List View) (k : ℕ)
    (before after : W) : Type 0 where
  pub view : View
  pub there : get_elem? back k ≡ some view
  pub lane_is : view.fixed.lane ≡ k
  pub work_says : left before after view

-- THE WORKS RAN, work k on lane k: all lanes came back, each with facts for its calls and in the
-- view in which its work left it; the table closed with these words; and the image is what the keep
-- number leaves of them, which may survive a power failure then, and of which the flags tell
pub record HaveRun {W : Type 0} (left : W → W → View → Type 0) (b : Beginning) (keep : ℕ)
    (before after : List W) (image : List ℕ) (flags : List Bool) : Type 0 where
  pub back : List View
  pub words : List ℕ
  pub closed : Closes b back words
  pub all : AllAreBack b.lanes back
  pub facts : AllHaveFacts back
  -- what each lane has undrained
  pub undrained : List (List Change)
  pub count : length undrained ≡ b.lanes
  pub back_with : BackWith back undrained
  pub kept : IsKeptImage keep words undrained image
  pub survives : MaySurvive b closed.last image
  pub size : length image ≡ words_of b.shape
  -- and of each lane whether the image keeps its open call
  pub judged : AreJudged b.shape words undrained image flags
  -- what the works say
  pub works : length after ≡ b.lanes
  pub each : (k : ℕ) (w : W) → k < b.lanes
      → LaneRan left back k (slice_index_or before k w) (slice_index_or after k w)
