-- WHAT WORKS THAT RAN REPORT: their entries in order, and how each ended.
use Rattle.std.specs.Prelude.{◌≡◌, ℕ, Bool, List}
use Rattle.pm_run.specs.Runs.{HaveRun}
use Rattle.pm_shared.specs.declared.rule.Beginning.{Beginning}
use Rattle.pm_exec.specs.Reports.{AreInOrder, ends_of}
use Rattle.pm_exec.specs.Works.{WorkLeft}
use Rattle.pm_exec.specs.declared.outcome.Outcome.{Outcome}
use Rattle.pm_exec.specs.declared.work.LaneWork.{LaneWork}

pub record HaveReported {G : Type 0} (b : Beginning) (keep : ℕ) (before : List (LaneWork G)) (out : Outcome) : Type 0 where
  pub after : List (LaneWork G)
  pub flags : List Bool
  pub ran : HaveRun WorkLeft b keep before after out.image.items flags
  pub order : AreInOrder after flags out.entries.items
  pub ends : out.lanes.items ≡ ends_of after
