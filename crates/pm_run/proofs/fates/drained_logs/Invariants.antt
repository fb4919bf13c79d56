use Rattle.std.proofs.Common.{◌≡◌, ℕ, ◌<◌, [], get_or, length, map}
use Rattle.std.specs.Vec.{vec_capacity}
use Rattle.pm_run.specs.Fates.{IsDrained}
use Rattle.pm_run.specs.Jobs.{items_of}
use Rattle.pm_run.specs.declared.fates.DrainedLog.{DrainedLog}
use Rattle.pm_run.proofs.fates.drained_logs.Given as goal

-- the logs of the lanes so far
abbrev pub invariant-loop-changes : goal.invariant-loop-changes
invariant-loop-changes l = record {
  count : length l.logs.items ≡ l.changes-index;
  room : vec_capacity l.logs ≡ vec_capacity l.initial.logs;
  each : (k : ℕ) (log : DrainedLog) → k < length l.logs.items
      → IsDrained l.shape l.words (get_or (map items_of l.undrained) k []) k
      (get_or l.logs.items k log);
}
