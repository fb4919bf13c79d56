use Rattle.std.proofs.Common.{◌≡◌, ℕ, ◌<◌, Bool, get_or, length}
use Rattle.std.specs.Vec.{vec_capacity}
use Rattle.pm_run.specs.Fates.{keeps_open}
use Rattle.pm_run.specs.declared.fates.DrainedLog.{DrainedLog}
use Rattle.pm_run.proofs.fates.tell_kept.Given as goal

-- the flags of the lanes so far
abbrev pub invariant-loop-log : goal.invariant-loop-log
invariant-loop-log l = record {
  count : length l.kept.items ≡ l.log-index;
  room : vec_capacity l.kept ≡ vec_capacity l.initial.kept;
  each : (k : ℕ) (flag : Bool) (log : DrainedLog) → k < length l.kept.items
      → get_or l.kept.items k flag ≡ keeps_open l.shape (get_or l.logs k log) l.image k;
}
