use Rattle.std.proofs.Common.{◌+◌}
use Rattle.pm_plan.specs.Plans.{IsMade, repeated}
use Rattle.pm_undo.specs.Plans.{writes_record}
use Rattle.pm_undo.specs.Records.{record_at}
use Rattle.pm_undo.proofs.recording.write_records.Given as goal

-- the first so many records are written
abbrev pub invariant-loop-i : goal.invariant-loop-i
invariant-loop-i g l = IsMade (g.M.LaneMem.at l.fn.mem) (g.M.LaneMem.at l.mem) (repeated (λ i. writes_record l.shape l.lane l.generation (l.slot + i) (record_at l.records i)) l.i)
