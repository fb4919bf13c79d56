use Rattle.pm_plan.specs.Plans.{IsMade, repeated}
use Rattle.pm_undo.specs.Plans.{restores_record}
use Rattle.pm_undo.specs.Records.{record_at}
use Rattle.pm_undo.proofs.restoring.put_back.Given as goal

-- the first so many are put back
abbrev pub invariant-loop-kept : goal.invariant-loop-kept
invariant-loop-kept g l = IsMade (g.M.LaneMem.at l.fn.mem) (g.M.LaneMem.at l.mem) (repeated (λ i. restores_record (record_at l.records i)) l.kept-index)
