use Rattle.pm_lock.proofs.FindingAll.{HasFound}
use Rattle.pm_lock.proofs.finding.find_all.Given as goal

-- under the first so many an object stands
abbrev pub invariant-loop-held : goal.invariant-loop-held
invariant-loop-held g l = HasFound g.M.LaneMem.at l.shape l.locks l.fn.mem l.held-index l.mem
