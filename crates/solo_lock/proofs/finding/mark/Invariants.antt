use Rattle.std.proofs.Common.{◌≡◌, ◌++◌, map, take, drop}
use Rattle.solo_lock.specs.Finding.{marked}
use Rattle.solo_lock.proofs.finding.mark.Given as goal

-- the locks passed are marked
abbrev pub invariant-loop-held : goal.invariant-loop-held
invariant-loop-held l = l.locks ≡ map (marked l.page l.descriptor l.bitmap) (take l.held-index l.initial.locks) ++ drop l.held-index l.initial.locks
