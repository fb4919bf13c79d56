use Rattle.pm_exec.specs.Lines.{Awaits}
use Rattle.pm_exec.proofs.Levels.{LevelsEnded}
use Rattle.pm_exec.proofs.running.end_levels.Given as goal

-- so many levels ended
abbrev pub invariant-loop : goal.invariant-loop
invariant-loop g l = record {
  stands : Awaits g.M.LaneMem.at l.lane;
  ends : LevelsEnded g.M.LaneMem.at l.initial.lane l.lane l.counter l.end;
}
