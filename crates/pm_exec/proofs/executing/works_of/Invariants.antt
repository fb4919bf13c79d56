use Rattle.std.proofs.Common.{◌≡◌, ◌++◌}
use Rattle.pm_exec.specs.Reports.{AreWorksOf}
use Rattle.pm_exec.proofs.executing.works_of.Given as goal

-- the works of the rooms so far
abbrev pub invariant-loop-room : goal.invariant-loop-room
invariant-loop-room g l = record {
  all : l.yielded ++ l.room-iterator.rest.items ≡ l.fn.rooms.items;
  made : AreWorksOf l.names l.yielded l.works.items;
}
