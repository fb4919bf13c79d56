use Rattle.std.proofs.Common.{◌≡◌, ◌++◌, [], length}
use Rattle.pm_shared.specs.Openings.{pool_of}
use Rattle.pm_run.specs.Jobs.{AreReady}
use Rattle.pm_run.proofs.pool.hand_out.Given as goal

-- lanes with the works so far are out
abbrev pub invariant-loop-work : goal.invariant-loop-work
invariant-loop-work g l = record {
  table : l.seat.table_id ≡ l.initial.seat.table_id;
  seat : l.seat.me ≡ pool_of l.pool.memory.table.shared.key (length l.yielded) [];
  ready : AreReady l.yielded l.jobs.items;
  all : l.yielded ++ l.work-iterator.rest.items ≡ l.fn.works.items;
}
