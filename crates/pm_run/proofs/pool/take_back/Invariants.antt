use Rattle.std.proofs.Common.{◌≡◌, ◌++◌, length, map}
use Rattle.std.specs.Vec.{vec_capacity}
use Rattle.pm_run.specs.Jobs.{CameBack, items_of}
use Rattle.pm_run.proofs.pool.take_back.Given as goal

-- the lanes of the jobs so far are back
abbrev pub invariant-loop-job : goal.invariant-loop-job
invariant-loop-job g l = record {
  table : l.seat.table_id ≡ l.initial.seat.table_id;
  all : l.yielded ++ l.job-iterator.rest.items ≡ l.fn.jobs.items;
  lists : length l.undrained.items ≡ length l.yielded;
  list_room : vec_capacity l.undrained ≡ vec_capacity l.initial.undrained;
  count : length l.works.items ≡ length l.yielded;
  work_room : vec_capacity l.works ≡ vec_capacity l.initial.works;
  back : CameBack g.W.Work.left l.fn.jobs.items l.seat.me (map items_of l.undrained.items)
      l.works.items;
}
