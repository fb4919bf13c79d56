use Rattle.std.proofs.Common.{subst}
use Rattle.pm_memory.specs.Runs.{AnyStep, Made}
use Rattle.pm_view.specs.Steps.Step.{TakeWrite}
use Rattle.pm_shared.specs.Seats.{IsSeen}
use Rattle.pm_shared.proofs.TestLanes.{may_take, took, refused}
use Rattle.pm_shared.proofs.tests.lock.Goals as goal

pub take_write-requires : goal.take_write-requires
take_write-requires g c = may_take c.loop.lane c.loop.invariant.2

pub returns-then-take_write : goal.returns-then-take_write
returns-then-take_write g c = took c.loop.lane c.take_write.new.self c.loop.invariant.2 (subst (λ won. Made AnyStep (IsSeen c.loop.lane) (IsSeen c.take_write.new.self) (TakeWrite 100 won)) c.if-take_write.true c.take_write.ensures)

pub loop-preserved : goal.loop-preserved
loop-preserved g c = (tt, tt, refused c.loop.lane c.take_write.new.self c.loop.invariant.2 (subst (λ won. Made AnyStep (IsSeen c.loop.lane) (IsSeen c.take_write.new.self) (TakeWrite 100 won)) c.if-take_write.false c.take_write.ensures))
