use Rattle.std.proofs.Common.{subst}
use Rattle.pm_memory.specs.Runs.{AnyStep, Made}
use Rattle.pm_view.specs.Steps.Step.{TakeWrite}
use Rattle.pm_shared.specs.Seats.{IsSeen}
use Rattle.pm_shared.proofs.TestLanes.{may_take, took, may_give, gave}
use Rattle.pm_lane_bench.proofs.lane.lock_round.Goals as goal

pub take_write-requires : goal.take_write-requires
take_write-requires g c = may_take c.loop.lane c.loop.invariant

pub give-requires : goal.give-requires
give-requires g c = may_give c.take_write.new.self (took c.loop.lane c.take_write.new.self c.loop.invariant (subst (λ won. Made AnyStep (IsSeen c.loop.lane) (IsSeen c.take_write.new.self) (TakeWrite 100 won)) c.if-not-take_write.false c.take_write.ensures))

pub loop-preserved : goal.loop-preserved
loop-preserved g c = gave c.take_write.new.self c.give.new.self (took c.loop.lane c.take_write.new.self c.loop.invariant (subst (λ won. Made AnyStep (IsSeen c.loop.lane) (IsSeen c.take_write.new.self) (TakeWrite 100 won)) c.if-not-take_write.false c.take_write.ensures)) c.give.ensures
