use Rattle.std.proofs.Common.{Ok}
use Rattle.pm_redo.proofs.PerformedLane.{apply_next, clear_next, performed}
use Rattle.pm_lane_bench.proofs.CallLanes.{sealed_ors}
use Rattle.pm_lane_bench.proofs.ors.perform.Goals as goal

pub apply-requires-clause-may : goal.apply-requires-clause-may
apply-requires-clause-may g c = apply_next g.M.LaneMem.at c.args.lane.now c.seal.new.lane
    c.in_ok-seal.ensures c.requires.may

pub apply-requires-clause-are : goal.apply-requires-clause-are
apply-requires-clause-are g c = sealed_ors g.M.LaneMem.at c.args.lane.now c.seal.new.lane
    c.in_ok-seal.ensures c.requires.may c.requires.are

pub retire-requires : goal.retire-requires
retire-requires g c = clear_next g.M.LaneMem.at c.args.lane.now c.seal.new.lane
    c.in_ok-seal.ensures c.apply.new.lane c.in_ok-took.ensures c.requires.may

pub returns : goal.returns
returns g c = performed g.M.LaneMem.at c.args.lane.now c.seal.new.lane c.in_ok-seal.ensures
    c.apply.new.lane c.in_ok-took.ensures c.retire.new.lane (Ok tt) c.in_ok-retire.ensures
