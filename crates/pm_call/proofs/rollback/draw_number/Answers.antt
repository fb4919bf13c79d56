use Rattle.std.proofs.Common.{arith}
use Rattle.pm_view.specs.Steps.Step.{Draw}
use Rattle.pm_call.proofs.RollbackLanes.{few_drawn}
use Rattle.pm_call.proofs.rollback.draw_number.Goals as goal

pub draw-number-requires : goal.draw-number-requires
draw-number-requires g c = λ n. g.met.M.LawfulMem.meets c.args.lane.now.memory c.requires.may.0 (Draw n) c.requires.may.1 (c.requires.may.2 n)

pub overflow_add-lane : goal.overflow_add-lane
overflow_add-lane g c =
    let few = few_drawn g.M.LaneMem.may g.met.M.LawfulMem.grants (g.M.LaneMem.at c.args.lane.now.memory) (g.M.LaneMem.at c.draw-number.new.self) c.draw-number.result c.requires.may c.draw-number.ensures in
    omega (arith, few)
