use Rattle.std.proofs.Common.{arith, None}
use Rattle.pm_view.specs.Steps.Step.{Draw}
use Rattle.pm_world.specs.Lent.{operation_of, tells}
use Rattle.pm_call.proofs.RollbackLanes.{end_draw, end_made, end_tell, few_drawn}
use Rattle.pm_call.proofs.finishing.number_call.Goals as goal

pub tell-requires : goal.tell-requires
tell-requires g c =
    let m = end_tell g.M.LaneMem.may g.met.M.LawfulMem.grants (g.M.LaneMem.at c.args.lane.now.memory) (operation_of c.args.told) None c.requires in
    g.met.M.LawfulMem.meets c.args.lane.now.memory m.0 (tells c.args.told None) m.1 m.2

pub draw-number-requires : goal.draw-number-requires
draw-number-requires g c = λ n.
    let m = end_draw g.M.LaneMem.may g.met.M.LawfulMem.grants (g.M.LaneMem.at c.args.lane.now.memory) (operation_of c.args.told) None (g.M.LaneMem.at c.tell.new.self) c.requires c.tell.ensures in
    g.met.M.LawfulMem.meets c.tell.new.self m.0 (Draw n) m.1 (m.2 n)

pub returns-clause-made : goal.returns-clause-made
returns-clause-made g c = end_made g.M.LaneMem.may g.met.M.LawfulMem.grants (g.M.LaneMem.at c.args.lane.now.memory) (operation_of c.args.told) None (g.M.LaneMem.at c.tell.new.self) (g.M.LaneMem.at c.draw-number.new.self) c.draw-number.result
    c.tell.ensures c.draw-number.ensures

pub overflow_add-lane : goal.overflow_add-lane
overflow_add-lane g c =
    let may = end_draw g.M.LaneMem.may g.met.M.LawfulMem.grants (g.M.LaneMem.at c.args.lane.now.memory) (operation_of c.args.told) None (g.M.LaneMem.at c.tell.new.self) c.requires c.tell.ensures in
    let few = few_drawn g.M.LaneMem.may g.met.M.LawfulMem.grants (g.M.LaneMem.at c.tell.new.self) (g.M.LaneMem.at c.draw-number.new.self) c.draw-number.result may c.draw-number.ensures in
    omega (arith, few)

pub overflow_add-lane-2 : goal.overflow_add-lane-2
overflow_add-lane-2 g c =
    let may = end_draw g.M.LaneMem.may g.met.M.LawfulMem.grants (g.M.LaneMem.at c.args.lane.now.memory) (operation_of c.args.told) None (g.M.LaneMem.at c.tell.new.self) c.requires c.tell.ensures in
    let few = few_drawn g.M.LaneMem.may g.met.M.LawfulMem.grants (g.M.LaneMem.at c.tell.new.self) (g.M.LaneMem.at c.draw-number.new.self) c.draw-number.result may c.draw-number.ensures in
    omega (arith, few)
