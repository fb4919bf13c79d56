use Rattle.std.proofs.Common.{ap}
use Rattle.pm_world.specs.LaneFields.{fields_of}
use Rattle.pm_action.proofs.Asking.{told_set}
use Rattle.pm_action.proofs.actions.do_set.Goals as goal

pub returns : goal.returns
returns g c =
    told_set g.M.LaneMem.at c.args.lane.now c.args.id c.args.off c.args.value g.M.LaneMem.may g.met.M.LawfulMem.grants (record c.args.lane.now { memory = c.tell.new.self; pending = c.push.new.self }) c.tell.ensures
    (ap (λ xs. record (fields_of c.args.lane.now) { pending = xs }) c.push.ensures.items)
