use Rattle.pm_action.proofs.Asking.{told_no}
use Rattle.pm_action.proofs.actions.refuse_set.Goals as goal

pub returns : goal.returns
returns g c = told_no g.M.LaneMem.at c.args.lane.now c.args.id c.args.off c.args.value g.M.LaneMem.may g.met.M.LawfulMem.grants c.tell.new.self c.args.why c.tell.ensures
