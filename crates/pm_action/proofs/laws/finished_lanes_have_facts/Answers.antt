use Rattle.pm_action.proofs.Standing.{finished_has_facts}
use Rattle.pm_action.proofs.laws.finished_lanes_have_facts.Goals as goal

pub returns : goal.returns
returns g c result old new h = finished_has_facts g.M.LaneMem.at old new h result
