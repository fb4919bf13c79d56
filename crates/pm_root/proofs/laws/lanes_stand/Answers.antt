use Rattle.pm_root.proofs.RootLooks.{root_found_turns}
use Rattle.pm_root.proofs.laws.lanes_stand.Goals as goal

pub returns : goal.returns
returns g c result old new h = root_found_turns g.M.LaneMem.at old new h result
