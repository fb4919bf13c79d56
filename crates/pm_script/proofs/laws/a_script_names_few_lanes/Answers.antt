use Rattle.pm_script.proofs.NamedLanes.{few_lanes}
use Rattle.pm_script.proofs.laws.a_script_names_few_lanes.Goals as goal

pub returns : goal.returns
returns c = few_lanes
