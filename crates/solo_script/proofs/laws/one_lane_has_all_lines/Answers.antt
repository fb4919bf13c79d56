use Rattle.solo_script.proofs.NamedLanes.{lanes_below, one_lane}
use Rattle.solo_script.proofs.laws.one_lane_has_all_lines.Goals as goal

pub returns-clause-below : goal.returns-clause-below
returns-clause-below c = lanes_below

pub returns-clause-one : goal.returns-clause-one
returns-clause-one c = one_lane
