use Rattle.pm_script.proofs.LaneCalls.{lane_calls}
use Rattle.pm_script.proofs.laws.a_lanes_lines_are_calls.Goals as goal

pub returns : goal.returns
returns c = lane_calls
