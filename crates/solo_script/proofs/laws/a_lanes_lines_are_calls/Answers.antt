use Rattle.solo_script.proofs.LaneCalls.{lane_calls}
use Rattle.solo_script.proofs.laws.a_lanes_lines_are_calls.Goals as goal

pub returns : goal.returns
returns c = lane_calls
