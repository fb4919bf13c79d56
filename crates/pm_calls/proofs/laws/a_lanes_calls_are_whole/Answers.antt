use Rattle.pm_calls.proofs.CallsOfLines.{calls_are_among, calls_have_some, calls_join, calls_rise, lines_of_lane_rise}
use Rattle.pm_calls.proofs.WholeCalls.{calls_are_whole}
use Rattle.pm_calls.proofs.laws.a_lanes_calls_are_whole.Goals as goal

pub returns-clause-whole : goal.returns-clause-whole
returns-clause-whole c = calls_are_whole

pub returns-clause-joined : goal.returns-clause-joined
returns-clause-joined c = calls_join 0

pub returns-clause-some : goal.returns-clause-some
returns-clause-some c = calls_have_some 0

pub returns-clause-among : goal.returns-clause-among
returns-clause-among c = calls_are_among

pub returns-clause-rising : goal.returns-clause-rising
returns-clause-rising c = calls_rise

pub returns-clause-lanes : goal.returns-clause-lanes
returns-clause-lanes c = lines_of_lane_rise
