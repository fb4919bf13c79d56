use Rattle.solo_crash.proofs.Staying.{given_up_learns, open_learns, whole_learns}
use Rattle.solo_crash.proofs.calls.a_call_stays_while_its_lane_learns.Goals as goal

pub returns-clause-is_open : goal.returns-clause-is_open
returns-clause-is_open c = open_learns

pub returns-clause-whole : goal.returns-clause-whole
returns-clause-whole c = whole_learns

pub returns-clause-given_up : goal.returns-clause-given_up
returns-clause-given_up c = given_up_learns
