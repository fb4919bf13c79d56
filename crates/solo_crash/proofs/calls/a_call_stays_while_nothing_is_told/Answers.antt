use Rattle.solo_crash.proofs.Staying.{given_up_stays, open_stays, whole_stays}
use Rattle.solo_crash.proofs.calls.a_call_stays_while_nothing_is_told.Goals as goal

pub returns-clause-is_open : goal.returns-clause-is_open
returns-clause-is_open c = open_stays

pub returns-clause-whole : goal.returns-clause-whole
returns-clause-whole c = whole_stays

pub returns-clause-given_up : goal.returns-clause-given_up
returns-clause-given_up c = given_up_stays
