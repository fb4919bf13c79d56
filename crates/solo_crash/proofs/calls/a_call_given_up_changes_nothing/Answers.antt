use Rattle.solo_crash.proofs.GivenUp.{given_up_changes_nothing}
use Rattle.solo_crash.proofs.calls.a_call_given_up_changes_nothing.Goals as goal

pub returns : goal.returns
returns c = given_up_changes_nothing
