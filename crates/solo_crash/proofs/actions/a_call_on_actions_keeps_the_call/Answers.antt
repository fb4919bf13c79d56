use Rattle.solo_crash.proofs.ActionsOn.{change_keeps_open}
use Rattle.solo_crash.proofs.actions.a_call_on_actions_keeps_the_call.Goals as goal

pub returns : goal.returns
returns c = change_keeps_open
