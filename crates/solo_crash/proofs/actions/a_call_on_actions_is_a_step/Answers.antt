use Rattle.solo_crash.proofs.ActionsOutside.{change_is_step}
use Rattle.solo_crash.proofs.actions.a_call_on_actions_is_a_step.Goals as goal

pub returns : goal.returns
returns c = change_is_step
