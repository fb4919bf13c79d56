use Rattle.solo_crash.proofs.Drawn.{given_up_draws, whole_draws}
use Rattle.solo_crash.proofs.histories.a_drawn_call_is_a_step.Goals as goal

pub returns-clause-whole : goal.returns-clause-whole
returns-clause-whole c = whole_draws

pub returns-clause-given_up : goal.returns-clause-given_up
returns-clause-given_up c = given_up_draws
