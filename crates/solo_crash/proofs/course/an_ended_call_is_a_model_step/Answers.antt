use Rattle.solo_crash.proofs.EndedCalls.{given_up_steps, whole_steps}
use Rattle.solo_crash.proofs.course.an_ended_call_is_a_model_step.Goals as goal

pub returns : goal.returns
returns c = record { whole = whole_steps; given_up = given_up_steps }
