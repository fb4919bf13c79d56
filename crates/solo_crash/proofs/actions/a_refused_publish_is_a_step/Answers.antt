use Rattle.solo_crash.proofs.PublishOutside.{refused_publish_is_step, refused_publish_steps}
use Rattle.solo_crash.proofs.actions.a_refused_publish_is_a_step.Goals as goal

pub returns-clause-steps : goal.returns-clause-steps
returns-clause-steps c = refused_publish_steps

pub returns-clause-sets : goal.returns-clause-sets
returns-clause-sets c = refused_publish_is_step
