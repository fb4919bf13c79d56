use Rattle.pm_world.proofs.EveryStep.{every_step}
use Rattle.pm_world.proofs.laws.lawful_steps_keep_the_world.Goals as goal

pub returns : goal.returns
returns c = every_step
