use Rattle.pm_crash.proofs.Effects as effects
use Rattle.pm_crash.proofs.histories.effects_are_facts.Goals as goal

pub returns-clause-steps : goal.returns-clause-steps
returns-clause-steps _ = effects.effects_are_steps

pub returns-clause-facts : goal.returns-clause-facts
returns-clause-facts _ = effects.effects_are_facts

pub returns-clause-quiet : goal.returns-clause-quiet
returns-clause-quiet _ = effects.quiet_calls
