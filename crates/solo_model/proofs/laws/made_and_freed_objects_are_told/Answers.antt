use Rattle.std.proofs.Common.{refl}
use Rattle.solo_model.proofs.Made.{freed_alone, freed_there, gone_alone, gone_there, made_alone, made_there, new_alone, new_still, new_there}
use Rattle.solo_model.proofs.laws.made_and_freed_objects_are_told.Goals as goal

pub returns-clause-made : goal.returns-clause-made
returns-clause-made c = made_there

pub returns-clause-made_alone : goal.returns-clause-made_alone
returns-clause-made_alone c = made_alone

pub returns-clause-made_is_new : goal.returns-clause-made_is_new
returns-clause-made_is_new c = new_there

pub returns-clause-others_as_new : goal.returns-clause-others_as_new
returns-clause-others_as_new c = new_alone

pub returns-clause-all_as_gone : goal.returns-clause-all_as_gone
returns-clause-all_as_gone c = λ tx off size kind other. refl

pub returns-clause-freed : goal.returns-clause-freed
returns-clause-freed c = freed_there

pub returns-clause-freed_alone : goal.returns-clause-freed_alone
returns-clause-freed_alone c = freed_alone

pub returns-clause-freed_is_gone : goal.returns-clause-freed_is_gone
returns-clause-freed_is_gone c = gone_there

pub returns-clause-others_as_gone : goal.returns-clause-others_as_gone
returns-clause-others_as_gone c = gone_alone

pub returns-clause-others_still_new : goal.returns-clause-others_still_new
returns-clause-others_still_new c = new_still
