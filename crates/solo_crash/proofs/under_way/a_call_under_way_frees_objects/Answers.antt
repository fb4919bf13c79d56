use Rattle.solo_crash.proofs.FreeOn.{found_free_goes_on, freed_is_gone, made_free_goes_on, others_are_same}
use Rattle.solo_crash.proofs.under_way.a_call_under_way_frees_objects.Goals as goal

pub returns-clause-found : goal.returns-clause-found
returns-clause-found c = found_free_goes_on

pub returns-clause-made : goal.returns-clause-made
returns-clause-made c = made_free_goes_on

pub returns-clause-is_gone : goal.returns-clause-is_gone
returns-clause-is_gone c = freed_is_gone

pub returns-clause-others : goal.returns-clause-others
returns-clause-others c = others_are_same
