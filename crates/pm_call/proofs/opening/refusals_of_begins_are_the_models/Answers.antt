use Rattle.pm_call.proofs.RefusedBegins.{begin_refusals}
use Rattle.pm_call.proofs.opening.refusals_of_begins_are_the_models.Goals as goal

pub returns : goal.returns
returns c = begin_refusals
