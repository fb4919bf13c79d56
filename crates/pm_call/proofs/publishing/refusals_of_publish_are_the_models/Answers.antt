use Rattle.pm_call.proofs.PublishedWords as words
use Rattle.pm_call.proofs.publishing.refusals_of_publish_are_the_models.Goals as goal

pub returns : goal.returns
returns c = words.publish_refusals
