use Rattle.pm_call.proofs.LonePublications as publications
use Rattle.pm_call.proofs.publications.publications_may_be_made.Goals as goal

pub returns-clause-made : goal.returns-clause-made
returns-clause-made c = publications.publications_may_be_made

pub returns-clause-past : goal.returns-clause-past
returns-clause-past c = publications.words_past_the_end_are_refused
