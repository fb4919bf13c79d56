use Rattle.solo_crash.proofs.PublishedCopy.{committed_is_published}
use Rattle.solo_crash.proofs.calls.a_committed_pool_is_published.Goals as goal

pub returns : goal.returns
returns c = λ v w header pool changes to has of. committed_is_published v w header pool to changes has of
