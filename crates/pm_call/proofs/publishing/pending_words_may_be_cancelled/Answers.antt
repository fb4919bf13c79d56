use Rattle.pm_call.proofs.CancelledWords as words
use Rattle.pm_call.proofs.publishing.pending_words_may_be_cancelled.Goals as goal

pub returns : goal.returns
returns c = words.pending_words_may_be_cancelled
