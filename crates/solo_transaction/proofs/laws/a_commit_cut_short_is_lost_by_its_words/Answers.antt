use Rattle.solo_transaction.proofs.LeftCommits.{drawn_lost}
use Rattle.solo_transaction.proofs.laws.a_commit_cut_short_is_lost_by_its_words.Goals as goal

pub returns : goal.returns
returns c o header pool n w keep image has is = drawn_lost o header pool n w has keep image is
