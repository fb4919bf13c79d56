use Rattle.solo_transaction.proofs.LeftCommits.{drawn_meant, drawn_page, drawn_size}
use Rattle.solo_transaction.proofs.laws.a_commit_cut_short_leaves_its_whole_calls.Goals as goal

pub returns : goal.returns
returns c = record {
  meaning = λ o header pool n w keep image has is. drawn_meant o header pool n w has keep image is;
  header_page = λ o header pool n w keep image has is. drawn_page o header pool n w has keep image is;
  size = λ o header pool n w keep image has is. drawn_size o header pool n w has keep image is;
}
