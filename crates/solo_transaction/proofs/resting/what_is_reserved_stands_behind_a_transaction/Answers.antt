use Rattle.solo_transaction.proofs.StandsBehindBegin.{begun_stands, begun_within, looked_stands}
use Rattle.solo_transaction.proofs.StandsBehindCommit.{commit_leaves_standing}
use Rattle.solo_transaction.proofs.StandsRefused.{refused_stands}
use Rattle.solo_transaction.proofs.StandsGivenUp.{abort_leaves_standing, refusal_leaves_standing}
use Rattle.solo_transaction.proofs.resting.what_is_reserved_stands_behind_a_transaction.Goals as goal

pub returns : goal.returns
returns g c = record {
  looked = looked_stands;
  begun = λ o header pool v lane wants begins rests begun own. (
    begun_stands o header pool g.M.LaneMem.at v lane wants begins rests begun own,
    begun_within o header pool g.M.LaneMem.at v lane wants begins rests begun own,
  );
  refused_begin = λ o header pool start v steps shape lane wants r rested below rests was own. refused_stands o header pool start v steps shape g.M.LaneMem.at lane wants r rested below rests was own;
  committed = λ o header pool start v steps lane new blocks works is outer committed own. commit_leaves_standing o header pool start v steps g.M.LaneMem.at lane blocks new.last works is outer committed.ready own;
  given_up = λ o v lane blocks op r n. refusal_leaves_standing o g.M.LaneMem.at lane blocks v op r n;
  aborted = λ o v lane blocks errnum n. abort_leaves_standing o g.M.LaneMem.at lane blocks v errnum n;
}
