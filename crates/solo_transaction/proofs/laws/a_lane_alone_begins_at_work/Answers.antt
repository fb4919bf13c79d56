use Rattle.solo_transaction.proofs.BeginningAlone.{begun_at_work, begun_works}
use Rattle.solo_transaction.proofs.laws.a_lane_alone_begins_at_work.Goals as goal

pub returns : goal.returns
returns g c = record {
  works = λ o header pool v lane blocks wants begins begun counts. begun_works o header pool g.M.LaneMem.at v lane blocks wants begins begun counts;
  at_work = λ o header pool v lane blocks wants begins pages making_none begun counts. begun_at_work o header pool g.M.LaneMem.at v lane blocks wants begins begun counts pages making_none;
}
