use Rattle.solo_action.proofs.PublishedAlone.{may_publish_pending, publish_logs}
use Rattle.solo_action.proofs.laws.a_lane_alone_publishes_all_at_once.Goals as goal

pub returns : goal.returns
returns g c = record {
  may = λ o header pool start v steps lane pending works holds. may_publish_pending holds works;
  logs = λ o header pool start v steps lane pending blocks works holds lists some. publish_logs holds works lists some;
}
