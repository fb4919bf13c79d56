use Rattle.solo_transaction.proofs.EndedLog.{log_drawn, log_ends, log_keeps_page, log_publishes, log_stops, log_stops_in, log_unlocks}
use Rattle.solo_transaction.proofs.laws.a_call_told_by_its_log_is_published.Goals as goal

pub returns : goal.returns
returns c = record {
  publishes = λ o header pool start v steps op actions blocks entries n logs. log_publishes logs n;
  ended = λ o header pool start v steps op actions blocks entries n logs. log_ends logs n;
  unlocked = λ o header pool start v steps op actions blocks entries n logs. log_unlocks logs n;
  page = λ o header pool start v steps op actions blocks entries n logs. log_keeps_page logs n;
  stops = λ o header pool start v steps op actions blocks entries n made logs ready own. log_stops logs n ready made own;
  stops_in = λ o header pool start v steps op actions blocks entries n made logs ready own. log_stops_in logs n ready made own;
  drawn = λ o header pool start v steps op actions blocks entries n made logs ready own more. log_drawn logs n ready made own more;
}
