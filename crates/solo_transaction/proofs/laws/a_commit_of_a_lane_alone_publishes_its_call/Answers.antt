use Rattle.solo_transaction.proofs.EndedCommit.{commit_drawn, commit_ends, commit_keeps_page, commit_publishes, commit_stops, commit_stops_in, commit_unlocks}
use Rattle.solo_transaction.proofs.laws.a_commit_of_a_lane_alone_publishes_its_call.Goals as goal

pub returns : goal.returns
returns g c = record {
  publishes = λ o header pool start v steps lane blocks entries spans n commits. commit_publishes o header pool start v steps g.M.LaneMem.at lane blocks entries spans n commits;
  ended = λ o header pool start v steps lane blocks entries spans n commits. commit_ends o header pool start v steps g.M.LaneMem.at lane blocks entries spans n commits;
  unlocked = λ o header pool start v steps lane blocks entries spans n commits. commit_unlocks o header pool start v steps g.M.LaneMem.at lane blocks entries spans n commits;
  page = λ o header pool start v steps lane blocks entries spans n commits. commit_keeps_page o header pool start v steps g.M.LaneMem.at lane blocks entries spans n commits;
  stops = λ o header pool start v steps lane blocks entries spans n made commits. commit_stops o header pool start v steps g.M.LaneMem.at lane blocks entries spans n commits made;
  stops_in = λ o header pool start v steps lane blocks entries spans n made commits. commit_stops_in o header pool start v steps g.M.LaneMem.at lane blocks entries spans n commits made;
  drawn = λ o header pool start v steps lane blocks entries spans n made commits. commit_drawn o header pool start v steps g.M.LaneMem.at lane blocks entries spans n commits made;
}
