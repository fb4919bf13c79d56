use Rattle.solo_undo.proofs.Learned.{learns_at_work, opening_learned}
use Rattle.solo_undo.proofs.laws.a_lane_that_learns_stays_at_work.Goals as goal

pub returns-clause-work : goal.returns-clause-work
returns-clause-work c v word x working plain finds = learns_at_work v word x plain finds working

pub returns-clause-opening : goal.returns-clause-opening
returns-clause-opening c o v word x finds plain = opening_learned v word x plain o finds
