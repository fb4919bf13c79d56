use Rattle.solo_undo.proofs.Written.{settled_works}
use Rattle.solo_undo.proofs.laws.a_settled_lane_stays_at_work.Goals as goal

pub returns : goal.returns
returns c = settled_works
