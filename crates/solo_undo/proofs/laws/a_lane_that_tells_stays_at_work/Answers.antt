use Rattle.solo_undo.proofs.Begun.{tell_works}
use Rattle.solo_undo.proofs.laws.a_lane_that_tells_stays_at_work.Goals as goal

pub returns : goal.returns
returns c = tell_works
