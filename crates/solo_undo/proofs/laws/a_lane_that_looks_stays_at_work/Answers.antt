use Rattle.solo_undo.proofs.Begun.{look_works}
use Rattle.solo_undo.proofs.laws.a_lane_that_looks_stays_at_work.Goals as goal

pub returns : goal.returns
returns c = look_works
