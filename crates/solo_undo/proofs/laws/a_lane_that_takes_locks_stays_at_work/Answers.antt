use Rattle.solo_undo.proofs.Begun.{take_works}
use Rattle.solo_undo.proofs.laws.a_lane_that_takes_locks_stays_at_work.Goals as goal

pub returns : goal.returns
returns c = take_works
