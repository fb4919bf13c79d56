use Rattle.solo_tx.proofs.GivenUp.{is_working_lane}
use Rattle.solo_tx.proofs.giving_up.undo_call.Goals as goal

pub take_back-requires-clause-working : goal.take_back-requires-clause-working
take_back-requires-clause-working g c = let is = c.requires.at_work in is_working_lane g.M.LaneMem.at c.args.lane.now is.0 is.1.0 is.1.1
