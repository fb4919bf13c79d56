use Rattle.solo_action.proofs.BegunOn.{closed_unlocked}
use Rattle.solo_action.proofs.ToldOutside.{begun_unlocked}
use Rattle.solo_action.proofs.reserving.end_refused.Goals as goal

pub returns-clause-rests : goal.returns-clause-rests
returns-clause-rests g c u is = closed_unlocked g.M.LaneMem.at c.end_outside.new.lane _ c.args.lane.now.locks.items c.requires.free (c.end_outside.ensures.closed u is (begun_unlocked g.M.LaneMem.at c.args.lane.now u is c.requires.free))
