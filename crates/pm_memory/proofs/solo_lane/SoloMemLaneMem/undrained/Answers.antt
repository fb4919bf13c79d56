use Rattle.pm_memory.proofs.Undrained.{undrained-length}
use Rattle.pm_memory.proofs.solo_lane.SoloMemLaneMem.undrained.Goals as goal

pub returns-clause-seen : goal.returns-clause-seen
returns-clause-seen c v sees = let same = undrained-length c.args.self.now.changes v.changes sees.changes in cc
