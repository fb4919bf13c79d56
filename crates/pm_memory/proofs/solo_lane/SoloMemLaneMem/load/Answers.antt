use Rattle.pm_memory.proofs.Seeing.{sees_loaded}
use Rattle.pm_memory.proofs.solo_lane.SoloMemLaneMem.load.Goals as goal

pub returns-clause-made : goal.returns-clause-made
returns-clause-made c v sees any = sees_loaded c.args.self.now v c.args.word c.found.result c.found.ensures sees
