use Rattle.solo_redo.proofs.Sealed.{seal_lawful}
use Rattle.solo_redo.proofs.laws.a_lane_may_seal.Goals as goal

pub returns : goal.returns
returns c = seal_lawful
