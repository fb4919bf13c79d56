use Rattle.pm_undo.proofs.Restored.{restored_may_retire}
use Rattle.pm_undo.proofs.laws.restored_lanes_may_end_their_generation.Goals as goal

pub returns : goal.returns
returns c v w is = restored_may_retire v w is
