use Rattle.solo_undo.proofs.Covering.{range_recorded}
use Rattle.solo_undo.proofs.laws.a_snapshot_covers_its_range.Goals as goal

pub returns : goal.returns
returns c = range_recorded
