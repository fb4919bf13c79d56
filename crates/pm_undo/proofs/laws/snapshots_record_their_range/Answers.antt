use Rattle.pm_undo.proofs.WordsWritten.{ranges_recorded}
use Rattle.pm_undo.proofs.laws.snapshots_record_their_range.Goals as goal

pub returns : goal.returns
returns c = ranges_recorded
