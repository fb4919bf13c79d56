use Rattle.pm_undo.proofs.WordsWritten.{ranges_written}
use Rattle.pm_undo.proofs.laws.snapshot_ranges_may_be_written.Goals as goal

pub returns : goal.returns
returns c = ranges_written
