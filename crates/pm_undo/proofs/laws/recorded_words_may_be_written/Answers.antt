use Rattle.pm_undo.proofs.WordsWritten.{write_lawful}
use Rattle.pm_undo.proofs.laws.recorded_words_may_be_written.Goals as goal

pub returns : goal.returns
returns c v word values can = write_lawful v word values can
