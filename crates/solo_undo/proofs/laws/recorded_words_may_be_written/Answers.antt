use Rattle.solo_undo.proofs.Written.{write_lawful}
use Rattle.solo_undo.proofs.laws.recorded_words_may_be_written.Goals as goal

pub returns : goal.returns
returns c = write_lawful
