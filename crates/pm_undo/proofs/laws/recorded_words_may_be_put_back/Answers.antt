use Rattle.pm_undo.proofs.Restored.{restore_lawful}
use Rattle.pm_undo.proofs.laws.recorded_words_may_be_put_back.Goals as goal

pub returns : goal.returns
returns c v working = restore_lawful v working
