use Rattle.solo_undo.proofs.Restored.{restore_lawful}
use Rattle.solo_undo.proofs.laws.recorded_words_may_be_put_back.Goals as goal

pub returns : goal.returns
returns c = restore_lawful
