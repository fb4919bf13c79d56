use Rattle.solo_undo.proofs.Lockings.{locked_may_be_recorded}
use Rattle.solo_undo.proofs.laws.words_held_for_writing_may_be_recorded.Goals as goal

pub returns : goal.returns
returns c = locked_may_be_recorded
