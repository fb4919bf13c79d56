use Rattle.solo_undo.proofs.Lockings.{locked_is_plain}
use Rattle.solo_undo.proofs.laws.words_under_locks_are_plain.Goals as goal

pub returns : goal.returns
returns c = locked_is_plain
