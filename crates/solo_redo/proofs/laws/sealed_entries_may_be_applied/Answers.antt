use Rattle.solo_redo.proofs.Applied.{apply_lawful}
use Rattle.solo_redo.proofs.laws.sealed_entries_may_be_applied.Goals as goal

pub returns : goal.returns
returns c = λ v place entries are start none. apply_lawful v place entries are start none
