use Rattle.solo_undo.proofs.Snapshotted.{snapshot_lawful}
use Rattle.solo_undo.proofs.laws.words_may_be_recorded.Goals as goal

pub returns : goal.returns
returns c = snapshot_lawful
