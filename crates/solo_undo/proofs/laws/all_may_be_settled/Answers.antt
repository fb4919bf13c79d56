use Rattle.solo_undo.proofs.Settled.{settle_lawful}
use Rattle.solo_undo.proofs.laws.all_may_be_settled.Goals as goal

pub returns : goal.returns
returns c = settle_lawful
