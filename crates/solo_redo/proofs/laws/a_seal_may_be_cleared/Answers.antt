use Rattle.solo_redo.proofs.Sealed.{clear_lawful}
use Rattle.solo_redo.proofs.laws.a_seal_may_be_cleared.Goals as goal

pub returns : goal.returns
returns c = clear_lawful
