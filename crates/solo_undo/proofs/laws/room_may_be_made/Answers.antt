use Rattle.solo_undo.proofs.Settled.{room_lawful}
use Rattle.solo_undo.proofs.laws.room_may_be_made.Goals as goal

pub returns : goal.returns
returns c = room_lawful
