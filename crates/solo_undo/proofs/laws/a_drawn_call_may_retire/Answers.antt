use Rattle.solo_undo.proofs.Retired.{retire_drawn}
use Rattle.solo_undo.proofs.laws.a_drawn_call_may_retire.Goals as goal

pub returns : goal.returns
returns c = retire_drawn
