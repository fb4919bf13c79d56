use Rattle.solo_undo.proofs.Retired.{retire_given_up}
use Rattle.solo_undo.proofs.laws.a_call_given_up_may_retire.Goals as goal

pub returns : goal.returns
returns c = retire_given_up
