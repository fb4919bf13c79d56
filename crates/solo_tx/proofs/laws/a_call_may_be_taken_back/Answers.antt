use Rattle.solo_tx.proofs.TakenBack.{take_back_lawful}
use Rattle.solo_tx.proofs.laws.a_call_may_be_taken_back.Goals as goal

pub returns : goal.returns
returns c = take_back_lawful
