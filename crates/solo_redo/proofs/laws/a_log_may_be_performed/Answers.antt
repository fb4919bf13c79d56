use Rattle.solo_redo.proofs.Performed.{perform_lawful}
use Rattle.solo_redo.proofs.laws.a_log_may_be_performed.Goals as goal

pub returns : goal.returns
returns c = λ v entries ready. perform_lawful v entries ready
