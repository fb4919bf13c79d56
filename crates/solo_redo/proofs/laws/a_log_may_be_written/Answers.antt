use Rattle.solo_redo.proofs.Logged.{log_lawful}
use Rattle.solo_redo.proofs.laws.a_log_may_be_written.Goals as goal

pub returns : goal.returns
returns c = λ v entries ready few of_pool. log_lawful v entries ready few of_pool
