use Rattle.solo_crash.proofs.Written.{write_keeps_others, written_pool}
use Rattle.solo_crash.proofs.laws.a_write_changes_one_object.Goals as goal

pub returns-clause-pool : goal.returns-clause-pool
returns-clause-pool c = written_pool

pub returns-clause-others : goal.returns-clause-others
returns-clause-others c = write_keeps_others
