use Rattle.pm_model.proofs.Beginning.{begins_at, can_begin_there}
use Rattle.pm_model.proofs.laws.blocks_begin_at_chunks_and_in_runs.Goals as goal

pub returns : goal.returns
returns c = λ lanes zones off. (begins_at lanes zones off, can_begin_there lanes zones off)
