use Rattle.solo_crash.proofs.Performed.{performs}
use Rattle.solo_crash.proofs.actions.entries_perform_actions.Goals as goal

pub returns-clause-pool : goal.returns-clause-pool
returns-clause-pool c = λ w lanes zones header pool actions holds can. (performs w lanes zones header pool actions holds can).holds

pub returns-clause-blocks : goal.returns-clause-blocks
returns-clause-blocks c = λ w lanes zones header pool actions holds can. (performs w lanes zones header pool actions holds can).blocks_stay

pub returns-clause-sizes : goal.returns-clause-sizes
returns-clause-sizes c = λ w lanes zones header pool actions block holds can there. (performs w lanes zones header pool actions holds can).sizes_stay block there
