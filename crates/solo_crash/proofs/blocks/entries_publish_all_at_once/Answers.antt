use Rattle.solo_crash.proofs.PublishedInTurn.{all_are_published}
use Rattle.solo_crash.proofs.blocks.entries_publish_all_at_once.Goals as goal

pub returns-clause-pool : goal.returns-clause-pool
returns-clause-pool c = λ w lanes zones header pool steps holds can order have. (all_are_published w lanes zones header pool steps holds can order have).holds

pub returns-clause-blocks : goal.returns-clause-blocks
returns-clause-blocks c = λ w lanes zones header pool steps holds can order have. (all_are_published w lanes zones header pool steps holds can order have).blocks_are
