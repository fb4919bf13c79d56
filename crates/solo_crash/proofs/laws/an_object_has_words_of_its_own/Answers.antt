use Rattle.pm_image.proofs.LocalHeap.{blocks_same}
use Rattle.solo_crash.proofs.Apart.{heads_kept}
use Rattle.solo_crash.proofs.OneObject.{pool_of_words, sizes_kept}
use Rattle.solo_crash.proofs.laws.an_object_has_words_of_its_own.Goals as goal

pub returns-clause-pool : goal.returns-clause-pool
returns-clause-pool c = pool_of_words

pub returns-clause-blocks : goal.returns-clause-blocks
returns-clause-blocks c = λ w v lanes zones block none there keeps. blocks_same w v lanes zones (heads_kept w v lanes zones block none there keeps)

pub returns-clause-sizes : goal.returns-clause-sizes
returns-clause-sizes c = sizes_kept
