use Rattle.solo_crash.proofs.HeapWordsAlone.{held_by_heap}
use Rattle.solo_crash.proofs.laws.a_pool_is_held_by_heap_words.Goals as goal

pub returns : goal.returns
returns c = held_by_heap
