use Rattle.std.proofs.Common.{[], ◌∷◌}
use Rattle.solo_reclaim.proofs.tests.what_is_kept_stays.Goals as goal

pub reserve-requires : goal.reserve-requires
reserve-requires g c = (c.expect-block.result ∷ c.expect-chunks.result ∷ [], c.keep_chunks.ensures c.expect-chunks.result c.expect-chunks.ensures)

pub reserve-requires-3 : goal.reserve-requires-3
reserve-requires-3 g c = (c.expect-block.result ∷ c.expect-chunks.result ∷ [], c.reserve-2.ensures (c.expect-block.result ∷ c.expect-chunks.result ∷ []) c.words_left.ensures)
