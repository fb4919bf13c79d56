use Rattle.std.proofs.Common.{slice_index}
use Rattle.solo_occupancy.specs.Words.{TellsChunks}
use Rattle.solo_occupancy.proofs.occupancy.chunks_word.Given as goal

abbrev pub invariant-loop-chunk : goal.invariant-loop-chunk
invariant-loop-chunk l = TellsChunks (slice_index l.words) l.fn.shape.lanes l.zone l.chunk l.taken
