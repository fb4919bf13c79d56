use Rattle.solo_chunks.proofs.ChunkBits.{bits_shifted}
use Rattle.solo_chunks.proofs.bits.chunk_bits.Goals as goal

pub returns : goal.returns
returns c = bits_shifted c.args.first c.args.count c.requires.in_zone
