use Rattle.std.proofs.Common.{◌≡◌, get_or}
use Rattle.std.specs.List.{All, flat_map, range_with_len}
use Rattle.pm_image.specs.Blocks.{IsAddressable, chunk_blocks}
use Rattle.pm_image.proofs.chunks.blocks_of_words.Given as goal

abbrev pub invariant-loop-chunk : goal.invariant-loop-chunk
invariant-loop-chunk l = record {
  items : l.found.items ≡ flat_map (chunk_blocks (λ i. get_or l.words i 0) l.shape.lanes) (range_with_len 0 l.chunk);
  addressable : All IsAddressable l.found.items;
}
