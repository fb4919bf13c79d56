use Rattle.std.proofs.Common.{◌≡◌, get_or, None}
use Rattle.std.specs.List.{find, range_with_len}
use Rattle.pm_image.specs.HeapFaults.{bad_chunk}
use Rattle.pm_image.proofs.chunks.first_bad_chunk.Given as goal

abbrev pub invariant-loop-chunk : goal.invariant-loop-chunk
invariant-loop-chunk l = find (bad_chunk (λ i. get_or l.words i 0) l.shape.lanes) (range_with_len 0 l.chunk) ≡ None
