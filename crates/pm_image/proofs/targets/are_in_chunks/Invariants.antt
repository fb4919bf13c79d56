use Rattle.std.proofs.Common.{◌≡◌, ◌+◌, true}
use Rattle.std.specs.List.{list_all, range_with_len}
use Rattle.pm_image.specs.LogFaults.{in_chunk}
use Rattle.pm_image.proofs.targets.are_in_chunks.Given as goal

abbrev pub invariant-loop-k : goal.invariant-loop-k
invariant-loop-k l = list_all (λ k. in_chunk l.shape.lanes l.shape.zones (l.first + k)) (range_with_len 0 l.k) ≡ true
