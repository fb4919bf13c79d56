use Rattle.std.proofs.Common.{◌≡◌, get_or, length, map, take}
use Rattle.pm_image.specs.Contents.{object_in, offset_in}
use Rattle.pm_image.proofs.objects.objects_in.Given as goal

abbrev pub invariant-loop-block : goal.invariant-loop-block
invariant-loop-block l = l.objects.items ≡ map (λ block. (offset_in block, object_in (λ i. get_or l.words i 0) (length l.blocks) block)) (take l.block-index l.blocks)
