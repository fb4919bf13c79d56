use Rattle.std.proofs.Common.{◌≡◌, eqb, false, take}
use Rattle.std.specs.List.{list_any}
use Rattle.pm_image.specs.Contents.{offset_in}
use Rattle.pm_image.proofs.objects.is_bad_root.Given as goal

abbrev pub invariant-loop-block : goal.invariant-loop-block
invariant-loop-block l = list_any (λ block. eqb (offset_in block) l.root) (take l.block-index l.blocks) ≡ false
