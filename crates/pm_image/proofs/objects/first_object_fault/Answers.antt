use Rattle.pm_image.specs.Blocks.{IsAddressable}
use Rattle.std.proofs.Common.{not, get_or, sym, ◌∙◌}
use Rattle.pm_image.specs.HeapFaults.{good_block}
use Rattle.pm_image.specs.Narrowings.{takes_links}
use Rattle.pm_image.proofs.Firsts.{found_among}
use Rattle.pm_image.proofs.objects.first_object_fault.Goals as goal

pub offset-requires : goal.offset-requires
offset-requires c = found_among IsAddressable (λ block. not (good_block (λ i. get_or c.args.words.now i 0) block)) c.args.blocks.now c.in-Some.block c.requires (sym c.first_bad_block.ensures ∙ c.in-Some.is)

pub offset-requires-in-Some-first_linked : goal.offset-requires-in-Some-first_linked
offset-requires-in-Some-first_linked c = found_among IsAddressable (λ block. not (takes_links (λ i. get_or c.args.words.now i 0) block)) c.args.blocks.now c.in-Some-first_linked.block c.requires (sym c.first_linked.ensures ∙ c.in-Some-first_linked.is)
