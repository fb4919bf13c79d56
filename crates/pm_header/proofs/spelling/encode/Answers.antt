use Rattle.std.proofs.Common.{◌∙◌, arith}
use Rattle.std.proofs.lemmas.List.{length-take}
use Rattle.pm_header.proofs.Pairs.{with_pairs_written}
use Rattle.pm_header.proofs.spelling.encode.Goals as goal

pub returns : goal.returns
returns c =
    let page = c.args.page.now in
    with_pairs_written c.args.header.now page c.copy_from_slice.new.self c.copy_from_slice-2.new.self
    (omega (arith, c.copy_from_slice.ensures.len, length-take 16 page, c.requires.page))
    (c.copy_from_slice.ensures.after ∙ c.spell.ensures) (c.copy_from_slice-2.ensures.after ∙ c.spell.ensures)
