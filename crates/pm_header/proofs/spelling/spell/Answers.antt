use Rattle.pm_header.proofs.Pairs.{pair_spelled}
use Rattle.pm_header.proofs.spelling.spell.Goals as goal

pub returns : goal.returns
returns c = pair_spelled c.args.header.now c.copy_from_slice.new.self c.words_of.new.out c.line.result.now c.sum64.result c.sum64-2.result c.line.ensures.value c.words_of.ensures c.sum64.ensures c.copy_from_slice.ensures.after c.sum64-2.ensures
