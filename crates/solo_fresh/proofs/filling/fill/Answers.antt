use Rattle.solo_fresh.proofs.Inside.{words_inside}
use Rattle.solo_fresh.proofs.filling.fill.Goals as goal

pub fill_lines-requires-clause-inside : goal.fill_lines-requires-clause-inside
fill_lines-requires-clause-inside g c = words_inside (g.M.LaneMem.at c.args.mem.now) c.words-words.result c.args.line c.args.lines c.args.header.kind c.args.header.size c.words-words.type_inv c.words-words.ensures c.requires
