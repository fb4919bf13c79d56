use Rattle.std.proofs.Common.{sym, ◌∙◌}
use Rattle.solo_exec.specs.Letters.{offsets_in}
use Rattle.solo_exec.proofs.GivenLetters.{found_before, found_behind}
use Rattle.solo_exec.proofs.letters.offset_of.Goals as goal

pub returns-in-Some : goal.returns-in-Some
returns-in-Some c = sym (found_before c.args.given.now (offsets_in c.args.values.now) c.args.line c.in-Some.off (sym c.in-Some.ensures))

pub returns-in-None : goal.returns-in-None
returns-in-None c = c.offset_among.ensures ∙ sym (found_behind c.args.given.now (offsets_in c.args.values.now) c.args.line (sym c.in-None.ensures))
