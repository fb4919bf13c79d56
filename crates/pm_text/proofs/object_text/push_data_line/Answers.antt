use Rattle.std.proofs.Common.{arith, rules, append_assoc}
use Rattle.std.proofs.lemmas.Grind.{common_steps}
use Rattle.pm_text.specs.Dump.{line_of_piece}
use Rattle.pm_text.proofs.object_text.push_data_line.Goals as goal

pub returns-then-is_zero : goal.returns-then-is_zero
unfolding line_of_piece
returns-then-is_zero c = grind (arith, common_steps)

pub returns : goal.returns
unfolding line_of_piece
returns c = search (rules, append_assoc)
