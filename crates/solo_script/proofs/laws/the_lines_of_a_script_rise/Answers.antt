use Rattle.solo_script.proofs.RisingLines.{lines_rise}
use Rattle.solo_script.proofs.laws.the_lines_of_a_script_rise.Goals as goal

pub returns : goal.returns
returns c = lines_rise
