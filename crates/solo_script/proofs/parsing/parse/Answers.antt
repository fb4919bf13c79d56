use Rattle.solo_script.specs.Words.{lines}
use Rattle.solo_script.proofs.Readings.{exact}
use Rattle.solo_script.proofs.parsing.parse.Goals as goal

pub returns-clause-exact : goal.returns-clause-exact
returns-clause-exact c = exact (lines c.args.text.now) c.read_script.result c.read_script.ensures.script c.read_script.ensures.bad
