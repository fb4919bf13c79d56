use Rattle.pm_image.proofs.Meanings.{again, exact}
use Rattle.pm_image.proofs.meaning.means.Goals as goal

pub returns-clause-again : goal.returns-clause-again
returns-clause-again c = again c.args.image.now c.read_meaning.result c.read_meaning.ensures.pool c.read_meaning.ensures.fault

pub returns-clause-exact : goal.returns-clause-exact
returns-clause-exact c = exact c.args.image.now c.read_meaning.result c.read_meaning.ensures.pool c.read_meaning.ensures.fault
