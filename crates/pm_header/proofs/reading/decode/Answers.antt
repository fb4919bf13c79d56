use Rattle.std.proofs.Common.{rules}
use Rattle.pm_header.proofs.PairLaws.{again_from_read, exact_from_read}
use Rattle.pm_header.proofs.reading.decode.Goals as goal

pub returns-clause-again : goal.returns-clause-again
returns-clause-again c = again_from_read c.args.page.now c.read_pairs.result c.read_pairs.ensures.read c.read_pairs.ensures.fault

pub returns-clause-exact : goal.returns-clause-exact
returns-clause-exact c = exact_from_read c.args.page.now c.read_pairs.result c.read_pairs.ensures.read c.read_pairs.ensures.fault (λ fault other is is_other. search rules)
