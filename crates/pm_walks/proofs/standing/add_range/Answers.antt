use Rattle.std.proofs.Common.{rules}
use Rattle.pm_tx.proofs.Standing.{added_stands}
use Rattle.pm_walks.proofs.standing.add_range.Goals as goal

pub returns : goal.returns
returns g c = search (rules, added_stands)
