use Rattle.std.proofs.Common.{rules}
use Rattle.pm_tx.proofs.Standing.{incremented_stands}
use Rattle.pm_walks.proofs.standing.increment.Goals as goal

pub returns : goal.returns
returns g c = search (rules, incremented_stands)
