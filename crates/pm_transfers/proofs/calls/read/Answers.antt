use Rattle.std.proofs.Common.{rules}
use Rattle.pm_tx.proofs.Standing.{read_stands}
use Rattle.pm_transfers.proofs.calls.read.Goals as goal

pub returns : goal.returns
returns g c = search (rules, read_stands)
