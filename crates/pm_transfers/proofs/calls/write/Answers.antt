use Rattle.std.proofs.Common.{rules}
use Rattle.pm_tx.proofs.Standing.{written_stands}
use Rattle.pm_transfers.proofs.calls.write.Goals as goal

pub returns : goal.returns
returns g c = search (rules, written_stands)
