use Rattle.pm_undo.proofs.Holdings.{holdings}
use Rattle.pm_undo.proofs.laws.holdings_stay.Goals as goal

pub returns : goal.returns
returns c = holdings
