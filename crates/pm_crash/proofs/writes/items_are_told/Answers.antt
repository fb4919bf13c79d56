use Rattle.pm_crash.proofs.Told as told
use Rattle.pm_crash.proofs.writes.items_are_told.Goals as goal

pub returns : goal.returns
returns _ = told.items_told
