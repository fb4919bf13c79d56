use Rattle.pm_undo.proofs.Standing.{snapshot_lawful}
use Rattle.pm_undo.proofs.laws.snapshots_are_lawful.Goals as goal

pub returns : goal.returns
returns c v place len can room = snapshot_lawful v place len can room
