use Rattle.pm_undo.proofs.Ranges.{ranges_may}
use Rattle.pm_undo.proofs.laws.ranges_of_held_objects_may_be_snapshot.Goals as goal

pub returns : goal.returns
returns c = ranges_may
