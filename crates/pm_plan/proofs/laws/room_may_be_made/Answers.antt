use Rattle.pm_plan.proofs.Going.{room_lawful}
use Rattle.pm_plan.proofs.laws.room_may_be_made.Goals as goal

pub returns : goal.returns
returns c v = room_lawful v
