use Rattle.pm_lanes.proofs.Turns.{of_worlds}
use Rattle.pm_lanes.proofs.laws.turns_are_of_worlds.Goals as goal

pub returns : goal.returns
returns c = of_worlds
