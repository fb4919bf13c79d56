use Rattle.pm_world.specs.Bare.{AreBare}
use Rattle.pm_world.proofs.opening.begin_lanes.Given as goal

-- so many lanes have begun
abbrev pub invariant-loop-lane : goal.invariant-loop-lane
invariant-loop-lane l = AreBare l.shape l.lane l.words.items
