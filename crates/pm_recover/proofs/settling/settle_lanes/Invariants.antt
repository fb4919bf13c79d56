use Rattle.pm_recover.specs.Steps.{AreSettled}
use Rattle.pm_recover.proofs.settling.settle_lanes.Given as goal

abbrev pub invariant-loop-lane : goal.invariant-loop-lane
invariant-loop-lane l = AreSettled l.initial.image l.image l.lane
