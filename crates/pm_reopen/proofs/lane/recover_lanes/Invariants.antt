use Rattle.pm_reopen.proofs.Inside.{HasMade}
use Rattle.pm_reopen.proofs.lane.recover_lanes.Given as goal

abbrev pub invariant-loop-lane : goal.invariant-loop-lane
invariant-loop-lane l = HasMade l.image l.initial.mem l.mem l.lane
