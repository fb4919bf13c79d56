use Rattle.std.proofs.Common.{◌≡◌, drop}
use Rattle.solo_script.specs.Stops.{stop_of}
use Rattle.solo_script.proofs.stopping.stop_of.Given as goal

abbrev pub invariant-loop-other : goal.invariant-loop-other
invariant-loop-other l = stop_of l.lane l.stops ≡ stop_of l.lane (drop l.other-index l.stops)
