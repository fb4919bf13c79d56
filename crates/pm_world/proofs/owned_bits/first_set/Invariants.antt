use Rattle.std.proofs.Common.{◌-◌}
use Rattle.pm_world.specs.OwnedBits.{AreClearFrom}
use Rattle.pm_world.proofs.owned_bits.first_set.Given as goal

abbrev pub invariant-loop-i : goal.invariant-loop-i
invariant-loop-i l = AreClearFrom l.words l.from l.i

abbrev pub decreases-loop-i : goal.decreases-loop-i
decreases-loop-i l = l.end - l.i
