use Rattle.std.proofs.Common.{◌≡◌, ◌-◌, ◌%◌, length}
use Rattle.pm_world.specs.OwnedBits.{AreClearFrom}
use Rattle.pm_world.proofs.owned_bits.first_page.Given as goal

abbrev pub invariant-loop-from : goal.invariant-loop-from
invariant-loop-from l = (l.from % 64 ≡ 0) × AreClearFrom l.runs 0 l.from

abbrev pub decreases-loop-from : goal.decreases-loop-from
decreases-loop-from l = length l.runs - l.from
