use Rattle.std.proofs.Common.{◌≡◌, ◌≤◌}
use Rattle.pm_image.proofs.Masks.{bits_to}
use Rattle.pm_image.proofs.clashes.lane_mask.Given as goal

abbrev pub invariant-loop-i : goal.invariant-loop-i
invariant-loop-i l = record {
  few : l.i-end ≤ 64;
  so_far : l.bits ≡ bits_to l.image l.lane l.place l.i;
}
