use Rattle.std.proofs.Common.{◌≡◌, false}
use Rattle.std.specs.List.{list_any, range_with_len}
use Rattle.pm_image.proofs.Masks.{AreTogether, lane_clashes}
use Rattle.pm_image.proofs.clashes.do_lanes_clash.Given as goal

abbrev pub invariant-loop-lane : goal.invariant-loop-lane
invariant-loop-lane l = record {
  together : AreTogether l.image l.place l.lane l.earlier;
  none : list_any (lane_clashes l.image l.place) (range_with_len 0 l.lane) ≡ false;
}
