use Rattle.std.proofs.Common.{refl, arith}
use Rattle.pm_world.specs.TestLanes.{first_lane}
use Rattle.pm_world.proofs.tests.a_lane.Goals as goal

pub new-requires-2 : goal.new-requires-2
new-requires-2 g c = (
  first_lane c.in_ok-shape.shape,
  1,
  record {
    shape = refl;
    lane = let l = c.in_ok-shape.shape.lanes_from in omega (arith, l);
    seen =
        c.in_ok-memory.ensures 7;
  },
)
