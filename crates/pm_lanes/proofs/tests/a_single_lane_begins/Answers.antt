use Rattle.std.proofs.Common.{slice_index, Some, refl, arith}
use Rattle.pm_layout.specs.Areas.{word_of_generation}
use Rattle.pm_world.specs.SoloLanes.{only_lane}
use Rattle.pm_lanes.proofs.tests.a_single_lane_begins.Goals as goal

pub new-requires : goal.new-requires
new-requires g c = (
  only_lane c.in-Ok.shape c.in-Ok.id (Some 3),
  slice_index c.in-Ok.memory.words (word_of_generation c.in-Ok.shape 0),
  record {
    shape = refl;
    lane = let l = c.in-Ok.shape.lanes_from in omega (arith, l);
    seen = c.in-Ok.ensures.stands;
  },
)
