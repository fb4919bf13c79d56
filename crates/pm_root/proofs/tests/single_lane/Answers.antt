use Rattle.std.proofs.Common.{ℕ, ◌/◌, slice_index, None, refl, arith}
use Rattle.pm_layout.specs.Areas.{word_of_generation}
use Rattle.pm_layout.specs.Chunks.{words_of}
use Rattle.pm_view.specs.View.{Constants}
use Rattle.pm_world.specs.OwnedBits.{none_owned}
use Rattle.pm_world.specs.SoloLanes.{StandsAs, only_lane}
use Rattle.pm_call.proofs.NewLanes.{new_lane_stands}
use Rattle.pm_root.proofs.tests.single_lane.Goals as goal

pub new-requires : goal.new-requires
new-requires c = (
  only_lane c.in-Ok.shape c.in-Ok.pool None,
  slice_index c.in-Ok.memory.words (word_of_generation c.in-Ok.shape 0),
  record {
    shape = refl;
    lane = let l = c.in-Ok.shape.lanes_from in omega (arith, l);
    seen = c.in-Ok.ensures.stands;
  },
)

pub returns : goal.returns
returns c =
    let fixed : Constants = only_lane c.in-Ok.shape c.in-Ok.pool None in
    let generation : ℕ = slice_index c.in-Ok.memory.words (word_of_generation c.in-Ok.shape 0) in
    new_lane_stands StandsAs c.in-Ok.memory c.in-Ok.shape (none_owned (words_of c.in-Ok.shape / 512))
    c.in_ok-new.field-0 fixed generation (record {
      shape = refl;
      lane = let l = c.in-Ok.shape.lanes_from in omega (arith, l);
      seen = c.in-Ok.ensures.stands;
    }) (λ is. c.in_ok-new.ensures.unused fixed generation refl is)
