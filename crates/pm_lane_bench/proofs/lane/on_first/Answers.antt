use Rattle.pm_shared.proofs.TestLanes.{fresh}
use Rattle.pm_shared.specs.Openings.{fixed_of, generation_of}
use Rattle.pm_shared.specs.Seats.{IsSeen}
use Rattle.pm_lane_bench.proofs.CallLanes.{starts, unused_is}
use Rattle.pm_lane_bench.proofs.lane.on_first.Goals as goal

pub stores-requires : goal.stores-requires
stores-requires g c = record {
  opening = c.args.memory.now.table.shared.key;
  seen =
      c.in_ok-lane.ensures.lane;
  two_lanes = c.requires.lanes.1;
}

pub locks-requires : goal.locks-requires
locks-requires g c = fresh c.args.memory.now.table.shared.key 0 c.in_ok-lane.lane
    c.in_ok-lane.ensures.lane

pub new-requires : goal.new-requires
new-requires g c = let b = c.args.memory.now.table.shared.key in (
  fixed_of b 0,
  generation_of b
      0,
  unused_is b c.in_ok-lane.lane c.args.shape c.requires.shape c.in_ok-lane.ensures.lane,
)

pub ors-requires : goal.ors-requires
ors-requires g c = let b = c.args.memory.now.table.shared.key in
    starts IsSeen c.in_ok-lane-in-Or.lane b (generation_of b 0) _ c.requires.lanes.1
    (c.in_ok-lane-in-Or.ensures.unused (fixed_of b 0) (generation_of b 0) c.requires.id
    (unused_is b c.in_ok-lane.lane c.args.shape c.requires.shape c.in_ok-lane.ensures.lane))
