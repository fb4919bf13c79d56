use Rattle.std.proofs.Common.{◌/◌, arith}
use Rattle.pm_layout.specs.Chunks.{words_of}
use Rattle.pm_shared.specs.Openings.{fixed_of, generation_of}
use Rattle.pm_shared.specs.Seats.{IsSeen}
use Rattle.pm_shared.specs.declared.rule.Beginning.{Beginning}
use Rattle.pm_world.specs.LaneFields.{IsUnused}
use Rattle.pm_world.specs.OwnedBits.{none_owned}
use Rattle.pm_call.proofs.NewLanes.{new_lane_stands}
use Rattle.pm_transfers.proofs.pool.on_first.Goals as goal

pub new-requires : goal.new-requires
new-requires g c = let key : Beginning = c.args.memory.now.table.shared.key in (
  fixed_of key 0,
  generation_of key 0,
  record {
    shape = c.requires.shape;
    lane = let l = c.args.shape.lanes_from in omega (arith, l);
    seen = c.in_ok-lane.ensures.lane;
  },
)

pub on_lane-requires : goal.on_lane-requires
on_lane-requires g c =
    let key : Beginning = c.args.memory.now.table.shared.key in
    let is : IsUnused IsSeen c.in_ok-lane.lane c.args.shape (fixed_of key 0) (generation_of key 0) =
    record {
      shape = c.requires.shape;
      lane = let l = c.args.shape.lanes_from in omega (arith, l);
      seen = c.in_ok-lane.ensures.lane;
    } in
    new_lane_stands IsSeen c.in_ok-lane.lane c.args.shape (none_owned (words_of c.args.shape / 512))
    c.in_ok-lane-2.lane (fixed_of key 0) (generation_of key 0) is
    (λ u. c.in_ok-lane-2.ensures.unused (fixed_of key 0) (generation_of key 0) c.requires.id u)
