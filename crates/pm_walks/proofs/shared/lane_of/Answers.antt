use Rattle.std.proofs.Common.{◌/◌}
use Rattle.pm_layout.specs.Chunks.{words_of}
use Rattle.pm_shared.specs.Openings.{fixed_of, generation_of}
use Rattle.pm_shared.specs.Seats.{IsSeen}
use Rattle.pm_call.proofs.NewLanes.{new_lane_stands}
use Rattle.pm_world.specs.OwnedBits.{none_owned}
use Rattle.pm_walks.proofs.shared.lane_of.Goals as goal

pub new-requires : goal.new-requires
new-requires g c =
    let r = c.requires in
    (fixed_of r.0 r.1, generation_of r.0 r.1, record { shape = r.4; lane = r.5; seen = r.2 })

pub returns : goal.returns
returns g c =
    let r = c.requires in
    new_lane_stands IsSeen c.args.memory c.args.shape
    (none_owned (words_of c.args.shape / 512)) c.in_ok-new.field-0 (fixed_of r.0 r.1)
    (generation_of r.0 r.1) (record { shape = r.4; lane = r.5; seen = r.2 })
    (λ is. c.in_ok-new.ensures.unused (fixed_of r.0 r.1) (generation_of r.0 r.1) r.3 is)
