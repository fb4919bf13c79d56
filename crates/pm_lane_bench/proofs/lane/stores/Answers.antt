use Rattle.std.proofs.Common.{subst}
use Rattle.std.specs.Bool.{OnTrue}
use Rattle.pm_shared.specs.Openings.{idle_view}
use Rattle.pm_shared.specs.Seats.{IsSeen}
use Rattle.pm_view.specs.View.{View}
use Rattle.pm_lane_bench.specs.Lanes.{CanReserve, with_chunk}
use Rattle.pm_lane_bench.proofs.Fillings.{fills_none, unasked}
use Rattle.pm_lane_bench.proofs.lane.stores.Goals as goal

pub reserve-requires : goal.reserve-requires
reserve-requires g c = (
  idle_view c.requires.opening 0,
  c.requires.seen,
  unasked
      c.requires.opening c.requires.two_lanes,
)

pub loop-init : goal.loop-init
loop-init g c =
    let v : View = idle_view c.requires.opening 0 in let can = unasked c.requires.opening
    c.requires.two_lanes in
    fills_none c.reserve.new.mem v can
    (subst (λ won. OnTrue won ((v : View) → IsSeen c.args.lane.now v → CanReserve v → IsSeen
    c.reserve.new.mem (with_chunk v))) c.if-not-reserve.false c.reserve.ensures v
    c.requires.seen can)
