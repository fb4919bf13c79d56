use Rattle.std.proofs.Common.{refl}
use Rattle.pm_view.specs.Steps.Step.{ZoneGive}
use Rattle.pm_shared.proofs.Seats.{asks_plain, made_plain}
use Rattle.pm_shared.proofs.lane_sync.SharedLaneLaneSync.zone_give.Goals as goal

pub gives_zone-requires-clause-asks : goal.gives_zone-requires-clause-asks
gives_zone-requires-clause-asks g c = asks_plain c.args.self.now _ c.self.view_is (λ r. ZoneGive c.args.zone) (λ r. c.requires) (λ r. refl)

pub returns : goal.returns
returns g c = made_plain c.args.self.now _ c.self.view_is c.gives_zone.new.seat.me (ZoneGive c.args.zone) c.gives_zone.ensures.made refl
