use Rattle.std.proofs.Common.{eqb, refl}
use Rattle.pm_view.specs.Steps.Step.{ZoneTry}
use Rattle.pm_shared.proofs.Seats.{asks_plain, made_plain}
use Rattle.pm_shared.proofs.lane_sync.SharedLaneLaneSync.zone_try.Goals as goal

pub tries_zone-requires-clause-asks : goal.tries_zone-requires-clause-asks
tries_zone-requires-clause-asks g c = asks_plain c.args.self.now _ c.self.view_is (λ r. ZoneTry c.args.zone (eqb r 0)) (λ r. c.requires (eqb r 0)) (λ r. refl)

pub returns : goal.returns
returns g c = made_plain c.args.self.now _ c.self.view_is c.tries_zone.new.seat.me (ZoneTry c.args.zone c.tries_zone.result) c.tries_zone.ensures.made refl
