use Rattle.std.proofs.Common.{eqb, not, refl}
use Rattle.pm_view.specs.Steps.Step.{StopSeen}
use Rattle.pm_shared.proofs.Seats.{asks_plain, made_plain}
use Rattle.pm_shared.proofs.lane_sync.SharedLaneLaneSync.stop_seen.Goals as goal

pub sees_stop-requires-clause-asks : goal.sees_stop-requires-clause-asks
sees_stop-requires-clause-asks g c = asks_plain c.args.self.now _ c.self.view_is (λ r. StopSeen (not (eqb r 0))) (λ r. c.requires (not (eqb r 0))) (λ r. refl)

pub returns : goal.returns
returns g c = made_plain c.args.self.now _ c.self.view_is c.sees_stop.new.seat.me (StopSeen c.sees_stop.result) c.sees_stop.ensures.made refl
