use Rattle.std.proofs.Common.{refl}
use Rattle.pm_view.specs.Steps.Step.{NumberSeen}
use Rattle.pm_shared.proofs.Seats.{asks_plain, made_plain}
use Rattle.pm_shared.proofs.lane_sync.SharedLaneLaneSync.number_seen.Goals as goal

pub sees_number-requires-clause-asks : goal.sees_number-requires-clause-asks
sees_number-requires-clause-asks g c = asks_plain c.args.self.now _ c.self.view_is (λ r. NumberSeen r) (λ r. c.requires (r)) (λ r. refl)

pub returns : goal.returns
returns g c = made_plain c.args.self.now _ c.self.view_is c.sees_number.new.seat.me (NumberSeen c.sees_number.result) c.sees_number.ensures.made refl
