use Rattle.std.proofs.Common.{eqb, refl}
use Rattle.pm_view.specs.LockWords.{reader_bit}
use Rattle.pm_view.specs.Steps.Step.{Raise}
use Rattle.pm_shared.proofs.Seats.{asks_plain, made_plain}
use Rattle.pm_shared.proofs.lane_sync.SharedLaneLaneSync.raise.Goals as goal

pub raises-requires-clause-asks : goal.raises-requires-clause-asks
raises-requires-clause-asks g c = asks_plain c.args.self.now _ c.self.view_is (λ r. Raise c.args.line (eqb r (reader_bit c.self.inside.lane))) (λ r. c.requires (eqb r (reader_bit c.self.inside.lane))) (λ r. refl)

pub returns : goal.returns
returns g c = made_plain c.args.self.now _ c.self.view_is c.raises.new.seat.me (Raise c.args.line c.raises.result) c.raises.ensures.made refl
