use Rattle.std.proofs.Common.{◌/◌, ◌^◌, eqb, refl}
use Rattle.pm_view.specs.Steps.Step.{TakeRead}
use Rattle.pm_shared.proofs.Seats.{asks_plain, made_plain}
use Rattle.pm_shared.proofs.lane_sync.SharedLaneLaneSync.take_read.Goals as goal

pub takes_read-requires-clause-asks : goal.takes_read-requires-clause-asks
takes_read-requires-clause-asks g c = asks_plain c.args.self.now _ c.self.view_is (λ r. TakeRead c.args.line (eqb (r / 2 ^ 32) 0)) (λ r. c.requires (eqb (r / 2 ^ 32) 0)) (λ r. refl)

pub returns : goal.returns
returns g c = made_plain c.args.self.now _ c.self.view_is c.takes_read.new.seat.me (TakeRead c.args.line c.takes_read.result) c.takes_read.ensures.made refl
