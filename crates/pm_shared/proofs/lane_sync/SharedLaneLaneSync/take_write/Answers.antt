use Rattle.std.proofs.Common.{eqb, refl}
use Rattle.pm_view.specs.Steps.Step.{TakeWrite}
use Rattle.pm_shared.proofs.Seats.{asks_plain, made_plain}
use Rattle.pm_shared.proofs.lane_sync.SharedLaneLaneSync.take_write.Goals as goal

pub takes_write-requires-clause-asks : goal.takes_write-requires-clause-asks
takes_write-requires-clause-asks g c = asks_plain c.args.self.now _ c.self.view_is (λ r. TakeWrite c.args.line (eqb r 0)) (λ r. c.requires (eqb r 0)) (λ r. refl)

pub returns : goal.returns
returns g c = made_plain c.args.self.now _ c.self.view_is c.takes_write.new.seat.me (TakeWrite c.args.line c.takes_write.result) c.takes_write.ensures.made refl
