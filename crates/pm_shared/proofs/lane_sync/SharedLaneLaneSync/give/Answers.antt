use Rattle.std.proofs.Common.{refl}
use Rattle.pm_view.specs.Steps.Step.{Give}
use Rattle.pm_shared.proofs.Seats.{asks_plain, made_plain}
use Rattle.pm_shared.proofs.lane_sync.SharedLaneLaneSync.give.Goals as goal

pub gives-requires-clause-asks : goal.gives-requires-clause-asks
gives-requires-clause-asks g c = asks_plain c.args.self.now _ c.self.view_is (λ r. Give c.args.line) (λ r. c.requires) (λ r. refl)

pub returns : goal.returns
returns g c = made_plain c.args.self.now _ c.self.view_is c.gives.new.seat.me (Give c.args.line) c.gives.ensures.made refl
