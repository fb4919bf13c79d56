use Rattle.std.proofs.Common.{refl}
use Rattle.pm_view.specs.Steps.Step.{Draw}
use Rattle.pm_shared.proofs.Seats.{asks_plain, made_plain}
use Rattle.pm_shared.proofs.lane_sync.SharedLaneLaneSync.draw.Goals as goal

pub draws-requires-clause-asks : goal.draws-requires-clause-asks
draws-requires-clause-asks g c = asks_plain c.args.self.now _ c.self.view_is (λ r. Draw r) (λ r. c.requires (r)) (λ r. refl)

pub returns : goal.returns
returns g c = made_plain c.args.self.now _ c.self.view_is c.draws.new.seat.me (Draw c.draws.result) c.draws.ensures.made refl
