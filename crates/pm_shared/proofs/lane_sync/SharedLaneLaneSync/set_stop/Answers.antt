use Rattle.std.proofs.Common.{refl}
use Rattle.pm_view.specs.Steps.Step.{SetStop}
use Rattle.pm_shared.proofs.Seats.{asks_plain, made_plain}
use Rattle.pm_shared.proofs.lane_sync.SharedLaneLaneSync.set_stop.Goals as goal

pub sets_stop-requires-clause-asks : goal.sets_stop-requires-clause-asks
sets_stop-requires-clause-asks g c = asks_plain c.args.self.now _ c.self.view_is (λ r. SetStop) (λ r. c.requires) (λ r. refl)

pub returns : goal.returns
returns g c = made_plain c.args.self.now _ c.self.view_is c.sets_stop.new.seat.me (SetStop) c.sets_stop.ensures.made refl
