use Rattle.std.proofs.Common.{refl, subst}
use Rattle.pm_view.specs.Counts.{IsAtStop}
use Rattle.pm_view.specs.Steps.Step.{SetStop}
use Rattle.pm_shared.proofs.Seats.{same_view, asks_plain, made_plain}
use Rattle.pm_shared.proofs.lane.SharedLane.stop.Goals as goal

pub sets_stop-requires-clause-asks : goal.sets_stop-requires-clause-asks
sets_stop-requires-clause-asks g c = asks_plain c.args.self.now _ c.self.view_is (λ r. SetStop) (λ r. record { view = c.requires.0; seen = c.requires.1; allowed = c.requires.2 }) (λ r. refl)

pub returns : goal.returns
returns g c v seen = (
  (made_plain c.args.self.now _ c.self.view_is c.sets_stop.new.seat.me SetStop c.sets_stop.ensures.made refl v seen tt).0,
  subst IsAtStop (same_view c.args.self.now _ c.self.view_is c.requires.0 v c.requires.1 seen) c.requires.2,
)
