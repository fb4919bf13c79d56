use Rattle.std.proofs.Common.{sym, subst}
use Rattle.pm_view.specs.Steps.Step.{Drain}
use Rattle.pm_view.specs.Views.{after}
use Rattle.pm_shared.specs.Tallies.{Tallied, IsTally}
use Rattle.pm_shared.proofs.Seats.{seen_now, asks_counted, made_counted}
use Rattle.pm_shared.proofs.Tallying.{drained_tally}
use Rattle.pm_shared.proofs.lane_mem.SharedLaneLaneMem.drain.Goals as goal

pub drains-requires-clause-asks : goal.drains-requires-clause-asks
drains-requires-clause-asks g c = asks_counted c.args.self.now _ c.self.view_is (λ r. Drain) (λ r. c.requires) c.if-not-goes_on.ensures.more

pub returns : goal.returns
returns g c = made_counted c.args.self.now _ c.self.view_is c.drains.new.seat.me (Drain) c.drains.ensures.made c.drained.new.self c.if-not-goes_on.ensures.more
    (λ v may is knows. subst (λ (t : Tallied). IsTally t (after v (Drain))) (sym c.drained.ensures) (drained_tally c.self.inside.tally v may is))

pub stop-requires : goal.stop-requires
stop-requires g c = let may = c.requires in (may.view, may.seen, c.if-not-goes_on.ensures.stop may.view (seen_now c.args.self.now _ c.self.view_is may.view may.seen).tally)
