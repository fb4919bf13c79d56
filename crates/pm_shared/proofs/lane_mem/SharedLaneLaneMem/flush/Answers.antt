use Rattle.std.proofs.Common.{sym, subst}
use Rattle.pm_view.specs.Steps.Step.{Flush}
use Rattle.pm_view.specs.Views.{after}
use Rattle.pm_shared.specs.Tallies.{Tallied, IsTally}
use Rattle.pm_shared.proofs.Seats.{seen_now, asks_counted, made_counted}
use Rattle.pm_shared.proofs.Tallying.{flushed_tally}
use Rattle.pm_shared.proofs.lane_mem.SharedLaneLaneMem.flush.Goals as goal

pub flushes-requires-clause-asks : goal.flushes-requires-clause-asks
flushes-requires-clause-asks g c = asks_counted c.args.self.now _ c.self.view_is (λ r. Flush c.args.line) (λ r. c.requires) c.if-not-goes_on.ensures.more

pub returns : goal.returns
returns g c = made_counted c.args.self.now _ c.self.view_is c.flushes.new.seat.me (Flush c.args.line) c.flushes.ensures.made c.flushed.new.self c.if-not-goes_on.ensures.more
    (λ v may is knows. subst (λ (t : Tallied). IsTally t (after v (Flush c.args.line))) (sym c.flushed.ensures) (flushed_tally c.self.inside.tally v may is c.args.line))

pub stop-requires : goal.stop-requires
stop-requires g c = let may = c.requires in (may.view, may.seen, c.if-not-goes_on.ensures.stop may.view (seen_now c.args.self.now _ c.self.view_is may.view may.seen).tally)
