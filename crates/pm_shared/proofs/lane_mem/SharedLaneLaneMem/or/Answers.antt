use Rattle.std.proofs.Common.{sym, subst, arith}
use Rattle.pm_view.specs.Steps.Step.{Or}
use Rattle.pm_view.specs.Views.{after}
use Rattle.pm_shared.specs.Tallies.{Tallied, IsTally}
use Rattle.pm_shared.proofs.Seats.{seen_now, asks_counted, room_for, made_counted}
use Rattle.pm_shared.proofs.Tallying.{or_tally}
use Rattle.pm_shared.proofs.lane_mem.SharedLaneLaneMem.or.Goals as goal

pub ors-found-requires-clause-asks : goal.ors-found-requires-clause-asks
ors-found-requires-clause-asks g c = asks_counted c.args.self.now _ c.self.view_is (λ r. Or c.args.word c.args.bits r) c.requires c.if-not-goes_on.ensures.more

pub or_made-requires : goal.or_made-requires
or_made-requires g c = let may = (c.requires 0) in room_for c.args.self.now _ c.self.view_is may.view may.seen may.allowed.room

pub returns : goal.returns
returns g c = made_counted c.args.self.now _ c.self.view_is c.ors-found.new.seat.me (Or c.args.word c.args.bits c.ors-found.result) c.ors-found.ensures.made c.or_made.new.self c.if-not-goes_on.ensures.more
    (λ v may is knows. subst (λ (t : Tallied). IsTally t (after v (Or c.args.word c.args.bits c.ors-found.result))) (sym c.or_made.ensures) (or_tally c.self.inside.tally v may is c.args.word c.args.bits c.ors-found.result (omega arith)))

pub stop-requires : goal.stop-requires
stop-requires g c = let may = (c.requires 0) in (may.view, may.seen, c.if-not-goes_on.ensures.stop may.view (seen_now c.args.self.now _ c.self.view_is may.view may.seen).tally)
