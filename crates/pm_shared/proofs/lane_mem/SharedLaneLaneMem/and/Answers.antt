use Rattle.std.proofs.Common.{sym, subst}
use Rattle.pm_view.specs.Steps.Step.{And}
use Rattle.pm_view.specs.Views.{after}
use Rattle.pm_shared.specs.Tallies.{Tallied, IsTally}
use Rattle.pm_shared.proofs.Seats.{seen_now, asks_counted, room_for, made_counted}
use Rattle.pm_shared.proofs.Tallying.{and_tally}
use Rattle.pm_shared.proofs.lane_mem.SharedLaneLaneMem.and.Goals as goal

pub ands-found-requires-clause-asks : goal.ands-found-requires-clause-asks
ands-found-requires-clause-asks g c = asks_counted c.args.self.now _ c.self.view_is (λ r. And c.args.word c.args.bits r) c.requires c.if-not-goes_on.ensures.more

pub and_made-requires : goal.and_made-requires
and_made-requires g c = let may = (c.requires 0) in room_for c.args.self.now _ c.self.view_is may.view may.seen may.allowed.room

pub returns : goal.returns
returns g c = made_counted c.args.self.now _ c.self.view_is c.ands-found.new.seat.me (And c.args.word c.args.bits c.ands-found.result) c.ands-found.ensures.made c.and_made.new.self c.if-not-goes_on.ensures.more
    (λ v may is knows. subst (λ (t : Tallied). IsTally t (after v (And c.args.word c.args.bits c.ands-found.result))) (sym c.and_made.ensures) (and_tally c.self.inside.tally v may is c.args.word c.args.bits c.ands-found.result))

pub stop-requires : goal.stop-requires
stop-requires g c = let may = (c.requires 0) in (may.view, may.seen, c.if-not-goes_on.ensures.stop may.view (seen_now c.args.self.now _ c.self.view_is may.view may.seen).tally)
