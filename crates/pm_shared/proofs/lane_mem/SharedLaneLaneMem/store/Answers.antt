use Rattle.std.proofs.Common.{sym, subst, arith}
use Rattle.pm_view.specs.Steps.Step.{Store}
use Rattle.pm_view.specs.Views.{after}
use Rattle.pm_shared.specs.Tallies.{Tallied, IsTally}
use Rattle.pm_shared.proofs.Seats.{seen_now, asks_counted, room_for, made_counted}
use Rattle.pm_shared.proofs.Tallying.{stored_tally}
use Rattle.pm_shared.proofs.lane_mem.SharedLaneLaneMem.store.Goals as goal

pub stores-found-requires-clause-asks : goal.stores-found-requires-clause-asks
stores-found-requires-clause-asks g c = asks_counted c.args.self.now _ c.self.view_is (λ r. Store c.args.word c.args.value) (λ r. c.requires) c.if-not-goes_on.ensures.more

pub stored-requires : goal.stored-requires
stored-requires g c = let may = c.requires in room_for c.args.self.now _ c.self.view_is may.view may.seen may.allowed.room

pub returns : goal.returns
returns g c = made_counted c.args.self.now _ c.self.view_is c.stores-found.new.seat.me (Store c.args.word c.args.value) c.stores-found.ensures.made c.stored.new.self c.if-not-goes_on.ensures.more
    (λ v may is knows. subst (λ (t : Tallied). IsTally t (after v (Store c.args.word c.args.value))) (sym c.stored.ensures) (stored_tally c.self.inside.tally v may is c.args.word c.args.value c.stores-found.result (omega arith) c.stores-found.type_inv (c.stores-found.ensures.found v knows)))

pub stop-requires : goal.stop-requires
stop-requires g c = let may = c.requires in (may.view, may.seen, c.if-not-goes_on.ensures.stop may.view (seen_now c.args.self.now _ c.self.view_is may.view may.seen).tally)
