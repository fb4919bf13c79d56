use Rattle.std.proofs.Common.{inr, sym, subst}
use Rattle.pm_objects.specs.declared.refusal.Refusal.{Refusal}
use Rattle.solo_transaction.proofs.RefusedAllocs.{came_at_once, not_a_stop, refusal_gives_up}
use Rattle.solo_transaction.specs.Allocating.{IsAllocGivenUp}
use Rattle.solo_transaction.proofs.allocating.alloc_at_work.Goals as goal

pub returns-in-Err-clause-given_up : goal.returns-in-Err-clause-given_up
returns-in-Err-clause-given_up g c stays o v may =
    let at = g.M.LaneMem.at in
    let r = c.in-Err.why in
    let why = c.in-Err.ensures.refused o v may.works in
    subst (λ (a : Refusal). IsAllocGivenUp at c.refuse.new.lane v c.args.lane.now.records.items c.args.size c.args.kind a) (sym (c.refuse.ensures.answer stays))
    (record {
      view = v;
      came = came_at_once v c.args.size r c.in-Err.ensures.causes;
      reason = why;
      ended = c.refuse.ensures.ended stays o v may.works.work (refusal_gives_up o at c.args.lane.now v may.works.work may.works.borne_out c.args.size c.args.kind r why);
    })

pub returns-in-Err-clause-stopped : goal.returns-in-Err-clause-stopped
returns-in-Err-clause-stopped g c stopped o v may =
    let at = g.M.LaneMem.at in
    let r = c.in-Err.why in
    let why = c.in-Err.ensures.refused o v may.works in
    inr (record {
      refusal = r;
      view = v;
      came = came_at_once v c.args.size r c.in-Err.ensures.causes;
      reason = why;
      stopped = c.refuse.ensures.stops (not_a_stop r c.in-Err.ensures.causes) stopped o v may.works.work (refusal_gives_up o at c.args.lane.now v may.works.work may.works.borne_out c.args.size c.args.kind r why);
    })
