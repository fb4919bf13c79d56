use Rattle.std.proofs.Common.{List, Some, sym, ap, subst}
use Rattle.pm_objects.specs.declared.calls.Operation.TheVariants.{Free}
use Rattle.pm_objects.specs.declared.history.Value.TheVariants.{Refused}
use Rattle.pm_objects.specs.declared.refusal.Refusal.{Refusal}
use Rattle.solo_tx.specs.Calls.{HasLooked}
use Rattle.solo_tx.specs.Ending.{IsEndedBy, IsStoppedIn}
use Rattle.solo_tx.specs.Sequences.{gives_up}
use Rattle.solo_world.specs.declared.lane.Lane.{Lane}
use Rattle.solo_world.specs.declared.lane.Span.{Span}
use Rattle.solo_transaction.proofs.Frees.{not_a_stop, refusal_gives_up}
use Rattle.solo_transaction.specs.Freeing.{IsFreeGivenUp}
use Rattle.solo_transaction.proofs.freeing.free_at_work.Goals as goal

pub tell_freed-requires-clause-can : goal.tell_freed-requires-clause-can
tell_freed-requires-clause-can g c =
    let r = c.requires.at_work in
    let t = c.load_root-root.ensures.looked c.args.blocks.now r.0 r.1.0 r.1.1 in
    (r.0, (t.view, (t.works, c.in-Ok.ensures.ok r.0 t.view t.works t.holds)))

pub refuse-requires : goal.refuse-requires
refuse-requires g c = record {
  at_work = λ stays.
      let r = c.requires.at_work in
      let t = c.load_root-root.ensures.looked c.args.blocks.now r.0 r.1.0 r.1.1 in
      (r.0, (t.view, t.works.work));
}

pub returns-in-Ok-clause-done : goal.returns-in-Ok-clause-done
returns-in-Ok-clause-done g c o v is =
    let t = c.load_root-root.ensures.looked c.args.blocks.now o v is in
    record { loads = t.loads; view = t.view; looks = t.looks; working = t.works.work.working; holds = c.tell_freed.ensures.done o t.view t.works (c.in-Ok.ensures.ok o t.view t.works t.holds) }

pub returns-in-Err-clause-given_up : goal.returns-in-Err-clause-given_up
returns-in-Err-clause-given_up g c stays o v is =
    let t = c.load_root-root.ensures.looked c.args.blocks.now o v is in
    let at = g.M.LaneMem.at in
    let id = c.args.id in
    let new = c.refuse.new.lane in
    let r = c.in-Err.why in
    let why = c.in-Err.ensures.refused o t.view t.works t.holds in
    subst (λ (a : Refusal). HasLooked v (IsFreeGivenUp at new c.args.lane.now.records.items id a)) (sym (c.refuse.ensures.answer stays))
    (record {
      loads = t.loads;
      view = t.view;
      looks = t.looks;
      working = t.works.work.working;
      holds = record {
        why = why;
        ended =
            subst (λ (spans : List Span). IsEndedBy at new t.view (gives_up spans (Free id) (Some (Refused r)) new.last) (Free id) (Some (Refused r))) (ap (λ (lane : Lane g.row.M.Denot). lane.records.items) c.load_root-root.ensures.else_same)
            (c.refuse.ensures.ended stays o t.view t.works.work (refusal_gives_up o at c.load_root-root.new.lane c.args.blocks.now t.view t.works id r why));
      };
    })

pub returns-in-Err-clause-stopped : goal.returns-in-Err-clause-stopped
returns-in-Err-clause-stopped g c stopped o v is =
    let t = c.load_root-root.ensures.looked c.args.blocks.now o v is in
    let at = g.M.LaneMem.at in
    let id = c.args.id in
    let new = c.refuse.new.lane in
    let r = c.in-Err.why in
    let why = c.in-Err.ensures.refused o t.view t.works t.holds in
    record {
      loads = t.loads;
      view = t.view;
      looks = t.looks;
      working = t.works.work.working;
      holds = record {
        refusal = r;
        why = why;
        stopped =
            subst (λ (spans : List Span). IsStoppedIn at new t.view (gives_up spans (Free id) (Some (Refused r)) new.last) (Free id) (Some (Refused r))) (ap (λ (lane : Lane g.row.M.Denot). lane.records.items) c.load_root-root.ensures.else_same)
            (c.refuse.ensures.stops (not_a_stop r c.in-Err.ensures.causes) stopped o t.view t.works.work (refusal_gives_up o at c.load_root-root.new.lane c.args.blocks.now t.view t.works id r why));
      };
    }
