use Rattle.std.proofs.Common.{List, ap, arith, length, refl, subst, sym}
use Rattle.solo_pending.specs.Pending.{sets_of}
use Rattle.pm_record.specs.declared.redo.Redo.{Redo}
use Rattle.solo_tx.proofs.Committed.{on_err}
use Rattle.solo_tx.specs.Publishing.{MayPublish}
use Rattle.solo_view.specs.Views.{after_all}
use Rattle.solo_world.specs.Sequences.{settles}
use Rattle.solo_world.specs.declared.lane.Lane.{Lane}
use Rattle.solo_action.proofs.PublishedHeld.{listed_so, may_publish, own_settled, pending_few, pending_some, places, published, published_after, published_first, stopped_before, stopped_behind_settling, stopped_publishing, whole_logged}
use Rattle.solo_action.proofs.publishing.publish_held.Goals as goal

pub settle_begun-requires : goal.settle_begun-requires
settle_begun-requires g c = let r = c.requires.may in record { begun = (r.0, r.1.begun) }

pub list_entries-requires-clause-few : goal.list_entries-requires-clause-few
list_entries-requires-clause-few g c =
    let r = c.requires.may in
    let few = c.requires.few in
    let none = ap length (c.in_ok-settle_begun.ensures.begun r.0 r.1.begun).unlisted in
    omega (arith, few, none)

pub list_entries-requires-clause-places : goal.list_entries-requires-clause-places
list_entries-requires-clause-places g c = let r = c.requires.may in places g.M.LaneMem.at c.args.lane.now c.args.actions.now r.0 r.1

pub publish_log-requires : goal.publish_log-requires
publish_log-requires g c =
    let r = c.requires.may in
    let m = after_all r.0 (settles r.0) in
    let acts = c.args.actions.now in
    record {
      may = (
        m,
        (
          subst (λ memory. g.M.LaneMem.at memory m) (sym (ap (λ (l : Lane g.row.M.Denot). l.memory) c.list_entries.ensures.else_same)) (c.in_ok-settle_begun.ensures.begun r.0 r.1.begun).seen.memory,
          subst (λ (es : List Redo). MayPublish m es)
              (sym (listed_so g.M.LaneMem.at c.settle_begun.new.lane acts m (c.in_ok-settle_begun.ensures.begun r.0 r.1.begun) c.list_entries.new.lane.entries.items c.list_entries.ensures.listed))
              (may_publish g.M.LaneMem.at c.args.lane.now (sets_of acts) r.0 r.1 (pending_some acts c.requires.some) (pending_few acts c.requires.few)),
        ),
      );
    }

pub returns-in-Ok-clause-behind : goal.returns-in-Ok-clause-behind
returns-in-Ok-clause-behind g c =
    let r = c.requires.may in
    let acts = c.args.actions.now in
    let begun = c.in_ok-settle_begun.ensures.begun r.0 r.1.begun in (
      _,
      published_after g.M.LaneMem.at c.settle_begun.new.lane _ begun _ (may_publish g.M.LaneMem.at c.args.lane.now (sets_of acts) r.0 r.1 (pending_some acts c.requires.some) (pending_few acts c.requires.few))
          c.list_entries.new.lane c.list_entries.ensures.else_same (listed_so g.M.LaneMem.at c.settle_begun.new.lane acts _ begun c.list_entries.new.lane.entries.items c.list_entries.ensures.listed) c.publish_log.new.lane
          c.in-Ok.ensures.ran c.in-Ok.ensures.none c.in-Ok.ensures.unlisted c.in-Ok.ensures.drawn c.in-Ok.ensures.else_same,
    )

pub returns-in-Ok-clause-ended : goal.returns-in-Ok-clause-ended
returns-in-Ok-clause-ended g c v may same =
    let acts = c.args.actions.now in
    let begun = c.in_ok-settle_begun.ensures.begun v may.begun in
    let some = pending_some acts c.requires.some in
    let few = pending_few acts c.requires.few in
    let mays = may_publish g.M.LaneMem.at c.args.lane.now (sets_of acts) v may some few in
    let are = listed_so g.M.LaneMem.at c.settle_begun.new.lane acts _ begun c.list_entries.new.lane.entries.items c.list_entries.ensures.listed in
    published_first g.M.LaneMem.at c.args.lane.now (sets_of acts) v may some few same c.publish_log.new.lane
    (published g.M.LaneMem.at c.settle_begun.new.lane _ begun _ mays c.list_entries.new.lane c.list_entries.ensures.else_same are c.publish_log.new.lane (own_settled g.M.LaneMem.at c.args.lane.now (sets_of acts) v may)
    (whole_logged g.M.LaneMem.at c.args.lane.now (sets_of acts) v may same)
    (published_after g.M.LaneMem.at c.settle_begun.new.lane _ begun _ mays c.list_entries.new.lane c.list_entries.ensures.else_same are c.publish_log.new.lane
    c.in-Ok.ensures.ran c.in-Ok.ensures.none c.in-Ok.ensures.unlisted c.in-Ok.ensures.drawn c.in-Ok.ensures.else_same))

pub returns-in-Err-clause-stops : goal.returns-in-Err-clause-stops
returns-in-Err-clause-stops g c v may same =
    let acts = c.args.actions.now in
    let begun = c.in_ok-settle_begun.ensures.begun v may.begun in
    let some = pending_some acts c.requires.some in
    let few = pending_few acts c.requires.few in
    let mays = may_publish g.M.LaneMem.at c.args.lane.now (sets_of acts) v may some few in
    let are = listed_so g.M.LaneMem.at c.settle_begun.new.lane acts _ begun c.list_entries.new.lane.entries.items c.list_entries.ensures.listed in
    stopped_behind_settling g.M.LaneMem.at c.args.lane.now (sets_of acts) v may some few same _
    (stopped_publishing g.M.LaneMem.at c.settle_begun.new.lane _ begun _ mays c.list_entries.new.lane c.list_entries.ensures.else_same are _ (own_settled g.M.LaneMem.at c.args.lane.now (sets_of acts) v may)
    (whole_logged g.M.LaneMem.at c.args.lane.now (sets_of acts) v may same) c.in-Err.ensures.stops refl)

pub returns-in_err-settle_begun-clause-stops : goal.returns-in_err-settle_begun-clause-stops
returns-in_err-settle_begun-clause-stops g c =
    let acts = c.args.actions.now in
    on_err _ c.from_residual.result
    (λ v may same.
    stopped_before g.M.LaneMem.at c.args.lane.now (sets_of acts) v may (pending_some acts c.requires.some) (pending_few acts c.requires.few) same c.settle_begun.new.lane (c.in_err-settle_begun.ensures.stops v may.begun)
    c.in_err-settle_begun.ensures.stopped_lane)
