use Rattle.std.proofs.Common.{ap}
use Rattle.solo_world.specs.declared.lane.Lane.{Lane}
use Rattle.solo_transaction.proofs.Publishes.{pending_there, publish_given_up, publish_is_no_stop, publish_stopped}
use Rattle.solo_transaction.specs.Publishing.{CanPublish}
use Rattle.solo_transaction.proofs.publishing.publish_at_work.Goals as goal

pub move_all-requires : goal.move_all-requires
move_all-requires g c =
    let r = c.requires.at_work in
    let t = c.in-Ok.ensures.ok r.0 r.1.0 r.1.1.0 r.1.1.1 in
    record { may = (r.0, (t.view, (t.works, pending_there r.0 g.M.LaneMem.at c.check_publish.new.lane c.args.blocks.now r.1.0 c.args.pending.now r.1.1.1 CanPublish t, t.holds))) }

pub returns-in-Ok-clause-done : goal.returns-in-Ok-clause-done
returns-in-Ok-clause-done g c o v all pending =
    let t = c.in-Ok.ensures.ok o v all pending in
    record {
      loads = t.loads;
      view = t.view;
      looks = t.looks;
      working = t.works.work.working;
      holds = c.move_all.ensures.done o t.view t.works (pending_there o g.M.LaneMem.at c.check_publish.new.lane c.args.blocks.now v c.args.pending.now pending CanPublish t) t.holds;
    }

pub returns-in-Err-clause-given_up : goal.returns-in-Err-clause-given_up
returns-in-Err-clause-given_up g c stays o v all pending =
    publish_given_up o g.M.LaneMem.at c.args.lane.now c.check_publish.new.lane c.refuse.new.lane c.args.blocks.now v c.in-Err.why c.refuse.result (c.in-Err.ensures.refused o v all pending)
    (ap (λ (lane : Lane g.row.M.Denot). lane.records.items) c.check_publish.ensures.else_same) (c.refuse.ensures.answer stays) (c.refuse.ensures.ended stays)

pub returns-in-Err-clause-stopped : goal.returns-in-Err-clause-stopped
returns-in-Err-clause-stopped g c stopped o v all pending =
    publish_stopped o g.M.LaneMem.at c.args.lane.now c.check_publish.new.lane c.refuse.new.lane c.args.blocks.now v c.in-Err.why c.refuse.result (c.in-Err.ensures.refused o v all pending)
    (ap (λ (lane : Lane g.row.M.Denot). lane.records.items) c.check_publish.ensures.else_same) (c.refuse.ensures.stops (publish_is_no_stop c.in-Err.why c.in-Err.ensures.causes) stopped)
