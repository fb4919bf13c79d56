use Rattle.std.proofs.Common.{inr}
use Rattle.std.proofs.lemmas.Result.{on_err_weaker, on_ok_weaker}
use Rattle.solo_action.proofs.HoldingAll.{own_counts}
use Rattle.solo_action.proofs.PublishEnds.{published_all_there, stopped_all_there}
use Rattle.solo_action.proofs.publishing.publish_kinds.Goals as goal

pub returns-else-has_sets_alone-clause-done : goal.returns-else-has_sets_alone-clause-done
returns-else-has_sets_alone-clause-done g c = on_ok_weaker c.publish_blocks.result
    (λ done v h. inr (inr (published_all_there g.M.LaneMem.at c.args.lane.now c.publish_blocks.new.lane c.args.pending.now c.publish_blocks.new.blocks v h (own_counts g.M.LaneMem.at c.args.lane.now c.args.pending.now v h g.met.M.ReservedMem.counts)
    (c.has_sets_alone.ensures.others c.if-has_sets_alone.false) (done v h))))
    c.publish_blocks.ensures.done

pub returns-else-has_sets_alone-clause-stops : goal.returns-else-has_sets_alone-clause-stops
returns-else-has_sets_alone-clause-stops g c = on_err_weaker c.publish_blocks.result
    (λ stops v h. inr (stopped_all_there g.M.LaneMem.at c.args.lane.now c.publish_blocks.new.lane c.args.pending.now c.publish_blocks.new.blocks v h (own_counts g.M.LaneMem.at c.args.lane.now c.args.pending.now v h g.met.M.ReservedMem.counts)
    (c.has_sets_alone.ensures.others c.if-has_sets_alone.false) (stops v h)))
    c.publish_blocks.ensures.stops
