use Rattle.solo_reclaim.proofs.Pools.{in_pool_all, in_pool_first, in_pool_more, may_go_on}
use Rattle.solo_reclaim.proofs.reclaiming.reclaim.Goals as goal

pub loop-zone-init : goal.loop-zone-init
loop-zone-init g c v there may keeps = in_pool_first c.args.kept.now (g.M.LaneMem.at c.args.mem.now) v c.args.shape may keeps there

pub reclaim_zone-requires-clause-may : goal.reclaim_zone-requires-clause-may
reclaim_zone-requires-clause-may g c =
    let r = c.requires in
    let so = c.loop-zone.invariant r.0 r.1.0 r.1.1 r.1.2 in
    (so.view, (so.there, may_go_on c.args.kept.now (g.M.LaneMem.at c.loop-zone.mem) r.0 c.args.shape r.1.1 c.loop-zone.zone so))

pub loop-zone-preserved : goal.loop-zone-preserved
loop-zone-preserved g c v there may keeps =
    let at = g.M.LaneMem.at c.loop-zone.mem in
    let kept = c.args.kept.now in
    let so = c.loop-zone.invariant v there may keeps in
    in_pool_more kept at v c.args.shape may c.loop-zone.zone so (g.M.LaneMem.at c.reclaim_zone.new.mem)
    (c.reclaim_zone.ensures so.view so.there (may_go_on kept at v c.args.shape may c.loop-zone.zone so))

pub returns : goal.returns
returns g c v there may keeps = in_pool_all c.args.kept.now (g.M.LaneMem.at c.loop-zone.mem) v c.args.shape may c.loop-zone.zone (c.loop-zone.invariant v there may keeps) c.loop-zone-test.false
