use Rattle.solo_runs.proofs.SearchedPools.{found_none, has_got, in_pool_first, in_pool_more, least_got}
use Rattle.solo_runs.proofs.SearchedRuns.{may_still}
use Rattle.solo_runs.proofs.reserving.reserve_first.Goals as goal

pub loop-chunk-init : goal.loop-chunk-init
loop-chunk-init g c v there may = in_pool_first (g.M.LaneMem.at c.args.mem.now) v c.args.shape.lanes c.args.class there

pub returns-in-Some-clause-got : goal.returns-in-Some-clause-got
returns-in-Some-clause-got g c v there may =
    let so = c.loop-chunk.invariant v there may in
    has_got v c.args.shape may c.args.class (g.M.LaneMem.at c.loop-chunk.mem) c.loop-chunk.chunk so c.loop-chunk-test.true (g.M.LaneMem.at c.reserve_in_chunk.new.mem) c.in-Some.block
    (c.in-Some.ensures.got so.looks.view so.looks.there (may_still v so.looks.view c.args.shape so.looks.looked may))

pub returns-in-Some-clause-least : goal.returns-in-Some-clause-least
returns-in-Some-clause-least g c v there may =
    let so = c.loop-chunk.invariant v there may in
    least_got v c.args.shape may c.args.class (g.M.LaneMem.at c.loop-chunk.mem) c.loop-chunk.chunk so c.loop-chunk-test.true (g.M.LaneMem.at c.reserve_in_chunk.new.mem) c.in-Some.block
    (c.in-Some.ensures.got so.looks.view so.looks.there (may_still v so.looks.view c.args.shape so.looks.looked may))

pub loop-chunk-preserved : goal.loop-chunk-preserved
loop-chunk-preserved g c v there may =
    let so = c.loop-chunk.invariant v there may in
    in_pool_more v c.args.shape may c.args.class (g.M.LaneMem.at c.loop-chunk.mem) c.loop-chunk.chunk so (g.M.LaneMem.at c.reserve_in_chunk.new.mem)
    (c.reserve_in_chunk.ensures.none c.in_default.is so.looks.view so.looks.there (may_still v so.looks.view c.args.shape so.looks.looked may))

pub returns-clause-none : goal.returns-clause-none
returns-clause-none g c none v there may = found_none v c.args.shape may c.args.class (g.M.LaneMem.at c.loop-chunk.mem) c.loop-chunk.chunk (c.loop-chunk.invariant v there may) c.loop-chunk-test.false
