use Rattle.solo_blocks.proofs.StillMay.{goes_on, may_still}
use Rattle.solo_blocks.proofs.reserving.reserve_whole.Goals as goal

pub returns-in_err-reserve_chunks-clause-next : goal.returns-in_err-reserve_chunks-clause-next
returns-in_err-reserve_chunks-clause-next g c v there may =
    goes_on v c.args.lane.now.shape may (g.M.LaneMem.at c.reserve_chunks.new.lane.memory) c.args.chunks c.in_err-reserve_chunks.field-0.0 c.from_residual.result c.from_residual.ensures.1
    (c.in_err-reserve_chunks.ensures.ends v there may.search) (c.in_err-reserve_chunks.ensures.least v there may.search may.alone)

pub returns-clause-next : goal.returns-clause-next
returns-clause-next g c v there may =
    let searched = (c.in_ok-reserve_chunks.ensures.ends v there may.search).searched in
    (searched.view, (searched.there, may_still v c.args.lane.now.shape may (g.M.LaneMem.at c.reserve_chunks.new.lane.memory) _ _ searched))
