use Rattle.std.proofs.Common.{ap}
use Rattle.solo_blocks.proofs.GoingOn.{work_goes_on}
use Rattle.solo_blocks.proofs.tests.reserve_sized.Goals as goal

pub returns : goal.returns
returns c =
    let work = c.requires.at_work in
    let old = c.args.lane.now in
    let new = c.reserve.new.lane in
    work_goes_on new.memory old.shape new.shape (ap (λ l. l.shape) c.reserve.ensures.else_same) c.reserve.result (c.reserve.ensures.next work.view work.sees work.may)
