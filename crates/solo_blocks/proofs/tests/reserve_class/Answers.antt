use Rattle.std.proofs.Common.{ap}
use Rattle.solo_blocks.proofs.GoingOn.{work_goes_on}
use Rattle.solo_blocks.proofs.tests.reserve_class.Goals as goal

pub returns : goal.returns
returns c =
    let work = c.requires.at_work in
    let old = c.args.lane.now in
    let new = c.reserve_small.new.lane in
    work_goes_on new.memory old.shape new.shape (ap (λ l. l.shape) c.reserve_small.ensures.else_same) c.reserve_small.result (c.reserve_small.ensures.next work.view work.sees work.may)
