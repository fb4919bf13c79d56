use Rattle.std.proofs.Common.{ap}
use Rattle.solo_blocks.proofs.GoingOn.{work_goes_on}
use Rattle.solo_blocks.proofs.tests.make.Goals as goal

pub returns : goal.returns
returns c =
    let work = c.requires.at_work in
    let old = c.args.lane.now in
    let new = c.new_run.new.lane in
    work_goes_on new.memory old.shape new.shape (ap (λ l. l.shape) c.new_run.ensures.else_same) c.new_run.result (c.new_run.ensures.next work.view work.sees work.may)
