use Rattle.std.proofs.Common.{ap}
use Rattle.solo_alloc.proofs.GoingOn.{work_goes_on}
use Rattle.solo_alloc.proofs.tests.make.Goals as goal

pub returns : goal.returns
returns c =
    let work = c.requires.at_work in
    let old = c.args.lane.now in
    let new = c.new_object.new.lane in
    work_goes_on new.memory old.shape new.shape (ap (λ l. l.shape) c.new_object.ensures.else_same) c.new_object.result (c.new_object.ensures.next work.view work.sees work.can)
