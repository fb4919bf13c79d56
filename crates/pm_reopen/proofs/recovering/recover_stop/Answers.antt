use Rattle.std.proofs.Common.{◌<◌, ◌^◌, rules}
use Rattle.pm_reopen.proofs.Stopping.{left_ends, left_is}
use Rattle.pm_reopen.proofs.Unstopped.{left_again, left_long, whole_recovered}
use Rattle.pm_reopen.proofs.recovering.recover_stop.Goals as goal

pub returns-clause-ends : goal.returns-clause-ends
returns-clause-ends c = λ pool is.
    let fits : c.args.stop < 2 ^ 64 = search rules in
    left_ends c.args.image.now pool.lanes c.args.stop c.args.keep fits c.in_ok-run.field-0 c.run.new.image (c.in_ok-run.ensures.leaves pool is)

pub returns-clause-left : goal.returns-clause-left
returns-clause-left c = λ pool is.
    let fits : c.args.stop < 2 ^ 64 = search rules in
    left_is c.args.image.now pool.lanes c.args.stop c.args.keep fits c.in_ok-run.field-0 c.run.new.image (c.in_ok-run.ensures.leaves pool is)

pub returns-clause-whole : goal.returns-clause-whole
returns-clause-whole c = λ pool calls is whole.
    whole_recovered c.args.image.now pool c.args.stop c.args.keep calls c.in_ok-run.field-0 c.run.new.image c.in_ok-run.ensures.words is (returns-clause-ends c pool is) whole (returns-clause-left c pool is)

pub returns-clause-again : goal.returns-clause-again
returns-clause-again c = λ pool is whole.
    left_again c.args.image.now pool c.args.stop c.args.keep c.run.new.image (record { words = c.in_ok-run.ensures.words; means = is; whole = whole }) (returns-clause-left c pool is)

pub returns-clause-as_long : goal.returns-clause-as_long
returns-clause-as_long c = let means = c.in_ok-run.ensures.done in left_long c.args.image.now means.0.lanes c.args.stop c.args.keep c.run.new.image (returns-clause-left c means.0 means.1)
