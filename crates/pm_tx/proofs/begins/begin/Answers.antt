use Rattle.std.proofs.Common.{◌≡◌, None, rules}
use Rattle.pm_call.specs.Did.{work_refusal}
use Rattle.pm_tx.proofs.LevelBegins.{begin_refused, begun_inside, begun_outside, is_between}
use Rattle.pm_tx.proofs.begins.begin.Goals as goal

pub begin_inner-requires : goal.begin_inner-requires
begin_inner-requires g c = c.requires.work (let e : work_refusal c.args.lane.now ≡ None = search rules in e)

pub begin_outermost-requires : goal.begin_outermost-requires
begin_outermost-requires g c = is_between g.M.LaneMem.at c.args.lane.now c.args.wants.now (search rules) c.requires.idle

pub returns-in-None : goal.returns-in-None
returns-in-None g c = begun_inside g.M.LaneMem.at c.args.lane.now c.args.wants.now c.begin_inner.new.lane c.begin_inner.result c.in-None.ensures c.begin_inner.ensures

pub returns-in-Some-NoTx : goal.returns-in-Some-NoTx
returns-in-Some-NoTx g c = begun_outside g.M.LaneMem.at c.args.lane.now c.args.wants.now c.begin_outermost.new.lane c.begin_outermost.result (search rules) c.begin_outermost.ensures

pub returns-in-Some : goal.returns-in-Some
returns-in-Some g c = begin_refused g.M.LaneMem.at c.args.lane.now c.args.wants.now c.in-Some.why (search rules) c.in-Some.ensures
