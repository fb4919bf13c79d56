use Rattle.std.proofs.Common.{◌≡◌, None, rules}
use Rattle.pm_call.specs.Did.{work_refusal}
use Rattle.pm_tx.proofs.Locking.{did_lock, lock_refused, may_lock}
use Rattle.pm_tx.proofs.locks.lock.Goals as goal

pub returns-in-Some : goal.returns-in-Some
returns-in-Some g c = lock_refused g.M.LaneMem.at c.args.lane.now c.args.want c.in-Some.why c.in-Some.ensures

pub lock_wanted-requires : goal.lock_wanted-requires
lock_wanted-requires g c = may_lock g.M.LaneMem.at c.args.lane.now c.args.want (c.requires (let e : work_refusal c.args.lane.now ≡ None = search rules in e))

pub returns : goal.returns
returns g c = did_lock g.M.LaneMem.at c.args.lane.now c.args.want c.lock_wanted.new.lane c.lock_wanted.result (search rules) c.lock_wanted.ensures
