use Rattle.std.proofs.Common.{rules}
use Rattle.pm_call.proofs.LockOps.{began_deep, began_inner, may_begin, may_refuse_deep}
use Rattle.pm_call.proofs.lock_ops.begin_inner.Goals as goal

pub refuse-requires : goal.refuse-requires
refuse-requires g c = λ goes. may_refuse_deep g.M.LaneMem.at c.args.lane.now c.args.wants.now c.requires (search rules)

pub returns-then-lane-ge-MAX_LEVELS : goal.returns-then-lane-ge-MAX_LEVELS
returns-then-lane-ge-MAX_LEVELS g c = began_deep g.M.LaneMem.at c.args.lane.now c.args.wants.now c.refuse.new.lane c.refuse.result (search rules) c.refuse.ensures

pub lock_wanted-requires : goal.lock_wanted-requires
lock_wanted-requires g c = may_begin g.M.LaneMem.at c.args.lane.now c.args.wants.now c.requires (search rules)

pub returns : goal.returns
returns g c = began_inner g.M.LaneMem.at c.args.lane.now c.args.wants.now c.lock_wanted.new.lane c.lock_wanted.result (search rules) c.lock_wanted.ensures
