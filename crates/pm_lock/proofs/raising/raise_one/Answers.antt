use Rattle.std.proofs.Common.{true, false}
use Rattle.pm_lock.specs.Wants.{wants_to_write}
use Rattle.pm_lock.proofs.RaisedLocks.{left_here, raised_here, raised_so}
use Rattle.pm_lock.proofs.raising.raise_one.Goals as goal

pub raise-requires-clause-stands : goal.raise-requires-clause-stands
raise-requires-clause-stands g c =
    let s = c.requires.stands in
    (s.0, s.1, s.2 (raised_so g.M.LaneMem.at (wants_to_write c.args.lane.now.shape c.args.lane.now.pool c.args.wants.now) c.args.lane.now c.args.i c.deref.result.now c.is_raised.result true c.deref.ensures.0 c.is_raised.ensures c.if-is_raised.true))

pub returns-then-is_raised : goal.returns-then-is_raised
returns-then-is_raised g c = raised_here g.M.LaneMem.at (wants_to_write c.args.lane.now.shape c.args.lane.now.pool c.args.wants.now) c.args.lane.now c.args.i c.raise.new.lane c.raise.result
    (raised_so g.M.LaneMem.at (wants_to_write c.args.lane.now.shape c.args.lane.now.pool c.args.wants.now) c.args.lane.now c.args.i c.deref.result.now c.is_raised.result true c.deref.ensures.0 c.is_raised.ensures c.if-is_raised.true) c.raise.ensures

pub returns-else-is_raised : goal.returns-else-is_raised
returns-else-is_raised g c = left_here g.M.LaneMem.at (wants_to_write c.args.lane.now.shape c.args.lane.now.pool c.args.wants.now) c.args.lane.now c.args.i
    (raised_so g.M.LaneMem.at (wants_to_write c.args.lane.now.shape c.args.lane.now.pool c.args.wants.now) c.args.lane.now c.args.i c.deref.result.now c.is_raised.result false c.deref.ensures.0 c.is_raised.ensures c.if-is_raised.false)
