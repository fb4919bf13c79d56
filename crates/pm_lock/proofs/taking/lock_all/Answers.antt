use Rattle.std.proofs.Common.{rules}
use Rattle.pm_lock.proofs.Lanes.{all_locked, lock_next, lock_room, locked_more, locked_none, locked_up}
use Rattle.pm_lock.proofs.taking.lock_all.Goals as goal

pub loop-held-init : goal.loop-held-init
loop-held-init g c = locked_none g.M.LaneMem.at c.args.locks.now c.args.lane.now

pub lock-requires-clause-room : goal.lock-requires-clause-room
lock-requires-clause-room g c = lock_room g.M.LaneMem.at c.args.locks.now c.args.lane.now c.loop-held.held-index c.loop-held.lane c.loop-held.invariant c.loop-held-test.true c.requires.stands c.requires.room

pub lock-requires-clause-stands : goal.lock-requires-clause-stands
lock-requires-clause-stands g c = lock_next g.M.LaneMem.at c.args.locks.now c.args.lane.now c.loop-held.held-index c.loop-held.lane c.loop-held.invariant c.loop-held-test.true c.requires.stands

pub returns-in_err-lock : goal.returns-in_err-lock
returns-in_err-lock g c = locked_up g.M.LaneMem.at c.args.locks.now c.args.lane.now c.loop-held.held-index c.loop-held.lane c.loop-held.invariant c.loop-held-test.true c.requires.stands c.lock.new.lane c.in_err-lock.field-0.0 c.from_residual.result c.from_residual.ensures.0 c.in_err-lock.ensures

pub loop-held-preserved : goal.loop-held-preserved
loop-held-preserved g c = locked_more g.M.LaneMem.at c.args.locks.now c.args.lane.now c.loop-held.held-index c.loop-held.lane c.loop-held.invariant c.loop-held-test.true c.requires.stands c.lock.new.lane c.in_ok-lock.ensures

pub returns : goal.returns
returns g c = all_locked g.M.LaneMem.at c.args.locks.now c.args.lane.now c.loop-held.held-index c.loop-held.lane c.loop-held.invariant (search rules)
