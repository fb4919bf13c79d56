use Rattle.std.proofs.Common.{rules}
use Rattle.pm_lock.proofs.Lanes.{all_tried, tried_more, tried_none, tried_up, try_next, try_room}
use Rattle.pm_lock.proofs.taking.try_all.Goals as goal

pub loop-held-init : goal.loop-held-init
loop-held-init g c = tried_none g.M.LaneMem.at c.args.locks.now c.args.lane.now

pub try_lock-requires-clause-room : goal.try_lock-requires-clause-room
try_lock-requires-clause-room g c = try_room g.M.LaneMem.at c.args.locks.now c.args.lane.now c.loop-held.held-index c.loop-held.lane c.loop-held.invariant c.loop-held-test.true c.requires.stands c.requires.room

pub try_lock-requires-clause-stands : goal.try_lock-requires-clause-stands
try_lock-requires-clause-stands g c = try_next g.M.LaneMem.at c.args.locks.now c.args.lane.now c.loop-held.held-index c.loop-held.lane c.loop-held.invariant c.loop-held-test.true c.requires.stands

pub returns-then-not-try_lock : goal.returns-then-not-try_lock
returns-then-not-try_lock g c = tried_up g.M.LaneMem.at c.args.locks.now c.args.lane.now c.loop-held.held-index c.loop-held.lane c.loop-held.invariant c.loop-held-test.true c.requires.stands c.try_lock.new.lane c.try_lock.result (search rules) c.try_lock.ensures

pub loop-held-preserved : goal.loop-held-preserved
loop-held-preserved g c = tried_more g.M.LaneMem.at c.args.locks.now c.args.lane.now c.loop-held.held-index c.loop-held.lane c.loop-held.invariant c.loop-held-test.true c.requires.stands c.try_lock.new.lane c.try_lock.result (search rules) c.try_lock.ensures

pub returns : goal.returns
returns g c = all_tried g.M.LaneMem.at c.args.locks.now c.args.lane.now c.loop-held.held-index c.loop-held.lane c.loop-held.invariant (search rules)
