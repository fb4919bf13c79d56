use Rattle.std.proofs.Common.{rules}
use Rattle.pm_lock.proofs.FindingAll.{all_found, found_more, found_next, found_none, found_up}
use Rattle.pm_lock.proofs.finding.find_all.Goals as goal

pub loop-held-init : goal.loop-held-init
loop-held-init g c = found_none g.M.LaneMem.at c.args.shape c.args.locks.now c.args.mem.now

pub find_object-requires : goal.find_object-requires
find_object-requires g c = found_next g.M.LaneMem.at c.args.shape c.args.locks.now c.args.mem.now c.loop-held.held-index c.loop-held.mem c.loop-held.invariant c.loop-held-test.true c.requires

pub returns-then-not-find_object : goal.returns-then-not-find_object
returns-then-not-find_object g c = found_up g.M.LaneMem.at c.args.shape c.args.locks.now c.args.mem.now c.loop-held.held-index c.loop-held.mem c.loop-held.invariant c.loop-held-test.true c.find_object.new.mem c.find_object.result (search rules) c.find_object.ensures

pub loop-held-preserved : goal.loop-held-preserved
loop-held-preserved g c = found_more g.M.LaneMem.at c.args.shape c.args.locks.now c.args.mem.now c.loop-held.held-index c.loop-held.mem c.loop-held.invariant c.loop-held-test.true c.find_object.new.mem c.find_object.result (search rules) c.find_object.ensures

pub returns : goal.returns
returns g c = all_found g.M.LaneMem.at c.args.shape c.args.locks.now c.args.mem.now c.loop-held.held-index c.loop-held.mem c.loop-held.invariant (search rules)
