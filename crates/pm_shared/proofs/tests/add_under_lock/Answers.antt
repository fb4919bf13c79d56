use Rattle.pm_shared.proofs.TestLanes.{may_give, gave}
use Rattle.pm_shared.proofs.tests.add_under_lock.Goals as goal

pub give-requires : goal.give-requires
give-requires g c = may_give c.lock.new.lane c.lock.ensures

pub returns : goal.returns
returns g c = gave c.lock.new.lane c.give.new.self c.lock.ensures c.give.ensures
