use Rattle.pm_crash.proofs.GoodBits as good
use Rattle.pm_crash.proofs.objects.good_heaps_hold_pools.Goals as goal

pub returns-clause-good : goal.returns-clause-good
returns-clause-good _ = good.good_holds

pub returns-clause-held : goal.returns-clause-held
returns-clause-held _ = good.held_good
