use Rattle.pm_crash.proofs.OwnBlocks as own
use Rattle.pm_crash.proofs.objects.own_blocks_are_free.Goals as goal

pub returns : goal.returns
returns _ = own.own_free
