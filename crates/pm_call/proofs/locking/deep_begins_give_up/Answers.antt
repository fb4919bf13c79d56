use Rattle.pm_call.proofs.LockRefusals as refusals
use Rattle.pm_call.proofs.locking.deep_begins_give_up.Goals as goal

pub returns : goal.returns
returns c = refusals.deep_begins_give_up
