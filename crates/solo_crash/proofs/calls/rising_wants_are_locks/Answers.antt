use Rattle.solo_crash.proofs.RisingWants.{rising_wants}
use Rattle.solo_crash.proofs.calls.rising_wants_are_locks.Goals as goal

pub returns : goal.returns
returns c = rising_wants
