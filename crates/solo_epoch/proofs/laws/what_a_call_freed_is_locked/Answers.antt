use Rattle.solo_epoch.proofs.FreedLocks.{freed_is_locked, locked_still, none_freed}
use Rattle.solo_epoch.proofs.laws.what_a_call_freed_is_locked.Goals as goal

pub returns : goal.returns
returns c = record { none = none_freed; frees = freed_is_locked; stays = locked_still }
