use Rattle.solo_crash.proofs.SameLocks.{joined_locks, wanted_alike, wanted_in_turn}
use Rattle.solo_crash.proofs.calls.wants_may_change_places.Goals as goal

pub returns-clause-neighbours : goal.returns-clause-neighbours
returns-clause-neighbours c = wanted_in_turn

pub returns-clause-alike : goal.returns-clause-alike
returns-clause-alike c = wanted_alike

pub returns-clause-joined : goal.returns-clause-joined
returns-clause-joined c = joined_locks
