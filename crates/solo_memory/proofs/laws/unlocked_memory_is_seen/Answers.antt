use Rattle.solo_memory.proofs.Unlocked.{sees_unlocked, sees_opened}
use Rattle.solo_memory.proofs.laws.unlocked_memory_is_seen.Goals as goal

pub returns-clause-unlocked : goal.returns-clause-unlocked
returns-clause-unlocked c = sees_unlocked

pub returns-clause-opened : goal.returns-clause-opened
returns-clause-opened c = sees_opened
