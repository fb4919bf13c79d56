use Rattle.pm_crash.proofs.Replaying as replaying
use Rattle.pm_crash.proofs.histories.a_history_holds_its_replay.Goals as goal

pub returns-clause-replay : goal.returns-clause-replay
returns-clause-replay _ = replaying.holds

pub returns-clause-sets : goal.returns-clause-sets
returns-clause-sets _ = replaying.every_set
