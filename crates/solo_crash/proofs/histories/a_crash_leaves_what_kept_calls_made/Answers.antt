use Rattle.solo_crash.proofs.HeldHistories.{crash_leaves_replay}
use Rattle.solo_crash.proofs.histories.a_crash_leaves_what_kept_calls_made.Goals as goal

pub returns : goal.returns
returns c = crash_leaves_replay
