use Rattle.solo_crash.proofs.Committed.{commit_is_whole}
use Rattle.solo_crash.proofs.calls.a_commit_is_a_step.Goals as goal

pub returns : goal.returns
returns c = commit_is_whole
