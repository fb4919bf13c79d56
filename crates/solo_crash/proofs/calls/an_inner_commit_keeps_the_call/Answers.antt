use Rattle.solo_crash.proofs.Levels.{inner_commit_keeps_open}
use Rattle.solo_crash.proofs.calls.an_inner_commit_keeps_the_call.Goals as goal

pub returns : goal.returns
returns c = inner_commit_keeps_open
