use Rattle.solo_crash.proofs.Levels.{further_begin_opens}
use Rattle.solo_crash.proofs.calls.a_further_begin_opens.Goals as goal

pub returns : goal.returns
returns c = further_begin_opens
