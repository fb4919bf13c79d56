use Rattle.solo_crash.proofs.Begun.{begin_opens}
use Rattle.solo_crash.proofs.calls.a_begin_opens.Goals as goal

pub returns : goal.returns
returns c = begin_opens
