use Rattle.solo_crash.proofs.GivenUp.{abort_gives_up}
use Rattle.solo_crash.proofs.calls.an_abort_gives_up.Goals as goal

pub returns : goal.returns
returns c = abort_gives_up
