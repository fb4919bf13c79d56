use Rattle.solo_crash.proofs.GivenUp.{refusal_gives_up}
use Rattle.solo_crash.proofs.calls.a_refusal_gives_up.Goals as goal

pub returns : goal.returns
returns c = refusal_gives_up
