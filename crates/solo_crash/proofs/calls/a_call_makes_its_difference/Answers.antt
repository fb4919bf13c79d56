use Rattle.solo_crash.proofs.Differing.{difference_makes_call}
use Rattle.solo_crash.proofs.calls.a_call_makes_its_difference.Goals as goal

pub returns : goal.returns
returns c = difference_makes_call
