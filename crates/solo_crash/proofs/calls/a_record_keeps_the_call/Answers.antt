use Rattle.solo_crash.proofs.AddOn.{add_keeps_open}
use Rattle.solo_crash.proofs.calls.a_record_keeps_the_call.Goals as goal

pub returns : goal.returns
returns c = add_keeps_open
