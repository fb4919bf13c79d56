use Rattle.solo_crash.proofs.WriteOn.{write_keeps_open}
use Rattle.solo_crash.proofs.calls.a_write_changes_the_call.Goals as goal

pub returns : goal.returns
returns c = write_keeps_open
