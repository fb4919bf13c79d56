use Rattle.solo_crash.proofs.ReadOn.{read_keeps_open}
use Rattle.solo_crash.proofs.calls.a_read_tells_the_bytes.Goals as goal

pub returns : goal.returns
returns c = read_keeps_open
