use Rattle.solo_world.proofs.CrashRuns.{crash_law}
use Rattle.solo_world.proofs.laws.a_crash_keeps_whole_calls.Goals as goal

pub returns : goal.returns
returns c = crash_law
