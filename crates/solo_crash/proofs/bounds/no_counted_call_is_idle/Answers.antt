use Rattle.solo_crash.proofs.BusyCalls.{calls_are, drains_few, flushes_few}
use Rattle.solo_crash.proofs.bounds.no_counted_call_is_idle.Goals as goal

pub returns : goal.returns
returns c = record { flushes = flushes_few; drains = drains_few; calls = calls_are }
