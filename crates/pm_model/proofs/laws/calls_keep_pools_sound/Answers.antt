use Rattle.pm_model.proofs.SoundCalls.{call_sound}
use Rattle.pm_model.proofs.laws.calls_keep_pools_sound.Goals as goal

pub returns : goal.returns
returns c = call_sound
