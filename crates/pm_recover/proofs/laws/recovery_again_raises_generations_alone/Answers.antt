use Rattle.pm_recover.proofs.Final.{others_same}
use Rattle.pm_recover.proofs.Sound.{sound_if_meaning}
use Rattle.pm_recover.proofs.laws.recovery_again_raises_generations_alone.Goals as goal

pub returns : goal.returns
returns c = λ before after again pool i is first second other. others_same before after again pool.lanes i (sound_if_meaning before pool is) first second other
