use Rattle.pm_recover.proofs.Final.{again_same}
use Rattle.pm_recover.proofs.Sound.{sound_if_meaning}
use Rattle.pm_recover.proofs.laws.recovery_without_torn_slots_is_final.Goals as goal

pub returns : goal.returns
returns c = λ before after again pool is whole first second. again_same before after again pool.lanes (sound_if_meaning before pool is) whole first second
