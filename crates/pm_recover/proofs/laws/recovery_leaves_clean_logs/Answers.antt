use Rattle.pm_recover.proofs.Clean.{clean}
use Rattle.pm_recover.proofs.Sound.{sound_if_meaning}
use Rattle.pm_recover.proofs.laws.recovery_leaves_clean_logs.Goals as goal

pub returns : goal.returns
returns c = λ before after pool lane is recovered inside. clean before after pool.lanes lane (sound_if_meaning before pool is) recovered inside
