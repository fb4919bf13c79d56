use Rattle.pm_recover.proofs.Clean.{clean, clean_has_none, none_to_come}
use Rattle.pm_recover.proofs.Sound.{sound_if_meaning}
use Rattle.pm_recover.proofs.laws.recovery_leaves_no_record.Goals as goal

pub returns-clause-no_record : goal.returns-clause-no_record
returns-clause-no_record c = λ before after pool lane is recovered inside.
    clean_has_none after lane (clean before after pool.lanes lane (sound_if_meaning before pool is) recovered inside)

pub returns-clause-no_stray : goal.returns-clause-no_stray
returns-clause-no_stray c = λ before after pool is recovered.
    none_to_come after pool.lanes (λ lane inside. clean before after pool.lanes lane (sound_if_meaning before pool is) recovered inside)
