use Rattle.pm_recover.proofs.Meaning.{meaning_kept}
use Rattle.pm_recover.proofs.laws.recovery_keeps_the_meaning.Goals as goal

pub returns : goal.returns
returns c = meaning_kept
