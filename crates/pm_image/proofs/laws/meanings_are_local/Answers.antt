use Rattle.pm_image.proofs.LocalMeaning.{meaning_local}
use Rattle.pm_image.proofs.laws.meanings_are_local.Goals as goal

pub returns : goal.returns
returns c = meaning_local
