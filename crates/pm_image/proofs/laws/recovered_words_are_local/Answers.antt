use Rattle.pm_image.proofs.Local.{recovered_local}
use Rattle.pm_image.proofs.laws.recovered_words_are_local.Goals as goal

pub returns : goal.returns
returns c = recovered_local
