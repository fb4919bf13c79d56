use Rattle.pm_image.proofs.LocalContents.{contents_local}
use Rattle.pm_image.proofs.laws.contents_are_local.Goals as goal

pub returns : goal.returns
returns c = contents_local
