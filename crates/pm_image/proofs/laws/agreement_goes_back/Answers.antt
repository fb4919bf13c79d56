use Rattle.pm_image.proofs.SameReads.{agree_back}
use Rattle.pm_image.proofs.laws.agreement_goes_back.Goals as goal

pub returns : goal.returns
returns c = agree_back
