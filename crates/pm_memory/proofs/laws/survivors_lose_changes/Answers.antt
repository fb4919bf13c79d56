use Rattle.pm_memory.proofs.Images.{image-taken}
use Rattle.pm_memory.proofs.laws.survivors_lose_changes.Goals as goal

pub returns : goal.returns
returns c words image lanes w is = image-taken is.choice words image lanes w is.is
