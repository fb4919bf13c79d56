use Rattle.pm_memory.proofs.Images.{image-bit, image-untouched}
use Rattle.pm_memory.proofs.laws.images_are_found.Goals as goal

pub returns-clause-bit : goal.returns-clause-bit
returns-clause-bit c words image lanes w i is = image-bit is.choice words image lanes w i is.is

pub returns-clause-untouched : goal.returns-clause-untouched
returns-clause-untouched c words image lanes w is = image-untouched is.choice words image lanes w is.is
