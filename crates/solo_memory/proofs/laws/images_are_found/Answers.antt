use Rattle.solo_memory.proofs.Finding.{image-bit, image-untouched}
use Rattle.solo_memory.proofs.laws.images_are_found.Goals as goal

pub returns-clause-bit : goal.returns-clause-bit
returns-clause-bit c = image-bit

pub returns-clause-untouched : goal.returns-clause-untouched
returns-clause-untouched c = image-untouched
