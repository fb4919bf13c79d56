use Rattle.pm_image.proofs.HeapWords.{reads_heap}
use Rattle.pm_image.proofs.laws.meanings_read_the_heap.Goals as goal

pub returns : goal.returns
returns c = reads_heap
