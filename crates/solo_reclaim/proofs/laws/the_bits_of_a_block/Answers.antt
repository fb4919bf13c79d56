use Rattle.solo_reclaim.proofs.BlockBits.{chunks_bits, run_bits}
use Rattle.solo_reclaim.proofs.laws.the_bits_of_a_block.Goals as goal

pub returns : goal.returns
returns c = record { run = λ lanes c lines index at bit inside. run_bits lanes c lines index inside at bit; chunks = chunks_bits }
