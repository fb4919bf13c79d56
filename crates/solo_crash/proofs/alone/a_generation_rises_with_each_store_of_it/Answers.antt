use Rattle.solo_crash.proofs.Raising.{generation_raised}
use Rattle.solo_crash.proofs.alone.a_generation_rises_with_each_store_of_it.Goals as goal

pub returns : goal.returns
returns c = λ o header pool v w steps. generation_raised o header pool v w steps
