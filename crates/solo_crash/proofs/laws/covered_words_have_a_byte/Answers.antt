use Rattle.solo_crash.proofs.Covered.{byte_is_covered, covered_has_byte}
use Rattle.solo_crash.proofs.laws.covered_words_have_a_byte.Goals as goal

pub returns : goal.returns
returns c = λ place len i. (covered_has_byte place len i, λ has. byte_is_covered place len i has.0 has.1 has.2)
