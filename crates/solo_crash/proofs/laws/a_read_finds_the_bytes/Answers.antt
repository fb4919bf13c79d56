use Rattle.solo_crash.proofs.ObjectBytes.{byte_of_its_word, range_is_read}
use Rattle.solo_crash.proofs.laws.a_read_finds_the_bytes.Goals as goal

pub returns-clause-byte : goal.returns-clause-byte
returns-clause-byte c = byte_of_its_word

pub returns-clause-range : goal.returns-clause-range
returns-clause-range c = range_is_read
