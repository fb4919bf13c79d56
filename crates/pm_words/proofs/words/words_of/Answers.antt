use Rattle.std.proofs.Common.{arith}
use Rattle.pm_words.proofs.Reading.{words_read}
use Rattle.pm_words.proofs.words.words_of.Goals as goal

pub returns : goal.returns
returns c = words_read c.args.bytes.now c.read_u64_into.new.dst (omega arith) c.read_u64_into.ensures
