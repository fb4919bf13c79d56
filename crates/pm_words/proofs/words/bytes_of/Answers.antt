use Rattle.std.proofs.Common.{◌∙◌, ap, arith}
use Rattle.pm_words.specs.Words.{words_of, bytes_of}
use Rattle.pm_words.proofs.Reading.{words_of-bytes_of}
use Rattle.pm_words.proofs.words.bytes_of.Goals as goal

pub returns-clause-bytes : goal.returns-clause-bytes
unfolding bytes_of
returns-clause-bytes c = c.write_u64_into.ensures

pub returns-clause-words : goal.returns-clause-words
unfolding bytes_of
returns-clause-words c = ap words_of c.write_u64_into.ensures ∙ words_of-bytes_of c.args.words.now (λ i. omega (arith, c.type_inv.words i))
