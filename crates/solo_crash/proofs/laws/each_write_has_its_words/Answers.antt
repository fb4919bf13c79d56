use Rattle.solo_crash.proofs.Covered.{only_words, written_words}
use Rattle.solo_crash.proofs.laws.each_write_has_its_words.Goals as goal

pub returns-clause-written : goal.returns-clause-written
returns-clause-written c = written_words

pub returns-clause-only : goal.returns-clause-only
returns-clause-only c = only_words
