use Rattle.pm_words.proofs.Reading.{words_of-bytes_of, bytes_of-words_of}
use Rattle.pm_words.proofs.laws.words_and_bytes_agree.Goals as goal

pub returns-clause-words_again : goal.returns-clause-words_again
returns-clause-words_again c = words_of-bytes_of

pub returns-clause-bytes_again : goal.returns-clause-bytes_again
returns-clause-bytes_again c = bytes_of-words_of
