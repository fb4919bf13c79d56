use Rattle.std.proofs.Common.{◌∙◌, ap}
use Rattle.pm_words.specs.Words.{bytes_of}
use Rattle.pm_header.proofs.NameLines.{bytes_of_name}
use Rattle.pm_header.proofs.reading.name_in.Goals as goal

pub returns-clause-again : goal.returns-clause-again
returns-clause-again c = λ name line. c.of_line.ensures.again name line.is_name (c.bytes_of.ensures.bytes ∙ ap bytes_of line.spelled ∙ bytes_of_name name line.is_name)
