use Rattle.solo_script.proofs.Readings.{bad_line_once}
use Rattle.solo_script.specs.Stops.{parts}
use Rattle.solo_script.proofs.StopLists.{stops_once}
use Rattle.solo_script.proofs.laws.one_reading_per_text.Goals as goal

pub returns-clause-bad_lines : goal.returns-clause-bad_lines
returns-clause-bad_lines c = bad_line_once

pub returns-clause-stops : goal.returns-clause-stops
returns-clause-stops c = λ text. stops_once (parts text)
