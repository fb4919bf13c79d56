use Rattle.std.proofs.lemmas.List.Elements.{All-weaker}
use Rattle.solo_script.specs.Scripts.{NamesBindingLines, NamesEarlierLines}
use Rattle.solo_script.proofs.BoundLetters.{NamesLines, letters_named}
use Rattle.solo_script.proofs.laws.letters_are_bound_before.Goals as goal

pub returns-clause-before : goal.returns-clause-before
returns-clause-before c = λ lines script is. All-weaker (NamesLines script.lines) NamesEarlierLines (λ line names. names.0) script.lines (letters_named lines script is)

pub returns-clause-binds : goal.returns-clause-binds
returns-clause-binds c = λ lines script is. All-weaker (NamesLines script.lines) (NamesBindingLines script.lines) (λ line names. names.1) script.lines (letters_named lines script is)
