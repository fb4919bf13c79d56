use Rattle.solo_model.proofs.Ending.{error_is_told, aborted_changes_nothing}
use Rattle.solo_model.proofs.laws.aborted_calls_change_nothing.Goals as goal

pub returns-clause-error : goal.returns-clause-error
returns-clause-error c = error_is_told

pub returns-clause-unchanged : goal.returns-clause-unchanged
returns-clause-unchanged c = aborted_changes_nothing
