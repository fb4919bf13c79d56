use Rattle.pm_model.proofs.Ends.{aborted_changes_nothing, error_is_shown}
use Rattle.pm_model.proofs.laws.aborted_calls_change_nothing.Goals as goal

pub returns-clause-error : goal.returns-clause-error
returns-clause-error c = error_is_shown

pub returns-clause-unchanged : goal.returns-clause-unchanged
returns-clause-unchanged c = aborted_changes_nothing
