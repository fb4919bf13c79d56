use Rattle.solo_crash.proofs.Committed.{commit_is_told, commit_makes_its_step}
use Rattle.solo_crash.proofs.EndedCalls.{aborted_makes_its_step}
use Rattle.solo_crash.proofs.GivenUp.{aborted_changes_nothing}
use Rattle.solo_crash.proofs.under_way.a_call_under_way_ends.Goals as goal

pub returns-clause-committed : goal.returns-clause-committed
returns-clause-committed c = commit_is_told

pub returns-clause-aborted : goal.returns-clause-aborted
returns-clause-aborted c = aborted_changes_nothing

pub returns-clause-makes_its_step : goal.returns-clause-makes_its_step
returns-clause-makes_its_step c = commit_makes_its_step

pub returns-clause-aborted_makes_its_step : goal.returns-clause-aborted_makes_its_step
returns-clause-aborted_makes_its_step c = aborted_makes_its_step
