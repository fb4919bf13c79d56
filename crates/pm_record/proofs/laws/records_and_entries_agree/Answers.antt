use Rattle.pm_record.proofs.Applying.{outcome-outcome, either_order}
use Rattle.pm_record.proofs.laws.records_and_entries_agree.Goals as goal

pub returns-clause-twice : goal.returns-clause-twice
returns-clause-twice c = λ e word. outcome-outcome e.op e.value word

pub returns-clause-either_order : goal.returns-clause-either_order
returns-clause-either_order c = either_order
