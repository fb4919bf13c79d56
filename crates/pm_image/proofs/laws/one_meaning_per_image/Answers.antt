use Rattle.pm_image.proofs.Meanings.{one_meaning, one_fault, no_meaning_and_fault}
use Rattle.pm_image.proofs.laws.one_meaning_per_image.Goals as goal

pub returns-clause-pools : goal.returns-clause-pools
returns-clause-pools c = one_meaning

pub returns-clause-faults : goal.returns-clause-faults
returns-clause-faults c = one_fault

pub returns-clause-not_both : goal.returns-clause-not_both
returns-clause-not_both c = no_meaning_and_fault
