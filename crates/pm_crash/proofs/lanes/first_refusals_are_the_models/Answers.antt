use Rattle.pm_crash.proofs.Looked.{read_is, refusal_is}
use Rattle.pm_crash.proofs.Looks.{refusals_look}
use Rattle.pm_crash.proofs.SimRoots.{root_is_known}
use Rattle.pm_crash.proofs.Telling.{no_root_is_asked}
use Rattle.pm_crash.proofs.lanes.first_refusals_are_the_models.Goals as goal

pub returns-clause-refusal : goal.returns-clause-refusal
returns-clause-refusal c = refusal_is

pub returns-clause-reads : goal.returns-clause-reads
returns-clause-reads c = read_is

pub returns-clause-looks : goal.returns-clause-looks
returns-clause-looks c = refusals_look

pub returns-clause-root : goal.returns-clause-root
returns-clause-root c = no_root_is_asked

pub returns-clause-root_known : goal.returns-clause-root_known
returns-clause-root_known c = root_is_known
