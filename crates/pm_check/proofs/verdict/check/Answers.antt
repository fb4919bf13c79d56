use Rattle.pm_check.proofs.Verdicts.{consistent_verdict, fault_verdict, mended_verdict}
use Rattle.pm_check.proofs.verdict.check.Goals as goal

pub returns-clause-consistent : goal.returns-clause-consistent
returns-clause-consistent c = consistent_verdict c.args.image.now _ c.args.repair c.judge.result c.judge.ensures.verdict

pub returns-clause-mended : goal.returns-clause-mended
returns-clause-mended c = mended_verdict c.args.image.now _ c.args.repair c.judge.result c.judge.ensures.verdict

pub returns-clause-fault : goal.returns-clause-fault
returns-clause-fault c = fault_verdict c.args.image.now _ c.args.repair c.judge.result c.judge.ensures.verdict
