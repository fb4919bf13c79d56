use Rattle.pm_info.proofs.Puts.{fault_put}
use Rattle.pm_info.proofs.facts.info.Goals as goal

pub returns-in-Err-clause-put : goal.returns-in-Err-clause-put
returns-in-Err-clause-put g c = fault_put c.args.image.now _ c.in-Err.fault c.from.result c.in-Err.ensures.fault c.from.ensures
