use Rattle.pm_options.proofs.Apps.{arg_added}
use Rattle.pm_options.proofs.program.info.Goals as goal

pub returns : goal.returns
returns c = arg_added _ _ _ _ _ c.in_ok-pool.ensures c.named-empty.ensures c.positional.ensures.local c.positional.ensures.rule
