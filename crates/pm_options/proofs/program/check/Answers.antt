use Rattle.pm_options.proofs.Apps.{arg_added}
use Rattle.pm_options.proofs.program.check.Goals as goal

pub returns : goal.returns
returns c =
    let pool = arg_added _ _ _ _ _ c.in_ok-pool.ensures c.named-empty.ensures c.positional.ensures.local c.positional.ensures.rule in
    arg_added _ _ _ _ _ c.in_ok-repair.ensures pool c.option.ensures.local c.option.ensures.rule
