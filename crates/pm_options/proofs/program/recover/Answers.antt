use Rattle.pm_options.proofs.Apps.{arg_added}
use Rattle.pm_options.proofs.program.recover.Goals as goal

pub returns : goal.returns
returns c =
    let pool = arg_added _ _ _ _ _ c.in_ok-pool.ensures c.named-empty.ensures c.positional.ensures.local c.positional.ensures.rule in
    let out = arg_added _ _ _ _ _ c.in_ok-out.ensures pool c.option.ensures.local c.option.ensures.rule in
    let stop = arg_added _ _ _ _ _ c.in_ok-stop.ensures out c.option-2.ensures.local c.option-2.ensures.rule in
    arg_added _ _ _ _ _ c.in_ok-keep.ensures stop c.option-3.ensures.local c.option-3.ensures.rule
