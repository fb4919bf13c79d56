use Rattle.pm_options.proofs.Apps.{arg_added}
use Rattle.pm_options.proofs.program.exec.Goals as goal

pub returns : goal.returns
returns c =
    let pool = arg_added _ _ _ _ _ c.in_ok-pool.ensures c.named-empty.ensures c.positional.ensures.local c.positional.ensures.rule in
    let script = arg_added _ _ _ _ _ c.in_ok-script.ensures pool c.option.ensures.local c.option.ensures.rule in
    let out = arg_added _ _ _ _ _ c.in_ok-out.ensures script c.option-2.ensures.local c.option-2.ensures.rule in
    let layout = arg_added _ _ _ _ _ c.in_ok-layout.ensures out c.option-3.ensures.local c.option-3.ensures.rule in
    let stops = arg_added _ _ _ _ _ c.in_ok-stops.ensures layout c.option-4.ensures.local c.option-4.ensures.rule in
    arg_added _ _ _ _ _ c.in_ok-keep.ensures stops c.option-5.ensures.local c.option-5.ensures.rule
