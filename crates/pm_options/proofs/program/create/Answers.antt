use Rattle.pm_options.proofs.Apps.{arg_added}
use Rattle.pm_options.proofs.program.create.Goals as goal

pub returns : goal.returns
returns c =
    let pool = arg_added _ _ _ _ _ c.in_ok-pool.ensures c.named-empty.ensures c.positional.ensures.local c.positional.ensures.rule in
    let lanes = arg_added _ _ _ _ _ c.in_ok-lanes.ensures pool c.option.ensures.local c.option.ensures.rule in
    let zones = arg_added _ _ _ _ _ c.in_ok-zones.ensures lanes c.option-2.ensures.local c.option-2.ensures.rule in
    let id = arg_added _ _ _ _ _ c.in_ok-id.ensures zones c.option-3.ensures.local c.option-3.ensures.rule in
    let layout = arg_added _ _ _ _ _ c.in_ok-layout.ensures id c.option-4.ensures.local c.option-4.ensures.rule in
    arg_added _ _ _ _ _ c.in_ok-root.ensures layout c.option-5.ensures.local c.option-5.ensures.rule
