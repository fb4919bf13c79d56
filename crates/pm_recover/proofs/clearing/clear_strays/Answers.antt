use Rattle.std.proofs.Common.{◌≡◌, ◌*◌, subst, arith}
use Rattle.pm_recover.specs.Steps.{AreCleared}
use Rattle.pm_recover.proofs.Strays.{cleared_more, none_cleared}
use Rattle.pm_recover.proofs.clearing.clear_strays.Goals as goal

pub loop-number-init : goal.loop-number-init
loop-number-init c = none_cleared c.args.image.now

pub clear_stray-requires-clause-lanes : goal.clear_stray-requires-clause-lanes
clear_stray-requires-clause-lanes c =
    let has = c.requires in
    let fit = has.lanes_fit in let areas = has.areas in let small = has.small in
    let same = c.loop-number.invariant.as_long in
    let near = c.loop-number-test.true in
    record { lanes_fit = omega (arith, fit, near); areas = omega (arith, areas, same, near); small = omega (arith, small, same) }

pub loop-number-preserved : goal.loop-number-preserved
loop-number-preserved c =
    cleared_more c.args.image.now c.loop-number.image c.clear_stray.new.image c.args.lanes c.loop-number.number c.requires c.loop-number-test.true c.loop-number.invariant
    c.clear_stray.ensures.as_long c.clear_stray.ensures.slot c.clear_stray.ensures.others

pub returns : goal.returns
returns c =
    let end : c.loop-number.number ≡ 64 * c.args.lanes = (let past = c.loop-number-test.false in let most = c.loop-number.auto.number-end in omega (arith, past, most)) in
    subst (AreCleared c.args.image.now c.loop-number.image) end c.loop-number.invariant
