use Rattle.std.proofs.Common.{◌≡◌, ℕ, ◌+◌, ◌*◌, subst, sym, arith, rules}
use Rattle.pm_image.specs.Logs.{slot_line}
use Rattle.pm_recover.proofs.Strays.{AreZeroed, none_zeroed, slot_zeroed, zeroed_more}
use Rattle.pm_recover.proofs.clearing.clear_slot.Goals as goal

pub loop-k-init : goal.loop-k-init
loop-k-init c = none_zeroed (8 * slot_line c.args.lane c.args.slot) c.args.image.now

pub set-requires : goal.set-requires
set-requires c =
    let areas = c.requires.lanes.areas in
    let few = c.requires.slot in
    let same = c.loop-k.invariant.as_long in
    let low = c.loop-k-test.true in
    omega (arith, areas, few, same, low)

pub loop-k-preserved : goal.loop-k-preserved
loop-k-preserved c =
    let areas = c.requires.lanes.areas in
    let few = c.requires.slot in
    let same = c.loop-k.invariant.as_long in
    let low = c.loop-k-test.true in
    zeroed_more (8 * slot_line c.args.lane c.args.slot) c.loop-k.k c.args.image.now c.loop-k.image c.set.new.self c.loop-k.invariant (omega (arith, areas, few, same, low)) (search rules)

pub returns-clause-as_long : goal.returns-clause-as_long
returns-clause-as_long c = c.loop-k.invariant.as_long

pub returns-clause-cleared : goal.returns-clause-cleared
returns-clause-cleared c = λ k low. c.loop-k.invariant.zero k (let past = c.loop-k-test.false in omega (arith, low, past))

pub returns-clause-others : goal.returns-clause-others
returns-clause-others c =
    let end : c.loop-k.k ≡ 8 = (let past = c.loop-k-test.false in let most = c.loop-k.auto.k-end in omega (arith, past, most)) in
    slot_zeroed c.args.lane c.args.slot c.args.image.now c.loop-k.image (subst (λ n. AreZeroed (8 * slot_line c.args.lane c.args.slot) n c.args.image.now c.loop-k.image) end c.loop-k.invariant)
