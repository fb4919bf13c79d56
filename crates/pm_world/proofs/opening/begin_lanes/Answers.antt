use Rattle.std.proofs.Common.{ℕ, ◌+◌, set, sym, subst, arith}
use Rattle.pm_world.specs.Bare.{AreBare}
use Rattle.pm_world.proofs.Bare.{one_more}
use Rattle.pm_world.proofs.opening.begin_lanes.Goals as goal

pub loop-lane-preserved : goal.loop-lane-preserved
loop-lane-preserved c = subst (λ i. AreBare c.args.shape (c.loop-lane.lane + 1) (set c.loop-lane.words.items i 1)) (sym c.word_of_generation.ensures)
    (one_more c.args.shape c.loop-lane.lane c.loop-lane.words.items c.loop-lane-test.true c.loop-lane.invariant)

pub returns : goal.returns
returns c = subst (λ (n : ℕ). AreBare c.args.shape n c.loop-lane.words.items) (let a = c.loop-lane-test.false in let b = c.loop-lane.auto.lane-end in omega (arith, a, b)) c.loop-lane.invariant
