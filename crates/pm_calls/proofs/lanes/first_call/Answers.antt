use Rattle.std.proofs.Common.{◌+◌, ◌≤◌, sym, ◌∙◌, subst, arith}
use Rattle.pm_calls.proofs.FirstCall.{IsSoFar, first_ends, first_is_all, so_far_more}
use Rattle.pm_calls.proofs.lanes.first_call.Goals as goal

pub returns-then-level-eq0-clause-first : goal.returns-then-level-eq0-clause-first
returns-then-level-eq0-clause-first c =
    first_ends c.args.lines.now c.loop-k.k c.loop-k.level c.index-lines-k.result c.loop-k-test.true c.index-lines-k.is (sym c.level_behind-level.ensures ∙ c.if-level-eq0.true) c.loop-k.invariant

pub loop-k-preserved : goal.loop-k-preserved
loop-k-preserved c =
    let some : 1 ≤ c.level_behind-level.result = omega arith in
    subst (IsSoFar c.args.lines.now (c.loop-k.k + 1)) (sym c.level_behind-level.ensures)
    (so_far_more c.args.lines.now c.loop-k.k c.loop-k.level c.index-lines-k.result c.loop-k-test.true c.index-lines-k.is (subst (λ n. 1 ≤ n) c.level_behind-level.ensures some) c.loop-k.invariant)

pub returns-clause-first : goal.returns-clause-first
returns-clause-first c = first_is_all c.args.lines.now c.loop-k.k c.loop-k.level c.requires c.loop-k-test.false c.loop-k.invariant
