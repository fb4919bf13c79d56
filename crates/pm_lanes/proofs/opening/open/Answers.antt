use Rattle.std.proofs.Common.{ℕ, List, subst, arith}
use Rattle.pm_shared.specs.declared.rule.Beginning.{Beginning}
use Rattle.pm_lanes.specs.Opens.{IsOpenCause, IsOpened}
use Rattle.pm_lanes.proofs.Causes.{no_cause, told_for}
use Rattle.pm_lanes.proofs.opening.open.Goals as goal

pub returns-in-Ok-open_in_place-clause-refused : goal.returns-in-Ok-open_in_place-clause-refused
returns-in-Ok-open_in_place-clause-refused c =
    let b : Beginning = c.in-Ok-open_in_place.beginning in
    let can = c.in-Ok-open_in_place.ensures.begins in
    let asked = c.in-Ok-open_in_place.ensures.lanes in
    no_cause c.args.image c.args.layout.now c.args.lanes Beginning b b.words.items b.shape b.pool
    (subst (λ (i : List ℕ). IsOpened i c.args.layout.now b.words.items b.shape b.pool)
    c.in-Ok.ensures c.in-Ok-open_in_place.ensures.opened)
    (let some = can.some_lanes in omega (arith, some, asked))
    (let most = can.most_lanes in omega (arith, most, asked))

pub returns-clause-refused : goal.returns-clause-refused
returns-clause-refused c fault cause =
    told_for c.args.image c.args.layout.now c.args.lanes Beginning fault c.in-Err.fault cause
    (subst (λ (i : List ℕ). IsOpenCause i c.args.layout.now c.args.lanes c.in-Err.fault)
    c.in-Ok.ensures c.in-Err.ensures.cause)
