use Rattle.std.proofs.Common.{ℕ, List, subst, arith}
use Rattle.pm_layout.specs.declared.shape.Shape.{Shape}
use Rattle.pm_lanes.specs.Opens.{IsOpenCause, IsOpened}
use Rattle.pm_lanes.proofs.Causes.{no_cause, told_for}
use Rattle.pm_lanes.proofs.solo.open_solo.Goals as goal

pub returns-in-Ok-begin_solo-clause-refused : goal.returns-in-Ok-begin_solo-clause-refused
returns-in-Ok-begin_solo-clause-refused c =
    let shape : Shape = c.in-Ok-begin_solo.made.1 in
    let words : List ℕ = c.in-Ok-begin_solo.made.0.words in
    let id : ℕ = c.in-Ok-begin_solo.made.2 in
    no_cause c.args.image c.args.layout.now 1 _ c.in-Ok-begin_solo.made words shape id
    (subst (λ (i : List ℕ). IsOpened i c.args.layout.now words shape id)
    c.in-Ok.ensures c.in-Ok-begin_solo.ensures.opened)
    (omega arith) (let from = shape.lanes_from in omega (arith, from))

pub returns-clause-refused : goal.returns-clause-refused
returns-clause-refused c fault cause =
    told_for c.args.image c.args.layout.now 1 _ fault c.in-Err.fault cause
    (subst (λ (i : List ℕ). IsOpenCause i c.args.layout.now 1 c.in-Err.fault)
    c.in-Ok.ensures c.in-Err.ensures.cause)
