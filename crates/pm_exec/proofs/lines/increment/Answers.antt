use Rattle.std.proofs.Common.{Err, refl, sym, subst}
use Rattle.pm_objects.specs.declared.calls.Operation.TheVariants.{Increment}
use Rattle.pm_call.specs.Did.{Did}
use Rattle.pm_call.specs.Incrementing.{HasSum}
use Rattle.pm_call.specs.Plans.{increments}
use Rattle.pm_tx.specs.Standing.{summed}
use Rattle.pm_exec.specs.Answers.{LineCame}
use Rattle.pm_exec.proofs.LineEnds.{came_done, came_refused}
use Rattle.pm_exec.proofs.Stopping.{did_unnumbered}
use Rattle.pm_exec.proofs.lines.increment.Goals as goal

pub increment-requires : goal.increment-requires
increment-requires g c none = (c.requires.1.work none).0

pub returns-in-Ok : goal.returns-in-Ok
returns-in-Ok g c n h stands here =
    let at = g.M.LaneMem.at in
    let known = c.calls_are_known.ensures in
    let old = c.args.lane.now in
    let new = c.increment.new.lane in
    let id = c.args.id in
    let off = c.args.off in
    let by = c.args.by in
    let did = c.in-Ok.ensures {u = tt} in
    let none = known.working old n here in
    subst (LineCame at new (Increment id off by) _ _ h) (sym c.at_work.ensures)
    (came_done at old new h (Increment id off by) n here none summed c.in-Ok.sum refl
    (known.increment id off by _ old new h stands did)
    (known.increment_moves id off by _ old new h stands did))

pub returns-in-Err : goal.returns-in-Err
returns-in-Err g c n h stands here =
    let at = g.M.LaneMem.at in
    let known = c.calls_are_known.ensures in
    let old = c.args.lane.now in
    let new = c.increment.new.lane in
    let id = c.args.id in
    let off = c.args.off in
    let by = c.args.by in
    let did = c.in-Err.ensures {u = tt} in
    let none = known.working old n here in
    subst (LineCame at new (Increment id off by) _ _ h) (sym c.at_work-in-Err.ensures)
    (came_refused at old new h (Increment id off by) n here none summed c.in-Err.why refl
    (known.increment id off by _ old new h stands did)
    (known.increment_moves id off by _ old new h stands did)
    (λ is. did_unnumbered at old new h stands none (Increment id off by)
    (λ v. increments id off by) (HasSum id off by)
    (subst (λ r. Did at old new (Increment id off by) (λ v. increments id off by)
    (HasSum id off by) (Err r)) is did)))
