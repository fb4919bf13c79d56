use Rattle.std.proofs.Common.{Err, refl, sym, subst}
use Rattle.pm_objects.specs.declared.calls.Operation.TheVariants.{AddRange}
use Rattle.pm_call.specs.Adding.{HasCounted}
use Rattle.pm_call.specs.Did.{Did}
use Rattle.pm_call.specs.Plans.{adds}
use Rattle.pm_tx.specs.Standing.{uncounted}
use Rattle.pm_exec.specs.Answers.{LineCame}
use Rattle.pm_exec.proofs.LineEnds.{came_done, came_refused}
use Rattle.pm_exec.proofs.Stopping.{did_unnumbered}
use Rattle.pm_exec.proofs.lines.add.Goals as goal

pub add_range-requires : goal.add_range-requires
add_range-requires g c none = (c.requires.1.work none).0

pub returns-in-Ok : goal.returns-in-Ok
returns-in-Ok g c n h stands here =
    let at = g.M.LaneMem.at in
    let known = c.calls_are_known.ensures in
    let old = c.args.lane.now in
    let new = c.add_range.new.lane in
    let id = c.args.id in
    let did = c.in-Ok.ensures {u = tt} in
    let none = known.working old n here in
    subst (LineCame at new (AddRange id c.args.off c.args.len) _ _ h) (sym c.at_work.ensures)
    (came_done at old new h (AddRange id c.args.off c.args.len) n here none uncounted
    c.in-Ok.field-0 refl (known.add id c.args.off c.args.len _ old new h stands did)
    (known.add_moves id c.args.off c.args.len _ old new h stands did))

pub returns-in-Err : goal.returns-in-Err
returns-in-Err g c n h stands here =
    let at = g.M.LaneMem.at in
    let known = c.calls_are_known.ensures in
    let old = c.args.lane.now in
    let new = c.add_range.new.lane in
    let id = c.args.id in
    let off = c.args.off in
    let len = c.args.len in
    let did = c.in-Err.ensures {u = tt} in
    let none = known.working old n here in
    subst (LineCame at new (AddRange id off len) _ _ h) (sym c.at_work-in-Err.ensures)
    (came_refused at old new h (AddRange id off len) n here none uncounted c.in-Err.why refl
    (known.add id off len _ old new h stands did) (known.add_moves id off len _ old new h stands did)
    (λ is. did_unnumbered at old new h stands none (AddRange id off len) (λ v. adds id off len)
    (HasCounted id off len) (subst (λ r. Did at old new (AddRange id off len) (λ v. adds id off len)
    (HasCounted id off len) (Err r)) is did)))
