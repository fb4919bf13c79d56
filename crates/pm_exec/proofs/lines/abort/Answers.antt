use Rattle.std.proofs.Common.{suc, Err, sym, ap, ◌∙◌, subst}
use Rattle.pm_objects.specs.declared.calls.Operation.TheVariants.{Abort}
use Rattle.pm_tx.specs.Outcome.{Aborted}
use Rattle.pm_exec.specs.Answers.{LineCame}
use Rattle.pm_exec.specs.Lines.{end_at_work}
use Rattle.pm_exec.specs.declared.line_end.LineEnd.TheVariants as ends
use Rattle.pm_exec.proofs.LineEnds.{came_aborted, came_stopped_aborting}
use Rattle.pm_exec.proofs.Stopping.{abort_stops}
use Rattle.pm_exec.proofs.lines.abort.Goals as goal

pub abort-requires : goal.abort-requires
abort-requires g c none = (c.requires.1.work none).0

pub returns-in-Ok : goal.returns-in-Ok
returns-in-Ok g c n h stands here =
    let at = g.M.LaneMem.at in
    let known = c.calls_are_known.ensures in
    let old = c.args.lane.now in
    let new = c.abort.new.lane in
    let errnum = c.args.errnum in
    let did = c.in-Ok.ensures {u = tt} in
    let none = known.working old n here in
    subst (λ e. LineCame at new (Abort errnum) (suc n) n h (ends.GivenUp e)) (sym c.abort_error.ensures)
    (came_aborted at old new h errnum n here none
    (known.abort errnum _ old new h stands did) (known.abort_moves errnum _ old new h stands did))

pub returns-in-Err : goal.returns-in-Err
returns-in-Err g c n h stands here =
    let at = g.M.LaneMem.at in
    let known = c.calls_are_known.ensures in
    let old = c.args.lane.now in
    let new = c.abort.new.lane in
    let errnum = c.args.errnum in
    let why = c.in-Err.why in
    let did = c.in-Err.ensures {u = tt} in
    let none = known.working old n here in
    let stops = abort_stops at old new h stands none errnum why did in
    let did_stop = subst (λ r. Aborted at old new errnum (Err r)) stops.0 did in
    subst (LineCame at new (Abort errnum) (suc n) n h)
    (sym (c.at_work.ensures ∙ ap (λ r. end_at_work (Err r)) stops.0))
    (came_stopped_aborting at old new h errnum n here none
    (known.abort errnum _ old new h stands did_stop)
    (known.abort_moves errnum _ old new h stands did_stop) stops.1)
