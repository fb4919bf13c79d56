use Rattle.std.proofs.Common.{ℕ, zero, suc, Err, arith, refl, sym, ap, ◌∙◌, subst}
use Rattle.pm_objects.specs.declared.calls.Operation.TheVariants.{Commit}
use Rattle.pm_tx.specs.Commits.{LevelCommitted}
use Rattle.pm_exec.specs.Answers.{LineCame}
use Rattle.pm_exec.specs.Lines.{end_at_work}
use Rattle.pm_exec.proofs.LineEnds.{came_committed, came_committed_inner, came_stopped_committing, committed_history, committed_there, level_is}
use Rattle.pm_exec.proofs.Stopping.{commit_stops}
use Rattle.pm_exec.proofs.lines.commit.Goals as goal

pub commit-requires : goal.commit-requires
commit-requires g c none = (c.requires.1.work none).0

pub returns-in-Err : goal.returns-in-Err
returns-in-Err g c n h stands here =
    let at = g.M.LaneMem.at in
    let known = c.calls_are_known.ensures in
    let old = c.args.lane.now in
    let new = c.commit.new.lane in
    let why = c.in-Err.why in
    let did = c.in-Err.ensures {u = tt} in
    let none = known.working old n here in
    let stops = commit_stops at old new h stands none why did in
    let did_stop = subst (λ r. LevelCommitted at old new (Err r)) stops.0 did in
    subst (LineCame at new Commit (suc n) n h)
    (sym (c.at_work.ensures ∙ ap (λ r. end_at_work (Err r)) stops.0))
    (came_stopped_committing at old new h n here none stops.1
    (known.commit _ old new h stands did_stop) (known.commit_moves _ old new h stands did_stop))

pub end-requires : goal.end-requires
end-requires g c past =
    let did = c.in_default.ensures {u = tt} in
    ((c.calls_are_known.ensures.commit _ c.args.lane.now c.commit.new.lane c.requires.0
    c.requires.1 did).past past).0

pub returns-then-outermost : goal.returns-then-outermost
returns-then-outermost g c n h stands here =
    let at = g.M.LaneMem.at in
    let known = c.calls_are_known.ensures in
    let old = c.args.lane.now in
    let mid = c.commit.new.lane in
    let new = c.end.new.lane in
    let did = c.in_default.ensures {u = tt} in
    let none = known.working old n here in
    let turned = known.commit _ old mid h stands did in
    let moved = known.commit_moves _ old mid h stands did in
    let there = committed_there at old new h mid none turned moved n here in
    let past = known.committed mid n there in
    let stands_mid = committed_history at old new h mid none turned moved in
    let level = level_is old (suc n) here in
    let outermost = c.if-outermost.true in
    let told = c.level-outermost.ensures in
    came_committed at old new h mid none turned moved c.end.result
    (known.end_returns c.end.result mid new _ stands_mid c.end.ensures past) past
    (λ h2 s. known.end c.end.result mid new h2 s c.end.ensures)
    (known.end_moves c.end.result mid new _ stands_mid c.end.ensures) n here
    (omega (arith, level, outermost, told))

pub returns-else-outermost : goal.returns-else-outermost
returns-else-outermost g c zero h stands here =
    let level = level_is c.args.lane.now 1 here in
    absurd (c.if-outermost.false (c.level-outermost.ensures ∙ level))
returns-else-outermost g c (suc m) h stands here =
    let n : ℕ = suc m in
    let at = g.M.LaneMem.at in
    let known = c.calls_are_known.ensures in
    let old = c.args.lane.now in
    let mid = c.commit.new.lane in
    let new = c.end.new.lane in
    let did = c.in_default.ensures {u = tt} in
    let none = known.working old n here in
    let turned = known.commit _ old mid h stands did in
    let moved = known.commit_moves _ old mid h stands did in
    let there = committed_there at old new h mid none turned moved n here in
    let past = known.committed mid n there in
    let stands_mid = committed_history at old new h mid none turned moved in
    came_committed_inner at old new h mid none turned moved c.end.result
    (known.end_returns c.end.result mid new _ stands_mid c.end.ensures past) past
    (λ h2 s. known.end c.end.result mid new h2 s c.end.ensures)
    (known.end_moves c.end.result mid new _ stands_mid c.end.ensures) n m here refl
