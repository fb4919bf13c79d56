use Rattle.std.proofs.Common.{◌≡◌, zero, suc, refl, sym, ◌∙◌, subst}
use Rattle.pm_objects.specs.declared.calls.Operation.TheVariants.{Cancel}
use Rattle.pm_exec.specs.Answers.{LineCame}
use Rattle.pm_exec.proofs.LineEnds.{came_asked, came_cancelled, inside_call, inside_history, level_is, outside_history, unmoved_outside}
use Rattle.pm_exec.proofs.Spent.{asked_spent}
use Rattle.pm_exec.proofs.lines.cancel.Goals as goal

pub cancel-requires-clause-idle : goal.cancel-requires-clause-idle
cancel-requires-clause-idle g c going none = (c.requires.1.between going none).0

pub cancel-requires-else-level-eq0-clause-at_work : goal.cancel-requires-else-level-eq0-clause-at_work
cancel-requires-else-level-eq0-clause-at_work g c none = (c.requires.1.work none).0

pub returns-then-level-eq0 : goal.returns-then-level-eq0
returns-then-level-eq0 g c zero h stands here =
    let at = g.M.LaneMem.at in
    let known = c.calls_are_known.ensures in
    let old = c.args.lane.now in
    let new = c.cancel.new.lane in
    let result = c.cancel.result in
    let did = c.cancel.ensures in
    let rests = known.resting old here in
    subst (LineCame at new Cancel _ _ h) (sym c.asked.ensures)
    (came_asked at old new h Cancel refl result
    (outside_history at old new h _ _ rests.1 rests.2 (known.cancel result old new h stands did))
    (unmoved_outside at old new h result here rests.0 (known.cancel_moves result old new h stands did))
    (asked_spent at old new h stands rests.1 rests.2 Cancel result _ did))
returns-then-level-eq0 g c (suc n) h stands here =
    let clash : suc n ≡ 0 = sym (level_is c.args.lane.now (suc n) here)
    ∙ (sym c.level.ensures ∙ c.if-level-eq0.true) in
    absurd cc

pub returns-else-level-eq0 : goal.returns-else-level-eq0
returns-else-level-eq0 g c zero h stands here =
    absurd (c.if-level-eq0.false (c.level.ensures ∙ level_is c.args.lane.now 0 here))
returns-else-level-eq0 g c (suc n) h stands here =
    let at = g.M.LaneMem.at in
    let known = c.calls_are_known.ensures in
    let old = c.args.lane.now in
    let new = c.cancel-else-level-eq0.new.lane in
    let result = c.cancel-else-level-eq0.result in
    let did = c.cancel-else-level-eq0.ensures in
    let none = known.working old n here in
    subst (LineCame at new Cancel _ _ h) (sym c.unreplied.ensures)
    (came_cancelled at old new h n here none result
    (inside_history at old new h n here _ _ none (known.cancel result old new h stands did))
    (known.cancel_moves result old new h stands did)
    (inside_call at old new h n here _ _ did)
    stands)
