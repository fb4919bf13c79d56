use Rattle.std.proofs.Common.{◌≡◌, zero, suc, refl, sym, ◌∙◌, subst}
use Rattle.pm_objects.specs.declared.calls.Operation.TheVariants.{SetValue}
use Rattle.pm_exec.specs.Answers.{LineCame}
use Rattle.pm_exec.proofs.LineEnds.{came_asked, came_noted, inside_history, level_is, outside_history}
use Rattle.pm_exec.proofs.Spent.{asked_spent}
use Rattle.pm_exec.proofs.lines.set.Goals as goal

pub set_value-requires-clause-idle : goal.set_value-requires-clause-idle
set_value-requires-clause-idle g c going none = (c.requires.1.between going none).0

pub set_value-requires-else-level-eq0-clause-at_work : goal.set_value-requires-else-level-eq0-clause-at_work
set_value-requires-else-level-eq0-clause-at_work g c none = (c.requires.1.work none).0

pub returns-then-level-eq0 : goal.returns-then-level-eq0
returns-then-level-eq0 g c zero h stands here =
    let at = g.M.LaneMem.at in
    let known = c.calls_are_known.ensures in
    let old = c.args.lane.now in
    let new = c.set_value.new.lane in
    let id = c.args.id in
    let off = c.args.off in
    let value = c.args.value in
    let result = c.set_value.result in
    let did = c.set_value.ensures in
    let rests = known.resting old here in
    subst (LineCame at new (SetValue id off value) _ _ h) (sym c.asked.ensures)
    (came_asked at old new h (SetValue id off value) refl result
    (outside_history at old new h _ _ rests.1 rests.2
    (known.set id off value result old new h stands did))
    (known.set_moves id off value result old new h stands did ∙ here)
    (asked_spent at old new h stands rests.1 rests.2 (SetValue id off value) result _ did))
returns-then-level-eq0 g c (suc n) h stands here =
    let clash : suc n ≡ 0 = sym (level_is c.args.lane.now (suc n) here)
    ∙ (sym c.level.ensures ∙ c.if-level-eq0.true) in
    absurd cc

pub returns-else-level-eq0 : goal.returns-else-level-eq0
returns-else-level-eq0 g c zero h stands here =
    absurd (c.if-level-eq0.false (c.level.ensures ∙ level_is c.args.lane.now 0 here))
returns-else-level-eq0 g c (suc n) h stands here =
    let at = g.M.LaneMem.at in
    let known = c.calls_are_known.ensures in
    let old = c.args.lane.now in
    let new = c.set_value-else-level-eq0.new.lane in
    let id = c.args.id in
    let off = c.args.off in
    let value = c.args.value in
    let result = c.set_value-else-level-eq0.result in
    let did = c.set_value-else-level-eq0.ensures in
    subst (LineCame at new (SetValue id off value) _ _ h) (sym c.noted.ensures)
    (came_noted at old new h (SetValue id off value) n result refl refl (λ r. refl)
    (inside_history at old new h n here _ _ (known.working old n here)
    (known.set id off value result old new h stands did))
    (known.set_moves id off value result old new h stands did ∙ here))
