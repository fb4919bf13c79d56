use Rattle.std.proofs.Common.{◌≡◌, zero, suc, refl, sym, ap, ◌∙◌, subst}
use Rattle.pm_objects.specs.declared.calls.Operation.TheVariants.{Publish}
use Rattle.pm_call.specs.Positions.{stopped_by}
use Rattle.pm_tx.specs.Publishing.{Published}
use Rattle.pm_action.specs.Publications.{PublishedOutside}
use Rattle.pm_exec.specs.Answers.{LineCame}
use Rattle.pm_exec.proofs.LineEnds.{came_alone, came_unreplied, level_is, outside_history}
use Rattle.pm_exec.proofs.Spent.{publish_spent}
use Rattle.pm_exec.proofs.Stopping.{published_unnumbered}
use Rattle.pm_exec.proofs.lines.publish.Goals as goal

pub publish-requires : goal.publish-requires
publish-requires g c going none = (c.requires.1.between going none).0

pub publish-requires-else-level-eq0 : goal.publish-requires-else-level-eq0
publish-requires-else-level-eq0 g c none = (c.requires.1.work none).0

pub returns-then-level-eq0 : goal.returns-then-level-eq0
returns-then-level-eq0 g c zero h stands here =
    let at = g.M.LaneMem.at in
    let known = c.calls_are_known.ensures in
    let old = c.args.lane.now in
    let new = c.publish.new.lane in
    let result = c.publish.result in
    let did = c.publish.ensures in
    let rests = known.resting old here in
    subst (LineCame at new Publish _ _ h) (sym c.alone.ensures)
    (came_alone at old new h Publish refl result
    (outside_history at old new h _ _ rests.1 rests.2 (known.publish result old new h stands did))
    (known.publish_moves result old new h stands did ∙ ap (stopped_by result) here)
    (λ is. publish_spent at old new h stands rests.1 rests.2
    (subst (λ r. PublishedOutside at old new r) is did)))
returns-then-level-eq0 g c (suc n) h stands here =
    let clash : suc n ≡ 0 = sym (level_is c.args.lane.now (suc n) here)
    ∙ (sym c.level.ensures ∙ c.if-level-eq0.true) in
    absurd cc

pub returns-else-level-eq0 : goal.returns-else-level-eq0
returns-else-level-eq0 g c zero h stands here =
    absurd (c.if-level-eq0.false (c.level.ensures ∙ level_is c.args.lane.now 0 here))
returns-else-level-eq0 g c (suc n) h stands here =
    let at = g.M.LaneMem.at in
    let known = c.calls_are_known.ensures in
    let old = c.args.lane.now in
    let new = c.publish-else-level-eq0.new.lane in
    let result = c.publish-else-level-eq0.result in
    let did = c.publish-else-level-eq0.ensures in
    let none = known.working old n here in
    subst (LineCame at new Publish _ _ h) (sym c.unreplied.ensures)
    (came_unreplied at old new h Publish n here none result refl refl
    (known.publish_inside result old new h stands did)
    (known.publish_inside_moves result old new h stands did)
    (λ is. published_unnumbered at old new h stands none
    (subst (λ r. Published at old new r) is did)))
