use Rattle.std.proofs.Common.{◌≡◌, zero, suc, sym, ◌∙◌, subst}
use Rattle.pm_objects.specs.declared.calls.Operation.TheVariants.{Begin}
use Rattle.pm_tx.specs.Begins.{LevelBegun}
use Rattle.pm_exec.specs.Answers.{LineCame}
use Rattle.pm_exec.proofs.LineEnds.{came_inner, came_opened, level_is}
use Rattle.pm_exec.proofs.Spent.{begin_spent}
use Rattle.pm_exec.proofs.Stopping.{inner_unnumbered, outermost_unnumbered}
use Rattle.pm_exec.proofs.lines.begin.Goals as goal

pub begin-requires-clause-idle : goal.begin-requires-clause-idle
begin-requires-clause-idle g c going none = (c.requires.1.between going none).0

pub begin-requires-else-level-eq0-clause-work : goal.begin-requires-else-level-eq0-clause-work
begin-requires-else-level-eq0-clause-work g c none = (c.requires.1.work none).0

pub returns-then-level-eq0 : goal.returns-then-level-eq0
returns-then-level-eq0 g c zero h stands here =
    let at = g.M.LaneMem.at in
    let known = c.calls_are_known.ensures in
    let old = c.args.lane.now in
    let new = c.begin.new.lane in
    let wants = c.args.wants.now in
    let did = c.begin.ensures in
    let rests = known.resting old here in
    subst (LineCame at new (Begin wants) _ _ h) (sym c.opened.ensures)
    (came_opened at old new h wants c.begin.result here rests.0
    (known.begin_ wants c.begin.result old new h stands did)
    (known.begin_moves wants c.begin.result old new h stands did)
    (λ is. outermost_unnumbered at old new h stands wants rests.0 rests.1 rests.2
    (subst (λ r. LevelBegun at old new wants r) is did))
    (λ is. begin_spent at old new h stands rests.1 rests.2 wants rests.0
    (subst (λ r. LevelBegun at old new wants r) is did)))
returns-then-level-eq0 g c (suc n) h stands here =
    let clash : suc n ≡ 0 = sym (level_is c.args.lane.now (suc n) here)
    ∙ (sym c.level.ensures ∙ c.if-level-eq0.true) in
    absurd cc

pub returns-else-level-eq0 : goal.returns-else-level-eq0
returns-else-level-eq0 g c zero h stands here =
    absurd (c.if-level-eq0.false (c.level.ensures ∙ level_is c.args.lane.now 0 here))
returns-else-level-eq0 g c (suc n) h stands here =
    let at = g.M.LaneMem.at in
    let known = c.calls_are_known.ensures in
    let old = c.args.lane.now in
    let new = c.begin-else-level-eq0.new.lane in
    let wants = c.args.wants.now in
    let result = c.begin-else-level-eq0.result in
    let did = c.begin-else-level-eq0.ensures in
    let none = known.working old n here in
    subst (LineCame at new (Begin wants) _ _ h) (sym c.unreplied.ensures)
    (came_inner at old new h wants result n here none
    (known.begin_ wants result old new h stands did)
    (known.begin_moves wants result old new h stands did)
    (λ is. inner_unnumbered at old new h stands none wants
    (subst (λ r. LevelBegun at old new wants r) is did)))
