use Rattle.std.proofs.Common.{◌≡◌, ◌++◌, ◌∷◌, refl, ap, sym, ◌∙◌, subst}
use Rattle.solo_memory.specs.Solo.{Solo}
use Rattle.pm_objects.specs.declared.refusal.Refusal.TheVariants as refusal
use Rattle.solo_pending.specs.declared.pending.PendingActions.{PendingActions}
use Rattle.solo_world.specs.declared.lane.Lane.{Lane}
use Rattle.solo_exec.specs.Progress.{IsNotDone, not_done}
use Rattle.solo_exec.proofs.ActionLines.{cancel_cut, cancel_done}
use Rattle.solo_exec.proofs.AddAndWrite.{ends_so, unrefused, works_here}
use Rattle.solo_exec.proofs.actions.cancel_at.Goals as goal

pub cancel-requires : goal.cancel-requires
cancel-requires c =
    let s = c.requires.at_work.1 in
    let a = s.1.3 in
    let works = works_here s.1.0 s.1.1 c.args.lane.now c.args.blocks.now c.args.pending.now c.requires.at_work.0 s.1.2 s.0 a c.args.lane.now c.args.said.now in
    record { at_work = λ none. (s.1.0, a.header, a.pool, s.1.1, a.steps, a.view, record { works = works; work = a.works; listed = a.pending }) }

pub returns-in-Ok-clause-done : goal.returns-in-Ok-clause-done
returns-in-Ok-clause-done c o first names front values a =
    let old = c.args.lane.now in
    let new = c.cancel.new.lane in
    let e = c.in-Ok.ensures in
    let level = ap (λ (l : Lane Solo). l.level) e.lane ∙ a.level in
    let locks = ap (λ (l : Lane Solo). l.locks) e.lane in
    cancel_done o first old c.args.blocks.now c.args.pending.now names front values a new c.args.said.now c.requires.is_said (e.done o a.header a.pool first a.view a.steps (record { works = works_here o first old c.args.blocks.now c.args.pending.now names front values a new c.args.said.now; work = a.works; listed = a.pending })) c.cancel.new.pending e.none level locks

pub returns-in-Err-clause-ends : goal.returns-in-Err-clause-ends
returns-in-Err-clause-ends c o first names front rest values a =
    let old = c.args.lane.now in
    let blocks = c.args.blocks.now in
    let new = c.cancel.new.lane in
    let e = c.in-Err.ensures in
    let none = unrefused old a.works.work.unstopped a.level a.works.work.works in
    let is = e.stopped none in
    rw c.not_done.ensures
    (subst (λ (list : PendingActions). IsNotDone o first new blocks list names (front ++ c.args.said.now ∷ rest) values (not_done c.args.said.now.line c.in-Err.why)) (sym e.kept)
    (ends_so o first old blocks c.args.pending.now names front values a new c.args.said.now blocks rest values c.in-Err.why (λ spent. let clash : refusal.Stopped ≡ refusal.Spent = sym is ∙ spent in cc) refl
    (λ goes. absurd (goes is))
    (λ stops. cancel_cut o first old blocks c.args.pending.now names front values a new c.args.said.now c.requires.is_said rest (e.stops none o a.view a.works))))
