use Rattle.std.proofs.Common.{◌++◌, ◌∷◌, refl, ap, sym, ◌∙◌, subst}
use Rattle.solo_made.specs.Made.{BlockLists}
use Rattle.solo_memory.specs.Solo.{Solo}
use Rattle.solo_pending.specs.declared.pending.PendingActions.{PendingActions}
use Rattle.solo_world.specs.declared.lane.Lane.{Lane}
use Rattle.solo_exec.specs.Progress.{IsNotDone, not_done}
use Rattle.solo_exec.proofs.ActionLines.{publish_cut, publish_done, publish_not_spent, publish_over}
use Rattle.solo_exec.proofs.AddAndWrite.{ends_so, unrefused}
use Rattle.solo_exec.proofs.actions.publish_at.Goals as goal

pub publish-requires-clause-at_work : goal.publish-requires-clause-at_work
publish-requires-clause-at_work c none = let s = c.requires.at_work.1.1 in (s.0, (s.3.view, (s.3.works, s.3.pending)))

pub publish-requires-clause-aligned : goal.publish-requires-clause-aligned
publish-requires-clause-aligned c = let s = c.requires.at_work.1.1 in s.3.pending.aligned

pub returns-in-Ok-clause-done : goal.returns-in-Ok-clause-done
returns-in-Ok-clause-done c o first names front values a =
    let old = c.args.lane.now in
    let new = c.publish.new.lane in
    let e = c.in-Ok.ensures in
    let level = ap (λ (l : Lane Solo). l.level) e.lane ∙ a.level in
    let locks = ap (λ (l : Lane Solo). l.locks) e.lane in
    publish_done o first old c.args.blocks.now c.args.pending.now names front values a new c.args.said.now c.requires.is_said c.publish.new.blocks (e.done o a.view a.works a.pending) c.publish.new.pending e.emptied level locks

pub returns-in-Err-clause-ends : goal.returns-in-Err-clause-ends
returns-in-Err-clause-ends c o first names front rest values a =
    let old = c.args.lane.now in
    let blocks = c.args.blocks.now in
    let new = c.publish.new.lane in
    let e = c.in-Err.ensures in
    let r = c.in-Err.why in
    let none = unrefused old a.works.work.unstopped a.level a.works.work.works in
    let is = c.requires.is_said in
    rw c.not_done.ensures
    (subst (λ (list : PendingActions). IsNotDone o first new c.publish.new.blocks list names (front ++ c.args.said.now ∷ rest) values (not_done c.args.said.now.line r)) (sym e.kept)
    (subst (λ (b : BlockLists). IsNotDone o first new b c.args.pending.now names (front ++ c.args.said.now ∷ rest) values (not_done c.args.said.now.line r)) (sym e.unlisted)
    (ends_so o first old blocks c.args.pending.now names front values a new c.args.said.now blocks rest values r (publish_not_spent r (e.causes none)) refl
    (λ goes. publish_over o first old blocks c.args.pending.now names front values a new c.args.said.now is r (e.given_up none goes o a.view a.works a.pending) (e.given_up_lane none goes) rest)
    (λ stops. publish_cut o first old blocks c.args.pending.now names front values a new c.args.said.now is rest (e.stopped none stops o a.view a.works a.pending)))))
