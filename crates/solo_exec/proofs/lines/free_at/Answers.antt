use Rattle.std.proofs.Common.{refl, ap, sym, ◌∙◌, ◌∷◌, ◌++◌, subst}
use Rattle.solo_made.specs.Made.{BlockLists}
use Rattle.solo_memory.specs.Solo.{Solo}
use Rattle.pm_objects.specs.declared.calls.Operation.TheVariants as operation
use Rattle.solo_world.specs.declared.lane.Lane.{Lane}
use Rattle.solo_exec.proofs.AddAndWrite.{ends_so, given_up, unrefused}
use Rattle.solo_exec.proofs.FreeLine.{free_cut, free_done, free_is, free_not_spent}
use Rattle.solo_exec.specs.Progress.{IsGivenUpAt}
use Rattle.solo_exec.proofs.lines.free_at.Goals as goal

pub returns-in-Ok-clause-done : goal.returns-in-Ok-clause-done
returns-in-Ok-clause-done c o first actions front values a =
    let old = c.args.lane.now in
    let new = c.free.new.lane in
    let e = c.in-Ok.ensures in
    let level = ap (λ (l : Lane Solo). l.level) e.lane ∙ a.level in
    let locks = ap (λ (l : Lane Solo). l.locks) e.lane in
    free_done o first old c.args.blocks.now actions c.args.names front values a new c.args.said.now c.args.id c.id_of.result c.id_of.ensures c.requires.is_said c.free.new.blocks (e.done o a.view a.works) level locks

pub returns-in-Err-clause-ends : goal.returns-in-Err-clause-ends
returns-in-Err-clause-ends c o first actions front rest values a =
    let old = c.args.lane.now in
    let new = c.free.new.lane in
    let blocks = c.args.blocks.now in
    let now = c.free.new.blocks in
    let said = c.args.said.now in
    let r = c.in-Err.why in
    let place = c.id_of.result in
    let none = unrefused old a.works.work.unstopped a.level a.works.work.works in
    let is = c.requires.is_said in
    let names = c.args.names in
    let e = c.in-Err.ensures in
    let same = free_is o first old blocks actions names front values a new said c.args.id place c.id_of.ensures is in
    rw c.not_done.ensures
    (ends_so o first old blocks actions names front values a new said now rest values r (free_not_spent r (e.causes none)) refl
    (λ goes.
    let t = e.given_up none goes o a.view a.works in
    subst (λ (b : BlockLists). IsGivenUpAt o first new b actions names (front ++ said ∷ rest) values said.line r) (sym e.unlisted)
    (given_up o first old blocks actions names front values a new said (operation.Free place) same r t.loads t.view t.looks t.working t.holds.ended (e.given_up_lane none goes) (λ asked clashes. let clash = sym is ∙ clashes in cc) refl tt rest))
    (λ stops. free_cut o first old blocks actions names front values a new said c.args.id place c.id_of.ensures is rest (e.stopped none stops o a.view a.works)))
