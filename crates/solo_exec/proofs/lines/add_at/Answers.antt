use Rattle.std.proofs.Common.{⊎_elim, refl, ap, sym, ◌∙◌}
use Rattle.solo_crash.specs.CallBlocks.{IsOldIn}
use Rattle.solo_crash.specs.Operations.{IsMade}
use Rattle.solo_memory.specs.Solo.{Solo}
use Rattle.pm_objects.specs.declared.calls.Operation.TheVariants as operation
use Rattle.pm_objects.specs.declared.refusal.Refusal.TheVariants as refusal
use Rattle.solo_world.specs.declared.lane.Lane.{Lane}
use Rattle.solo_exec.proofs.AddAndWrite.{add_cut, add_done, add_is, add_new_done, ends_so, given_up, not_spent, unrefused}
use Rattle.solo_exec.proofs.lines.add_at.Goals as goal

pub returns-in-Ok-clause-done : goal.returns-in-Ok-clause-done
returns-in-Ok-clause-done c o first actions front values a =
    let old = c.args.lane.now in
    let new = c.add_range.new.lane in
    let blocks = c.args.blocks.now in
    let place = c.id_of.result in
    let e = c.in-Ok.ensures in
    let level = ap (λ (l : Lane Solo). l.level) e.lane ∙ a.level in
    let locks = ap (λ (l : Lane Solo). l.locks) e.lane in
    ⊎_elim
    (λ (is_old : IsOldIn a.view place.off).
    add_done o first old blocks actions c.args.names front values a new c.args.said.now c.args.id place c.id_of.ensures c.args.off c.args.len c.requires.is_said (e.found o a.view a.works is_old) level locks)
    (λ (made : IsMade a.view place).
    add_new_done o first old blocks actions c.args.names front values a new c.args.said.now c.args.id place c.id_of.ensures c.args.off c.args.len c.requires.is_said made (e.made o a.view a.works made) level locks)
    (e.either o a.view a.works)

pub returns-in-Err-clause-ends : goal.returns-in-Err-clause-ends
returns-in-Err-clause-ends c o first actions front rest values a =
    let old = c.args.lane.now in
    let new = c.add_range.new.lane in
    let blocks = c.args.blocks.now in
    let r = c.in-Err.why in
    let place = c.id_of.result in
    let none = unrefused old a.works.work.unstopped a.level a.works.work.works in
    let is = c.requires.is_said in
    let names = c.args.names in
    let e = c.in-Err.ensures in
    let same = add_is o first old blocks actions names front values a new c.args.said.now c.args.id place c.id_of.ensures c.args.off c.args.len is in
    rw c.not_done.ensures
    (ends_so o first old blocks actions names front values a new c.args.said.now blocks rest values r (not_spent r refusal.LogFull (λ same. cc) (e.causes none)) refl
    (λ goes.
    let t = e.given_up none goes o a.view a.works in
    given_up o first old blocks actions names front values a new c.args.said.now (operation.AddRange place c.args.off c.args.len) same r t.loads t.view t.looks t.working t.holds.ended (e.given_up_lane none goes) (λ asked clashes. let clash = sym is ∙ clashes in cc) refl tt rest)
    (λ stops. add_cut o first old blocks actions names front values a new c.args.said.now c.args.id place c.id_of.ensures c.args.off c.args.len is rest (e.stopped none stops o a.view a.works)))
