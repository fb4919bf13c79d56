use Rattle.std.proofs.Common.{◌≡◌, refl, sym, ◌∙◌, subst}
use Rattle.pm_layout.specs.Sizes.{class_of}
use Rattle.pm_objects.specs.declared.refusal.Refusal.TheVariants as refusal
use Rattle.solo_alloc.specs.NewObjects.{GivesNoObject}
use Rattle.solo_transaction.proofs.MadeReserved.{reserved_and_told}
use Rattle.solo_transaction.proofs.NewOffsets.{new_inside}
use Rattle.solo_transaction.proofs.NoSpace.{stopped_making}
use Rattle.solo_transaction.proofs.RefusedAllocs.{refused_for_room}
use Rattle.solo_transaction.proofs.RefusedReserves.{no_space_refused, works_searched}
use Rattle.solo_transaction.proofs.reserving.reserve_object.Goals as goal

pub tell_reserved-requires-clause-may : goal.tell_reserved-requires-clause-may
tell_reserved-requires-clause-may g c =
    let may = c.requires.at_work.1.1 in
    let next = c.in-Ok.ensures.next c.requires.at_work.1.0 may.works.work.seen.memory may.can in
    (next.0, (next.1.0, next.1.1.run.working))

pub tell_reserved-requires-clause-inside : goal.tell_reserved-requires-clause-inside
tell_reserved-requires-clause-inside g c =
    let v = c.requires.at_work.1.0 in
    let may = c.requires.at_work.1.1 in
    new_inside c.requires.at_work.0 g.M.LaneMem.at c.args.lane.now c.args.blocks.now v may (g.M.LaneMem.at c.new_object.new.lane.memory) c.args.size c.args.kind c.in-Ok.block
    (c.in-Ok.ensures.got v may.works.work.seen.memory may.can)

pub tell_refused-requires : goal.tell_refused-requires
tell_refused-requires g c =
    let o = c.requires.at_work.0 in
    let v = c.requires.at_work.1.0 in
    let may = c.requires.at_work.1.1 in
    let none = subst (GivesNoObject (g.M.LaneMem.at c.new_object.new.lane.memory) v c.args.size c.args.kind) c.in-Err-Refused.field-0-is (c.in-Err-Refused.ensures.none v may.works.work.seen.memory may.can) in
    let works = works_searched o g.M.LaneMem.at c.args.lane.now c.new_object.new.lane c.args.blocks.now v may c.args.size c.args.kind c.in-Err-Refused.why c.new_object.ensures.else_same none in
    record { may = (_, (works.work.seen.memory, works.work.working)) }

pub returns-in-Ok-clause-done : goal.returns-in-Ok-clause-done
returns-in-Ok-clause-done g c o v may are =
    reserved_and_told o g.M.LaneMem.at c.args.lane.now c.args.blocks.now v may c.args.size c.args.kind c.in-Ok.block c.requires.some c.requires.most (c.requires.room _ are)
    c.new_object.new.lane c.new_object.ensures.else_same (c.in-Ok.ensures.got v may.works.work.seen.memory may.can)
    c.tell_reserved.new.lane c.tell_reserved.ensures.else_same c.args.pending.now c.tell_reserved.new.pending are c.tell_reserved.ensures.listed c.tell_reserved.ensures.told c.tell_reserved.result c.tell_reserved.ensures.id

pub returns-in-Err-Refused-clause-refuses : goal.returns-in-Err-Refused-clause-refuses
returns-in-Err-Refused-clause-refuses g c stays o v may are =
    let none = subst (GivesNoObject (g.M.LaneMem.at c.new_object.new.lane.memory) v c.args.size c.args.kind) c.in-Err-Refused.field-0-is (c.in-Err-Refused.ensures.none v may.works.work.seen.memory may.can) in
    no_space_refused o g.M.LaneMem.at c.args.lane.now c.new_object.new.lane c.args.blocks.now v may c.args.size c.args.kind c.in-Err-Refused.why c.new_object.ensures.else_same none
    c.requires.some c.requires.most (c.requires.room _ are) (record c.new_object.new.lane { memory = c.tell_refused.new.mem }) refl c.tell_refused.ensures.told

pub returns-in-Err-Refused-clause-stopped : goal.returns-in-Err-Refused-clause-stopped
returns-in-Err-Refused-clause-stopped g c stopped o v may =
    let none = subst (GivesNoObject (g.M.LaneMem.at c.new_object.new.lane.memory) v c.args.size c.args.kind) c.in-Err-Refused.field-0-is (c.in-Err-Refused.ensures.none v may.works.work.seen.memory may.can) in
    let clash : refusal.NoSpace ≡ refusal.Stopped = sym (refused_for_room (g.M.LaneMem.at c.new_object.new.lane.memory) v (class_of c.args.size) c.in-Err-Refused.why none) ∙ stopped in
    absurd cc

pub returns-in-Err-Stopped-clause-stopped : goal.returns-in-Err-Stopped-clause-stopped
returns-in-Err-Stopped-clause-stopped g c stopped o v may =
    stopped_making g.M.LaneMem.at c.args.lane.now c.new_object.new.lane c.stop.new.lane v c.args.size c.args.kind c.in-Err-Stopped.field-0 c.in-Err-Stopped.field-0-0 c.in-Err-Stopped.field-0-is
    (c.in-Err-Stopped.ensures.none v may.works.work.seen.memory may.can) c.new_object.ensures.else_same c.stop.ensures.lane
