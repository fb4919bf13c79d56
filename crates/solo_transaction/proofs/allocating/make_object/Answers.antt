use Rattle.std.proofs.Common.{◌≡◌, inl, inr, sym, subst}
use Rattle.pm_layout.specs.Sizes.{class_of}
use Rattle.pm_objects.specs.declared.refusal.Refusal.{Refusal}
use Rattle.pm_objects.specs.declared.refusal.Refusal.TheVariants as refusal
use Rattle.solo_alloc.specs.NewObjects.{GivesNoObject}
use Rattle.solo_transaction.proofs.Made.{made_and_told}
use Rattle.solo_transaction.proofs.NewOffsets.{new_fits, new_inside}
use Rattle.solo_transaction.proofs.RefusedAllocs.{refused_for_room}
use Rattle.solo_transaction.proofs.NoSpace.{answered_or_stopped, given_up, stopped_giving_up, stopped_making, works_still}
use Rattle.solo_transaction.specs.Allocating.{IsAllocGivenUp}
use Rattle.solo_transaction.proofs.allocating.make_object.Goals as goal

pub tell_made-requires-clause-may : goal.tell_made-requires-clause-may
tell_made-requires-clause-may g c =
    let may = c.requires.at_work.1.1 in
    let next = c.in-Ok.ensures.next c.requires.at_work.1.0 may.works.work.seen.memory may.can in
    (next.0, (next.1.0, next.1.1.run.working))

pub tell_made-requires-clause-fits : goal.tell_made-requires-clause-fits
tell_made-requires-clause-fits g c =
    let v = c.requires.at_work.1.0 in
    let may = c.requires.at_work.1.1 in
    new_fits (g.M.LaneMem.at c.new_object.new.lane.memory) v c.args.size c.args.kind c.in-Ok.block _ (c.in-Ok.ensures.got v may.works.work.seen.memory may.can) c.requires.most may.works.pages

pub tell_made-requires-clause-inside : goal.tell_made-requires-clause-inside
tell_made-requires-clause-inside g c =
    let v = c.requires.at_work.1.0 in
    let may = c.requires.at_work.1.1 in
    new_inside c.requires.at_work.0 g.M.LaneMem.at c.args.lane.now c.args.blocks.now v may (g.M.LaneMem.at c.new_object.new.lane.memory) c.args.size c.args.kind c.in-Ok.block
    (c.in-Ok.ensures.got v may.works.work.seen.memory may.can)

pub refuse-requires : goal.refuse-requires
refuse-requires g c = record {
  at_work = λ stays.
      let o = c.requires.at_work.0 in
      let v = c.requires.at_work.1.0 in
      let may = c.requires.at_work.1.1 in
      let none = subst (GivesNoObject (g.M.LaneMem.at c.new_object.new.lane.memory) v c.args.size c.args.kind) c.in-Err-Refused.field-0-is (c.in-Err-Refused.ensures.none v may.works.work.seen.memory may.can) in
      let works = works_still o g.M.LaneMem.at c.args.lane.now c.args.blocks.now v may c.args.size c.args.kind c.in-Err-Refused.why c.new_object.new.lane c.new_object.ensures.else_same none in
      (o, works);
}

pub returns-in-Ok-clause-done : goal.returns-in-Ok-clause-done
returns-in-Ok-clause-done g c o v may =
    made_and_told o g.M.LaneMem.at c.args.lane.now c.args.blocks.now v may c.args.size c.args.kind c.in-Ok.block c.requires.some c.requires.most (c.requires.room o v may.works)
    c.new_object.new.lane c.new_object.ensures.else_same (c.in-Ok.ensures.got v may.works.work.seen.memory may.can)
    c.tell_made.new.lane c.tell_made.ensures.else_same c.tell_made.new.blocks c.tell_made.ensures.listed c.tell_made.ensures.of_call c.tell_made.ensures.told c.tell_made.result c.tell_made.ensures.id

pub returns-in-Err-Refused-clause-given_up : goal.returns-in-Err-Refused-clause-given_up
returns-in-Err-Refused-clause-given_up g c stays o v may =
    let at = g.M.LaneMem.at in
    let none = subst (GivesNoObject (g.M.LaneMem.at c.new_object.new.lane.memory) v c.args.size c.args.kind) c.in-Err-Refused.field-0-is (c.in-Err-Refused.ensures.none v may.works.work.seen.memory may.can) in
    subst (λ (r : Refusal). IsAllocGivenUp at c.refuse.new.lane v c.args.lane.now.records.items c.args.size c.args.kind r) (sym (c.refuse.ensures.answer stays))
    (given_up o at c.args.lane.now c.args.blocks.now v may c.args.size c.args.kind c.in-Err-Refused.why c.new_object.new.lane c.new_object.ensures.else_same none c.requires.some c.requires.most (c.requires.room o v may.works)
    c.refuse.new.lane (λ w work gives. c.refuse.ensures.ended stays o w work gives))

pub returns-in-Err-Refused-clause-stopped : goal.returns-in-Err-Refused-clause-stopped
returns-in-Err-Refused-clause-stopped g c stopped o v may =
    let at = g.M.LaneMem.at in
    let none = subst (GivesNoObject (g.M.LaneMem.at c.new_object.new.lane.memory) v c.args.size c.args.kind) c.in-Err-Refused.field-0-is (c.in-Err-Refused.ensures.none v may.works.work.seen.memory may.can) in
    inr (stopped_giving_up o at c.args.lane.now c.args.blocks.now v may c.args.size c.args.kind c.in-Err-Refused.why c.new_object.new.lane c.new_object.ensures.else_same none c.requires.some c.requires.most (c.requires.room o v may.works)
    c.refuse.new.lane (λ w work other gives. c.refuse.ensures.stops other stopped o w work gives))

pub returns-in-Err-Refused-clause-causes : goal.returns-in-Err-Refused-clause-causes
returns-in-Err-Refused-clause-causes g c =
    let v = c.requires.at_work.1.0 in
    let may = c.requires.at_work.1.1 in
    let none = subst (GivesNoObject (g.M.LaneMem.at c.new_object.new.lane.memory) v c.args.size c.args.kind) c.in-Err-Refused.field-0-is (c.in-Err-Refused.ensures.none v may.works.work.seen.memory may.can) in
    let is : c.in-Err-Refused.why ≡ refusal.NoSpace = refused_for_room (g.M.LaneMem.at c.new_object.new.lane.memory) v (class_of c.args.size) c.in-Err-Refused.why none in
    answered_or_stopped c.in-Err-Refused.why c.refuse.result is c.refuse.ensures.answer

pub returns-in-Err-Stopped-clause-stopped : goal.returns-in-Err-Stopped-clause-stopped
returns-in-Err-Stopped-clause-stopped g c stopped o v may =
    inl (stopped_making g.M.LaneMem.at c.args.lane.now c.new_object.new.lane c.stop.new.lane v c.args.size c.args.kind c.in-Err-Stopped.field-0 c.in-Err-Stopped.field-0-0 c.in-Err-Stopped.field-0-is
    (c.in-Err-Stopped.ensures.none v may.works.work.seen.memory may.can) c.new_object.ensures.else_same c.stop.ensures.lane)
