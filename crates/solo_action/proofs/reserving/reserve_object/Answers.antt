use Rattle.std.proofs.Common.{◌≡◌, ◌∙◌, subst, sym}
use Rattle.pm_layout.specs.Sizes.{class_of}
use Rattle.pm_objects.specs.declared.refusal.Refusal.TheVariants as refusal
use Rattle.solo_alloc.specs.NewObjects.{GivesNoObject}
use Rattle.solo_transaction.proofs.RefusedAllocs.{refused_for_room}
use Rattle.solo_action.proofs.ReservedBegun.{made_begun, no_space_refused, reserved_begun, searched_begun}
use Rattle.solo_action.proofs.ReservesOutside.{new_is_low}
use Rattle.solo_action.proofs.reserving.reserve_object.Goals as goal

pub end_reserved-requires-clause-begun : goal.end_reserved-requires-clause-begun
end_reserved-requires-clause-begun g c =
    let w = c.requires.begun.0 in let b = c.requires.begun.1.0 in (
      _,
      made_begun g.M.LaneMem.at c.args.lane.now c.new_object.new.lane w b g.met.M.ReservedMem.counts c.new_object.ensures.else_same c.args.size c.args.kind c.in-Ok.block (c.in-Ok.ensures.got w b.begun.seen.memory b.world.5.outside.can),
    )

pub end_reserved-requires-clause-inside : goal.end_reserved-requires-clause-inside
end_reserved-requires-clause-inside g c =
    let w = c.requires.begun.0 in let b = c.requires.begun.1.0 in let can = b.world.5.outside.can in
    new_is_low w c.args.lane.now.shape can (g.M.LaneMem.at c.new_object.new.lane.memory) c.args.size c.args.kind c.in-Ok.block c.requires.most (c.in-Ok.ensures.got w b.begun.seen.memory can)

pub end_refused-requires-clause-begun : goal.end_refused-requires-clause-begun
end_refused-requires-clause-begun g c =
    let w = c.requires.begun.0 in let b = c.requires.begun.1.0 in
    let none = subst (GivesNoObject (g.M.LaneMem.at c.new_object.new.lane.memory) w c.args.size c.args.kind) c.in-Err-Refused.field-0-is (c.in-Err-Refused.ensures.none w b.begun.seen.memory b.world.5.outside.can) in
    searched_begun g.M.LaneMem.at c.args.lane.now c.new_object.new.lane w b g.met.M.ReservedMem.counts c.new_object.ensures.else_same c.args.size c.args.kind c.in-Err-Refused.why none

pub returns-in-Ok-clause-done : goal.returns-in-Ok-clause-done
returns-in-Ok-clause-done g c w b are =
    reserved_begun g.M.LaneMem.at c.args.lane.now c.new_object.new.lane w b g.met.M.ReservedMem.counts c.new_object.ensures.else_same c.args.size c.args.kind c.in-Ok.block (c.in-Ok.ensures.got w b.begun.seen.memory b.world.5.outside.can)
    c.requires.some c.requires.most (c.requires.room _ are) c.end_reserved.new.lane c.end_reserved.ensures.rests c.args.pending.now c.end_reserved.new.pending are c.end_reserved.ensures.listed c.end_reserved.result c.end_reserved.ensures.id

pub returns-in-Err-Refused-clause-refuses : goal.returns-in-Err-Refused-clause-refuses
returns-in-Err-Refused-clause-refuses g c other w b are =
    let none = subst (GivesNoObject (g.M.LaneMem.at c.new_object.new.lane.memory) w c.args.size c.args.kind) c.in-Err-Refused.field-0-is (c.in-Err-Refused.ensures.none w b.begun.seen.memory b.world.5.outside.can) in
    no_space_refused g.M.LaneMem.at c.args.lane.now c.new_object.new.lane w b g.met.M.ReservedMem.counts c.new_object.ensures.else_same c.args.size c.args.kind c.in-Err-Refused.why none
    c.requires.some c.requires.most (c.requires.room _ are) c.end_refused.new.lane c.end_refused.ensures.rests

pub returns-in-Err-Refused-clause-stops : goal.returns-in-Err-Refused-clause-stops
returns-in-Err-Refused-clause-stops g c stopped w b =
    let none = subst (GivesNoObject (g.M.LaneMem.at c.new_object.new.lane.memory) w c.args.size c.args.kind) c.in-Err-Refused.field-0-is (c.in-Err-Refused.ensures.none w b.begun.seen.memory b.world.5.outside.can) in
    let is : c.in-Err-Refused.why ≡ refusal.Stopped = cc in
    let clash : refusal.NoSpace ≡ refusal.Stopped = sym (refused_for_room (g.M.LaneMem.at c.new_object.new.lane.memory) w (class_of c.args.size) c.in-Err-Refused.why none) ∙ is in
    absurd cc

pub returns-in-Err-Stopped-clause-stops : goal.returns-in-Err-Stopped-clause-stops
returns-in-Err-Stopped-clause-stops g c stopped w b =
    (c.in-Err-Stopped.field-0-0, subst (GivesNoObject (g.M.LaneMem.at c.new_object.new.lane.memory) w c.args.size c.args.kind) c.in-Err-Stopped.field-0-is (c.in-Err-Stopped.ensures.none w b.begun.seen.memory b.world.5.outside.can))
