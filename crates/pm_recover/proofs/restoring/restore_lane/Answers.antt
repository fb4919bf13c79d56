use Rattle.std.proofs.Common.{◌-◌, arith}
use Rattle.pm_recover.proofs.PutBack.{all_slots, slot_more, sound_behind_slot}
use Rattle.pm_recover.proofs.restoring.restore_lane.Goals as goal

pub restore_slot-requires-clause-sound : goal.restore_slot-requires-clause-sound
restore_slot-requires-clause-sound c =
    let from = c.loop-slot.slot in
    sound_behind_slot c.args.image.now c.loop-slot.image c.args.lane from (64 - from) c.requires (omega arith) c.loop-slot.invariant

pub loop-slot-preserved : goal.loop-slot-preserved
loop-slot-preserved c =
    let from = c.loop-slot.slot in
    slot_more c.args.image.now c.loop-slot.image c.restore_slot.new.image c.args.lane (from - 1) from (64 - from) (64 - (from - 1)) (omega arith) (omega arith) c.requires (omega arith)
    c.loop-slot.invariant c.restore_slot.ensures

pub returns : goal.returns
returns c =
    let from = c.loop-slot.slot in
    all_slots c.args.image.now c.loop-slot.image c.args.lane from (64 - from) (omega arith) (omega arith) c.loop-slot.invariant
