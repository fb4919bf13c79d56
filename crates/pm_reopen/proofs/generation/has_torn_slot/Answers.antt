use Rattle.std.proofs.Common.{ℕ, Bool, not, sym, ap, arith}
use Rattle.pm_record.specs.Undo.{is_record}
use Rattle.pm_image.specs.Logs.{undo_slot}
use Rattle.pm_image.proofs.Ranges.{all_more, all_fails, all_at_end}
use Rattle.pm_recover.specs.Recovery.{has_torn_slot}
use Rattle.pm_recover.proofs.Slots.{sum_is}
use Rattle.pm_reopen.proofs.generation.has_torn_slot.Goals as goal

pub returns-then-is_none : goal.returns-then-is_none
unfolding has_torn_slot
returns-then-is_none c =
    let whole : ℕ → Bool = λ slot. is_record (undo_slot c.args.image.now c.args.lane slot) in
    sym (ap not (all_fails whole 64 c.loop-slot.slot (omega arith) (sum_is (undo_slot c.args.image.now c.args.lane c.loop-slot.slot) c.record_in_slot.result _ c.record_in_slot.ensures (c.if-is_none.ensures {u = tt}))))

pub loop-slot-preserved : goal.loop-slot-preserved
loop-slot-preserved c =
    let whole : ℕ → Bool = λ slot. is_record (undo_slot c.args.image.now c.args.lane slot) in
    all_more whole c.loop-slot.slot c.loop-slot.invariant (sum_is (undo_slot c.args.image.now c.args.lane c.loop-slot.slot) c.record_in_slot.result _ c.record_in_slot.ensures (c.if-is_none.ensures {u = tt}))

pub returns : goal.returns
unfolding has_torn_slot
returns c =
    let whole : ℕ → Bool = λ slot. is_record (undo_slot c.args.image.now c.args.lane slot) in
    sym (ap not (all_at_end whole 64 c.loop-slot.slot (omega arith) c.loop-slot.invariant))
