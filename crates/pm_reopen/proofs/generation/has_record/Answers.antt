use Rattle.std.proofs.Common.{sym, arith}
use Rattle.pm_recover.proofs.Slots.{no_records, slot_recorded, unrecorded}
use Rattle.pm_reopen.proofs.generation.has_record.Goals as goal

pub returns-then-is_some : goal.returns-then-is_some
returns-then-is_some c =
    sym (slot_recorded c.args.image.now c.args.lane c.loop-slot.slot c.valid_record.result (omega arith) c.valid_record.ensures (sym (c.if-is_some.ensures {u = tt})))

pub returns : goal.returns
returns c = sym (unrecorded c.args.image.now c.args.lane (no_records c.args.image.now c.args.lane (λ slot inside. c.loop-slot.invariant slot (omega arith))))
