use Rattle.std.proofs.Common.{◌≡◌, ℕ, length, map, sym, ◌∙◌, ap, subst, arith}
use Rattle.std.specs.List.{flat_map, range_with_len}
use Rattle.pm_image.specs.Logs.{records}
use Rattle.pm_reopen.specs.Plan.{restores}
use Rattle.pm_reopen.specs.Plan.MemoryCall.{Change}
use Rattle.pm_reopen.specs.Running.{Halts, Makes}
use Rattle.pm_reopen.proofs.Counting.{makes_long, makes_many}
use Rattle.pm_reopen.proofs.Making.{makes_none, parts_halt, parts_made, ran_error}
use Rattle.pm_reopen.proofs.Parts.{records_by_slot, slot_calls}
use Rattle.pm_reopen.proofs.Rooms.{few_restored}
use Rattle.pm_reopen.proofs.writing.restore_records.Goals as goal

pub loop-slot-init : goal.loop-slot-init
loop-slot-init c = makes_none c.args.mem.now

pub restore_slot-requires-clause-words : goal.restore_slot-requires-clause-words
restore_slot-requires-clause-words c =
    makes_long c.args.mem.now c.loop-slot.mem (flat_map (slot_calls c.args.image.now c.args.lane) (range_with_len 0 c.loop-slot.slot)) c.loop-slot.invariant ∙ c.requires.words

pub restore_slot-requires-clause-room : goal.restore_slot-requires-clause-room
restore_slot-requires-clause-room c =
    let many = makes_many c.args.mem.now c.loop-slot.mem (flat_map (slot_calls c.args.image.now c.args.lane) (range_with_len 0 c.loop-slot.slot)) c.loop-slot.invariant in
    let low = c.loop-slot-test.true in
    let parts = few_restored c.args.image.now c.args.lane c.loop-slot.slot c.requires.sound (omega (arith, low)) in
    let none = ap length c.requires.drained in
    omega (arith, many, parts, low, none)

pub returns-in_err-restore_slot : goal.returns-in_err-restore_slot
returns-in_err-restore_slot c =
    ran_error c.args.mem.now c.restore_slot.new.mem (map Change (flat_map restores (records c.args.image.now c.args.lane))) c.from_residual.result c.from_residual.ensures.0
    (subst (Halts c.args.mem.now c.restore_slot.new.mem) (sym (records_by_slot c.args.image.now c.args.lane))
    (parts_halt (slot_calls c.args.image.now c.args.lane) c.args.mem.now c.loop-slot.mem c.restore_slot.new.mem c.loop-slot.slot 64 c.loop-slot-test.true c.loop-slot.invariant c.in_err-restore_slot.ensures))

pub loop-slot-preserved : goal.loop-slot-preserved
loop-slot-preserved c =
    parts_made (slot_calls c.args.image.now c.args.lane) c.args.mem.now c.loop-slot.mem c.restore_slot.new.mem c.loop-slot.slot c.loop-slot.invariant c.in_ok-restore_slot.ensures

pub returns : goal.returns
returns c =
    let end : c.loop-slot.slot ≡ 64 = omega arith in
    subst (Makes c.args.mem.now c.loop-slot.mem) (sym (records_by_slot c.args.image.now c.args.lane))
    (subst (λ (n : ℕ). Makes c.args.mem.now c.loop-slot.mem (flat_map (slot_calls c.args.image.now c.args.lane) (range_with_len 0 n))) end c.loop-slot.invariant)
