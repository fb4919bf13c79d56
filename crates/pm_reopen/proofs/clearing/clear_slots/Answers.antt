use Rattle.std.proofs.Common.{◌≡◌, ℕ, cond, [], length, sym, ◌∙◌, ap, subst, arith}
use Rattle.std.specs.List.{flat_map, range_with_len}
use Rattle.pm_image.specs.Logs.{undo_slot}
use Rattle.pm_recover.specs.Recovery.{generation_after, is_stray}
use Rattle.pm_reopen.specs.Plan.{cleared_slot, strays}
use Rattle.pm_reopen.specs.Running.{Halts, Makes}
use Rattle.pm_reopen.proofs.Counting.{makes_long, makes_many}
use Rattle.pm_reopen.proofs.Making.{makes_none, parts_halt, parts_made, ran_error}
use Rattle.pm_reopen.proofs.Parts.{stray_calls, strays_by_number}
use Rattle.pm_reopen.proofs.Rooms.{few_cleared}
use Rattle.pm_reopen.proofs.clearing.clear_slots.Goals as goal

pub loop-slot-init : goal.loop-slot-init
loop-slot-init c = makes_none c.args.mem.now

pub clear_stray-requires-clause-words : goal.clear_stray-requires-clause-words
clear_stray-requires-clause-words c =
    makes_long c.args.mem.now c.loop-slot.mem (flat_map (stray_calls c.args.image.now c.args.lane) (range_with_len 0 c.loop-slot.slot)) c.loop-slot.invariant ∙ c.requires.words

pub clear_stray-requires-clause-room : goal.clear_stray-requires-clause-room
clear_stray-requires-clause-room c =
    let many = makes_many c.args.mem.now c.loop-slot.mem (flat_map (stray_calls c.args.image.now c.args.lane) (range_with_len 0 c.loop-slot.slot)) c.loop-slot.invariant in
    let low = c.loop-slot-test.true in
    let parts = few_cleared (λ slot. is_stray (generation_after c.args.image.now c.args.lane) (undo_slot c.args.image.now c.args.lane slot)) c.args.lane c.loop-slot.slot in
    let none = ap length c.requires.drained in
    omega (arith, many, parts, low, none)

pub returns-in_err-clear_stray : goal.returns-in_err-clear_stray
returns-in_err-clear_stray c =
    ran_error c.args.mem.now c.clear_stray.new.mem (flat_map (cleared_slot c.args.lane) (strays c.args.image.now c.args.lane)) c.from_residual.result c.from_residual.ensures.0
    (subst (Halts c.args.mem.now c.clear_stray.new.mem) (sym (strays_by_number c.args.image.now c.args.lane))
    (parts_halt (stray_calls c.args.image.now c.args.lane) c.args.mem.now c.loop-slot.mem c.clear_stray.new.mem c.loop-slot.slot 64 c.loop-slot-test.true c.loop-slot.invariant
    (subst (λ (g : ℕ). Halts c.loop-slot.mem c.clear_stray.new.mem (cond (is_stray g (undo_slot c.args.image.now c.args.lane c.loop-slot.slot)) (cleared_slot c.args.lane c.loop-slot.slot) [])) c.generation_after-generation.ensures c.in_err-clear_stray.ensures)))

pub loop-slot-preserved : goal.loop-slot-preserved
loop-slot-preserved c =
    parts_made (stray_calls c.args.image.now c.args.lane) c.args.mem.now c.loop-slot.mem c.clear_stray.new.mem c.loop-slot.slot c.loop-slot.invariant
    (subst (λ (g : ℕ). Makes c.loop-slot.mem c.clear_stray.new.mem (cond (is_stray g (undo_slot c.args.image.now c.args.lane c.loop-slot.slot)) (cleared_slot c.args.lane c.loop-slot.slot) [])) c.generation_after-generation.ensures c.in_ok-clear_stray.ensures)

pub returns : goal.returns
returns c =
    let end : c.loop-slot.slot ≡ 64 = (let past = c.loop-slot-test.false in let most = c.loop-slot.auto.slot-end in omega (arith, past, most)) in
    subst (Makes c.args.mem.now c.loop-slot.mem) (sym (strays_by_number c.args.image.now c.args.lane))
    (subst (λ (n : ℕ). Makes c.args.mem.now c.loop-slot.mem (flat_map (stray_calls c.args.image.now c.args.lane) (range_with_len 0 n))) end c.loop-slot.invariant)
