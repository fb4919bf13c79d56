use Rattle.std.proofs.Common.{Bool, cond, [], sym, ◌∙◌, subst, arith}
use Rattle.pm_image.specs.Logs.{undo_slot}
use Rattle.pm_recover.specs.Recovery.{is_stray}
use Rattle.pm_reopen.specs.Plan.{cleared_slot}
use Rattle.pm_reopen.specs.Running.{Halts, Makes}
use Rattle.pm_reopen.proofs.Making.{makes_none, ran_error}
use Rattle.pm_reopen.proofs.clearing.clear_stray.Goals as goal

pub clear_slot-requires-clause-lane : goal.clear_slot-requires-clause-lane
clear_slot-requires-clause-lane c = let fit = c.requires.lanes.lanes_fit in omega (arith, fit)

pub clear_slot-requires-clause-words : goal.clear_slot-requires-clause-words
clear_slot-requires-clause-words c =
    let areas = c.requires.lanes.areas in
    let same = c.requires.words in
    let few = c.requires.slot in
    omega (arith, areas, same, few)

pub clear_slot-requires-clause-small : goal.clear_slot-requires-clause-small
clear_slot-requires-clause-small c = let small = c.requires.lanes.small in let same = c.requires.words in omega (arith, small, same)

pub returns-in_err-clear_slot : goal.returns-in_err-clear_slot
returns-in_err-clear_slot c =
    ran_error c.args.mem.now c.clear_slot.new.mem (cond (is_stray c.args.generation (undo_slot c.args.image.now c.args.lane c.args.slot)) (cleared_slot c.args.lane c.args.slot) []) c.from_residual.result c.from_residual.ensures.0
    (subst (λ (b : Bool). Halts c.args.mem.now c.clear_slot.new.mem (cond b (cleared_slot c.args.lane c.args.slot) [])) (sym (sym c.is_stray.ensures ∙ c.if-is_stray.true)) c.in_err-clear_slot.ensures)

pub returns-in_ok-clear_slot : goal.returns-in_ok-clear_slot
returns-in_ok-clear_slot c =
    subst (λ (b : Bool). Makes c.args.mem.now c.clear_slot.new.mem (cond b (cleared_slot c.args.lane c.args.slot) [])) (sym (sym c.is_stray.ensures ∙ c.if-is_stray.true)) c.in_ok-clear_slot.ensures

pub returns-else-is_stray : goal.returns-else-is_stray
returns-else-is_stray c =
    subst (λ (b : Bool). Makes c.args.mem.now c.args.mem.now (cond b (cleared_slot c.args.lane c.args.slot) [])) (sym (sym c.is_stray.ensures ∙ c.if-is_stray.false)) (makes_none c.args.mem.now)
