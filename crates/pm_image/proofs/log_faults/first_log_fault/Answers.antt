use Rattle.std.proofs.Common.{Some, None, sym, ◌∙◌}
use Rattle.pm_image.proofs.LogRows.{lane_row, entry_row, slot_row, clash_row}
use Rattle.pm_image.proofs.log_faults.first_log_fault.Goals as goal

pub returns-in-Some : goal.returns-in-Some
returns-in-Some c = lane_row c.args.image.now c.args.shape.lanes c.args.shape.zones c.in-Some.lane (sym c.first_bad_lane.ensures ∙ c.in-Some.is)

pub returns-in-Some-first_bad_entry : goal.returns-in-Some-first_bad_entry
returns-in-Some-first_bad_entry c =
    entry_row c.args.image.now c.args.shape.lanes c.args.shape.zones c.in-Some-first_bad_entry.n (sym c.first_bad_lane.ensures ∙ c.in_default.is) (sym c.first_bad_entry.ensures ∙ c.in-Some-first_bad_entry.is)

pub returns-in-Some-first_bad_slot : goal.returns-in-Some-first_bad_slot
returns-in-Some-first_bad_slot c =
    slot_row c.args.image.now c.args.shape.lanes c.args.shape.zones c.in-Some-first_bad_slot.n (sym c.first_bad_lane.ensures ∙ c.in_default.is) (sym c.first_bad_entry.ensures ∙ c.in_default-first_bad_entry.is)
    (sym c.first_bad_slot.ensures ∙ c.in-Some-first_bad_slot.is)

pub returns-in-Some-2 : goal.returns-in-Some-2
returns-in-Some-2 c =
    clash_row c.args.image.now c.args.shape.lanes c.args.shape.zones (Some c.in-Some-2.word) (sym c.first_bad_lane.ensures ∙ c.in_default.is) (sym c.first_bad_entry.ensures ∙ c.in_default-first_bad_entry.is)
    (sym c.first_bad_slot.ensures ∙ c.in_default-first_bad_slot.is) (sym (c.in_ok-word.ensures {u = tt}).first ∙ c.in-Some-2.is)

pub returns-in-None : goal.returns-in-None
returns-in-None c =
    clash_row c.args.image.now c.args.shape.lanes c.args.shape.zones None (sym c.first_bad_lane.ensures ∙ c.in_default.is) (sym c.first_bad_entry.ensures ∙ c.in_default-first_bad_entry.is)
    (sym c.first_bad_slot.ensures ∙ c.in_default-first_bad_slot.is) (sym (c.in_ok-word.ensures {u = tt}).first ∙ c.in-None.is)
