use Rattle.std.proofs.Common.{rules, length, ap, ◌∙◌}
use Rattle.pm_record.proofs.Writing.{slot_written}
use Rattle.pm_record.proofs.undo.Undo.encode.Goals as goal

pub returns : goal.returns
returns c =
    let u = c.args.self.now in
    slot_written u c.args.slot.now c.copy_from_slice.new.self c.sum64.result c.requires (ap length c.copy_from_slice.ensures.after ∙ search rules) c.copy_from_slice.ensures.after c.sum64.ensures
