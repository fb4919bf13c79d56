use Rattle.std.proofs.Common.{List, subst}
use Rattle.pm_record.specs.declared.redo.Redo.{Redo}
use Rattle.pm_recover.specs.Steps.{AreApplied}
use Rattle.pm_recover.proofs.Recovered.{recovered_made, same_areas}
use Rattle.pm_recover.proofs.PutBack.{sound_too}
use Rattle.pm_recover.proofs.recovering.recover_lanes.Goals as goal

pub settle_lanes-requires : goal.settle_lanes-requires
settle_lanes-requires c =
    let applied = subst (λ (es : List Redo). AreApplied es c.args.lanes c.restore_all.new.image c.apply_all.new.image) c.requires.entries c.apply_all.ensures in
    sound_too c.args.image.now c.apply_all.new.image c.args.lanes c.requires.sound (same_areas c.args.image.now c.restore_all.new.image c.apply_all.new.image c.args.lanes c.requires.sound c.restore_all.ensures applied)

pub returns : goal.returns
returns c =
    let applied = subst (λ (es : List Redo). AreApplied es c.args.lanes c.restore_all.new.image c.apply_all.new.image) c.requires.entries c.apply_all.ensures in
    recovered_made c.args.image.now c.restore_all.new.image c.apply_all.new.image c.settle_lanes.new.image c.clear_strays.new.image c.args.lanes c.requires.sound c.requires.apart c.restore_all.ensures applied c.settle_lanes.ensures c.clear_strays.ensures
