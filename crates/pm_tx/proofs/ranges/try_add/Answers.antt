use Rattle.std.proofs.Common.{refl, true}
use Rattle.pm_objects.specs.declared.calls.Operation.TheVariants.{AddRange}
use Rattle.pm_call.specs.Adding.{HasCounted}
use Rattle.pm_call.specs.Plans.{adds}
use Rattle.pm_call.specs.Ranges.{HasSeen}
use Rattle.pm_call.proofs.Calls.{checked_so, tried_err, tried_then}
use Rattle.pm_tx.proofs.ranges.try_add.Goals as goal

pub do_add-requires : goal.do_add-requires
do_add-requires g c =
    checked_so g.M.LaneMem.at c.args.lane.now c.check_words.new.lane c.check_words.new.lane (AddRange c.args.id c.args.off c.args.len) (λ s (done : Unit {0}). HasSeen s c.args.id c.args.off c.args.len true) tt c.requires
    (c.in-Ok.ensures (AddRange c.args.id c.args.off c.args.len) (refl, refl, refl, refl))

pub returns-in-Ok : goal.returns-in-Ok
returns-in-Ok g c =
    tried_then g.M.LaneMem.at c.args.lane.now c.check_words.new.lane c.do_add.new.lane (AddRange c.args.id c.args.off c.args.len) (λ s (done : Unit {0}). HasSeen s c.args.id c.args.off c.args.len true) (λ v. adds c.args.id c.args.off c.args.len)
    (HasCounted c.args.id c.args.off c.args.len) tt c.do_add.result (c.in-Ok.ensures (AddRange c.args.id c.args.off c.args.len) (refl, refl, refl, refl)) c.do_add.ensures

pub returns-in-Err : goal.returns-in-Err
returns-in-Err g c =
    tried_err g.M.LaneMem.at c.args.lane.now c.check_words.new.lane c.check_words.new.lane (AddRange c.args.id c.args.off c.args.len) (Unit {0}) (λ s done. HasSeen s c.args.id c.args.off c.args.len true) (λ v. adds c.args.id c.args.off c.args.len)
    (HasCounted c.args.id c.args.off c.args.len) c.in-Err.why (c.in-Err.ensures (AddRange c.args.id c.args.off c.args.len) (refl, refl, refl, refl))
