use Rattle.std.proofs.Common.{false, length, refl, Ok}
use Rattle.pm_objects.specs.declared.calls.Operation.TheVariants.{Read}
use Rattle.pm_call.specs.Plans.{gets}
use Rattle.pm_call.specs.Ranges.{HasRange}
use Rattle.pm_call.specs.Reading.{HasRead}
use Rattle.pm_call.proofs.Calls.{checked_so, tried_err, tried_then}
use Rattle.pm_tx.proofs.ranges.try_read.Goals as goal

pub do_read-requires : goal.do_read-requires
do_read-requires g c =
    checked_so g.M.LaneMem.at c.args.lane.now c.check_range.new.lane c.check_range.new.lane (Read c.args.id c.args.off (length c.args.into.now)) (λ s (done : Unit {0}). HasRange s c.args.id c.args.off (length c.args.into.now) false) tt c.requires
    (c.in-Ok.ensures (Read c.args.id c.args.off (length c.args.into.now)) (refl, refl, refl, refl))

pub returns-in-Ok-clause-did : goal.returns-in-Ok-clause-did
returns-in-Ok-clause-did g c =
    tried_then g.M.LaneMem.at c.args.lane.now c.check_range.new.lane c.do_read.new.lane (Read c.args.id c.args.off (length c.args.into.now)) (λ s (done : Unit {0}). HasRange s c.args.id c.args.off (length c.args.into.now) false)
    (λ v. gets c.args.id c.args.off (length c.args.into.now)) (HasRead c.args.id c.args.off (length c.args.into.now) c.do_read.new.into) tt (Ok tt) (c.in-Ok.ensures (Read c.args.id c.args.off (length c.args.into.now)) (refl, refl, refl, refl))
    c.do_read.ensures.did

pub returns-in-Err-clause-did : goal.returns-in-Err-clause-did
returns-in-Err-clause-did g c =
    tried_err g.M.LaneMem.at c.args.lane.now c.check_range.new.lane c.check_range.new.lane (Read c.args.id c.args.off (length c.args.into.now)) (Unit {0}) (λ s done. HasRange s c.args.id c.args.off (length c.args.into.now) false)
    (λ v. gets c.args.id c.args.off (length c.args.into.now)) (HasRead c.args.id c.args.off (length c.args.into.now) c.args.into.now) c.in-Err.why (c.in-Err.ensures (Read c.args.id c.args.off (length c.args.into.now)) (refl, refl, refl, refl))
