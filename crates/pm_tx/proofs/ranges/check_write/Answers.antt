use Rattle.std.proofs.Common.{length, refl, true}
use Rattle.pm_objects.specs.declared.calls.Operation.TheVariants.{Write}
use Rattle.pm_call.specs.Did.{Found}
use Rattle.pm_call.specs.Ranges.{HasRange}
use Rattle.pm_call.specs.Writing.{MayPut}
use Rattle.pm_call.proofs.AddedLanes.{at_once}
use Rattle.pm_call.proofs.Calls.{checked_err, checked_so, checked_then}
use Rattle.pm_tx.proofs.ranges.check_write.Goals as goal

pub check_recorded-requires : goal.check_recorded-requires
check_recorded-requires g c =
    checked_so g.M.LaneMem.at c.args.lane.now c.check_range.new.lane c.check_range.new.lane (Write c.args.id c.args.off c.args.bytes.now) (λ s (done : Unit {0}). HasRange s c.args.id c.args.off (length c.args.bytes.now) true) tt c.requires
    (c.in-Ok.ensures (Write c.args.id c.args.off c.args.bytes.now) (refl, refl, refl, refl))

pub returns-in-Ok : goal.returns-in-Ok
returns-in-Ok g c =
    checked_then g.M.LaneMem.at c.args.lane.now c.check_range.new.lane c.check_range.new.lane (Write c.args.id c.args.off c.args.bytes.now) (λ s (done : Unit {0}). HasRange s c.args.id c.args.off (length c.args.bytes.now) true)
    (λ s (done : Unit {0}). MayPut s c.args.id c.args.off c.args.bytes.now) tt c.check_recorded.result (c.in-Ok.ensures (Write c.args.id c.args.off c.args.bytes.now) (refl, refl, refl, refl))
    (λ s works stands range. at_once s (Found {T = Unit {0}} g.M.LaneMem.at c.check_range.new.lane (λ t done. MayPut t c.args.id c.args.off c.args.bytes.now) (Write c.args.id c.args.off c.args.bytes.now) c.check_recorded.result)
    (c.check_recorded.ensures s works stands range))

pub returns-in-Err : goal.returns-in-Err
returns-in-Err g c =
    checked_err g.M.LaneMem.at c.args.lane.now c.check_range.new.lane c.check_range.new.lane (Write c.args.id c.args.off c.args.bytes.now) (λ s (done : Unit {0}). HasRange s c.args.id c.args.off (length c.args.bytes.now) true)
    (λ s (done : Unit {0}). MayPut s c.args.id c.args.off c.args.bytes.now) c.in-Err.why (c.in-Err.ensures (Write c.args.id c.args.off c.args.bytes.now) (refl, refl, refl, refl))
