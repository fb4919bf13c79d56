use Rattle.std.proofs.Common.{false, refl}
use Rattle.pm_objects.specs.declared.calls.Operation.TheVariants.{Increment}
use Rattle.pm_call.specs.Did.{Found}
use Rattle.pm_call.specs.Incrementing.{MayIncrement}
use Rattle.pm_call.specs.Ranges.{HasRange}
use Rattle.pm_call.proofs.AddedLanes.{at_once}
use Rattle.pm_call.proofs.Calls.{checked_err, checked_so, checked_then}
use Rattle.pm_tx.proofs.increments.check_increment.Goals as goal

pub check_number-requires : goal.check_number-requires
check_number-requires g c =
    checked_so g.M.LaneMem.at c.args.lane.now c.check_range.new.lane c.check_range.new.lane
    (Increment c.args.id c.args.off c.args.by)
    (λ s (done : Unit {0}). HasRange s c.args.id c.args.off 8 false) tt c.requires
    (c.in-Ok.ensures (Increment c.args.id c.args.off c.args.by) (refl, refl, refl, refl))

pub returns-in-Ok : goal.returns-in-Ok
returns-in-Ok g c =
    checked_then g.M.LaneMem.at c.args.lane.now c.check_range.new.lane c.check_range.new.lane
    (Increment c.args.id c.args.off c.args.by)
    (λ s (done : Unit {0}). HasRange s c.args.id c.args.off 8 false)
    (λ s (done : Unit {0}). MayIncrement s c.args.id c.args.off) tt c.check_number.result
    (c.in-Ok.ensures (Increment c.args.id c.args.off c.args.by) (refl, refl, refl, refl))
    (λ s works stands range. at_once s (Found {T = Unit {0}} g.M.LaneMem.at
    c.check_range.new.lane (λ t done. MayIncrement t c.args.id c.args.off)
    (Increment c.args.id c.args.off c.args.by) c.check_number.result)
    (c.check_number.ensures c.args.by s works stands range))

pub returns-in-Err : goal.returns-in-Err
returns-in-Err g c =
    checked_err g.M.LaneMem.at c.args.lane.now c.check_range.new.lane c.check_range.new.lane
    (Increment c.args.id c.args.off c.args.by)
    (λ s (done : Unit {0}). HasRange s c.args.id c.args.off 8 false)
    (λ s (done : Unit {0}). MayIncrement s c.args.id c.args.off) c.in-Err.why
    (c.in-Err.ensures (Increment c.args.id c.args.off c.args.by) (refl, refl, refl, refl))
