use Rattle.std.proofs.Common.{◌≡◌, None, refl, rules}
use Rattle.pm_objects.specs.declared.calls.Operation.TheVariants.{Increment}
use Rattle.pm_call.specs.Did.{work_refusal}
use Rattle.pm_call.specs.Incrementing.{HasSum}
use Rattle.pm_call.specs.Plans.{increments}
use Rattle.pm_call.proofs.Calls.{did_err, refused_so}
use Rattle.pm_tx.proofs.increments.increment.Goals as goal

pub try_increment-requires : goal.try_increment-requires
try_increment-requires g c =
    c.requires (let e : work_refusal c.args.lane.now ≡ None = search rules in e)

pub refuse-requires : goal.refuse-requires
refuse-requires g c = λ goes.
    refused_so g.M.LaneMem.at c.args.lane.now c.try_increment.new.lane c.try_increment.new.lane
    (Increment c.args.id c.args.off c.args.by) (λ v. increments c.args.id c.args.off c.args.by)
    (HasSum c.args.id c.args.off c.args.by) c.in-Err.why refl refl
    (c.requires (let e : work_refusal c.args.lane.now ≡ None = search rules in e))
    c.in-Err.ensures goes

pub returns-in-Err : goal.returns-in-Err
returns-in-Err g c =
    did_err g.M.LaneMem.at c.args.lane.now c.try_increment.new.lane c.refuse.new.lane
    (Increment c.args.id c.args.off c.args.by) (λ v. increments c.args.id c.args.off c.args.by)
    (HasSum c.args.id c.args.off c.args.by) c.in-Err.why c.refuse.result refl refl
    (let e : work_refusal c.args.lane.now ≡ None = search rules in e) c.in-Err.ensures
    c.refuse.ensures
