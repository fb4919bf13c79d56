use Rattle.std.proofs.Common.{◌≡◌, None, refl, rules}
use Rattle.pm_objects.specs.declared.calls.Operation.TheVariants.{AddRange}
use Rattle.pm_call.specs.Adding.{HasCounted}
use Rattle.pm_call.specs.Did.{work_refusal}
use Rattle.pm_call.specs.Plans.{adds}
use Rattle.pm_call.proofs.Calls.{did_err, refused_so}
use Rattle.pm_tx.proofs.ranges.add_range.Goals as goal

pub try_add-requires : goal.try_add-requires
try_add-requires g c = c.requires (let e : work_refusal c.args.lane.now ≡ None = search rules in e)

pub refuse-requires : goal.refuse-requires
refuse-requires g c = λ goes.
    refused_so g.M.LaneMem.at c.args.lane.now c.try_add.new.lane c.try_add.new.lane (AddRange c.args.id c.args.off c.args.len) (λ v. adds c.args.id c.args.off c.args.len) (HasCounted c.args.id c.args.off c.args.len) c.in-Err.why refl refl
    (c.requires (let e : work_refusal c.args.lane.now ≡ None = search rules in e)) c.in-Err.ensures goes

pub returns-in-Err : goal.returns-in-Err
returns-in-Err g c =
    did_err g.M.LaneMem.at c.args.lane.now c.try_add.new.lane c.refuse.new.lane (AddRange c.args.id c.args.off c.args.len) (λ v. adds c.args.id c.args.off c.args.len) (HasCounted c.args.id c.args.off c.args.len) c.in-Err.why c.refuse.result refl refl
    (let e : work_refusal c.args.lane.now ≡ None = search rules in e) c.in-Err.ensures c.refuse.ensures
