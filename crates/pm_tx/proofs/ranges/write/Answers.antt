use Rattle.std.proofs.Common.{◌≡◌, None, refl, rules}
use Rattle.pm_objects.specs.declared.calls.Operation.TheVariants.{Write}
use Rattle.pm_call.specs.Did.{work_refusal}
use Rattle.pm_call.specs.Plans.{puts}
use Rattle.pm_call.proofs.Calls.{did_err, did_ok, refused_so}
use Rattle.pm_tx.proofs.ranges.write.Goals as goal

pub try_write-requires : goal.try_write-requires
try_write-requires g c = c.requires (let e : work_refusal c.args.lane.now ≡ None = search rules in e)

pub refuse-requires : goal.refuse-requires
refuse-requires g c = λ goes.
    refused_so g.M.LaneMem.at c.args.lane.now c.try_write.new.lane c.try_write.new.lane (Write c.args.id c.args.off c.args.bytes.now) (λ v. puts c.args.id c.args.off c.args.bytes.now) (λ v (done : Unit {0}). Unit {0}) c.in-Err.why refl refl
    (c.requires (let e : work_refusal c.args.lane.now ≡ None = search rules in e)) c.in-Err.ensures goes

pub returns-in-Ok : goal.returns-in-Ok
returns-in-Ok g c =
    did_ok g.M.LaneMem.at c.args.lane.now c.try_write.new.lane c.try_write.new.lane (Write c.args.id c.args.off c.args.bytes.now) (λ v. puts c.args.id c.args.off c.args.bytes.now) (λ v (done : Unit {0}). Unit {0}) tt
    (let e : work_refusal c.args.lane.now ≡ None = search rules in e) c.in-Ok.ensures

pub returns-in-Err : goal.returns-in-Err
returns-in-Err g c =
    did_err g.M.LaneMem.at c.args.lane.now c.try_write.new.lane c.refuse.new.lane (Write c.args.id c.args.off c.args.bytes.now) (λ v. puts c.args.id c.args.off c.args.bytes.now) (λ v (done : Unit {0}). Unit {0}) c.in-Err.why c.refuse.result refl refl
    (let e : work_refusal c.args.lane.now ≡ None = search rules in e) c.in-Err.ensures c.refuse.ensures
