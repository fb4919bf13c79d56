use Rattle.std.proofs.Common.{◌≡◌, None, length, refl, rules, sym}
use Rattle.pm_objects.specs.declared.calls.Operation.TheVariants.{Read}
use Rattle.pm_call.specs.Did.{work_refusal}
use Rattle.pm_call.specs.Plans.{gets}
use Rattle.pm_call.specs.Reading.{HasRead}
use Rattle.pm_call.proofs.Calls.{did_err, did_nothing, did_ok, refused_so}
use Rattle.pm_tx.proofs.ranges.read.Goals as goal

pub returns-in-Some-clause-did : goal.returns-in-Some-clause-did
returns-in-Some-clause-did g c =
    did_nothing g.M.LaneMem.at c.args.lane.now c.args.lane.now c.args.lane.now (Read c.args.id c.args.off (length c.args.into.now)) (λ v. gets c.args.id c.args.off (length c.args.into.now))
    (HasRead c.args.id c.args.off (length c.args.into.now) c.args.into.now) c.in-Some.why (sym c.in-Some.ensures)

pub try_read-requires : goal.try_read-requires
try_read-requires g c = c.requires (let e : work_refusal c.args.lane.now ≡ None = search rules in e)

pub refuse-requires : goal.refuse-requires
refuse-requires g c = λ goes.
    refused_so g.M.LaneMem.at c.args.lane.now c.try_read.new.lane c.try_read.new.lane (Read c.args.id c.args.off (length c.args.into.now)) (λ v. gets c.args.id c.args.off (length c.args.into.now))
    (HasRead c.args.id c.args.off (length c.args.into.now) c.try_read.new.into) c.in-Err.why refl refl (c.requires (let e : work_refusal c.args.lane.now ≡ None = search rules in e)) c.in-Err.ensures.did goes

pub returns-in-Ok-clause-did : goal.returns-in-Ok-clause-did
returns-in-Ok-clause-did g c =
    did_ok g.M.LaneMem.at c.args.lane.now c.try_read.new.lane c.try_read.new.lane (Read c.args.id c.args.off (length c.args.into.now)) (λ v. gets c.args.id c.args.off (length c.args.into.now))
    (HasRead c.args.id c.args.off (length c.args.into.now) c.try_read.new.into) tt (let e : work_refusal c.args.lane.now ≡ None = search rules in e) c.in-Ok.ensures.did

pub returns-in-Err-clause-did : goal.returns-in-Err-clause-did
returns-in-Err-clause-did g c =
    did_err g.M.LaneMem.at c.args.lane.now c.try_read.new.lane c.refuse.new.lane (Read c.args.id c.args.off (length c.args.into.now)) (λ v. gets c.args.id c.args.off (length c.args.into.now))
    (HasRead c.args.id c.args.off (length c.args.into.now) c.try_read.new.into) c.in-Err.why c.refuse.result refl refl (let e : work_refusal c.args.lane.now ≡ None = search rules in e) c.in-Err.ensures.did c.refuse.ensures
