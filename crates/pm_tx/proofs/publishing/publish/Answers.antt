use Rattle.std.proofs.Common.{◌≡◌, None, rules}
use Rattle.pm_objects.specs.declared.calls.Operation.TheVariants.{Publish}
use Rattle.pm_call.specs.Did.{work_refusal}
use Rattle.pm_call.proofs.Calls.{checked_so}
use Rattle.pm_tx.proofs.PublishedLanes.{Publishes, published_err, published_nothing, published_ok, refusal_stands}
use Rattle.pm_tx.proofs.publishing.publish.Goals as goal

pub returns-in-Some : goal.returns-in-Some
returns-in-Some g c =
    published_nothing g.M.LaneMem.at c.args.lane.now c.in-Some.why c.in-Some.ensures

pub check_publish-requires : goal.check_publish-requires
check_publish-requires g c =
    c.requires (let e : work_refusal c.args.lane.now ≡ None = search rules in e)

pub do_publish-requires : goal.do_publish-requires
do_publish-requires g c =
    let is = c.requires (let e : work_refusal c.args.lane.now ≡ None = search rules in e) in
    checked_so g.M.LaneMem.at c.args.lane.now c.check_publish.new.lane c.check_publish.new.lane
    Publish Publishes tt is c.in-Ok.ensures

pub refuse-requires : goal.refuse-requires
refuse-requires g c = λ goes.
    let is = c.requires (let e : work_refusal c.args.lane.now ≡ None = search rules in e) in
    refusal_stands g.M.LaneMem.at c.args.lane.now c.check_publish.new.lane c.check_publish.new.lane
    c.in-Err.why is c.in-Err.ensures

pub returns-in-Ok : goal.returns-in-Ok
returns-in-Ok g c =
    let none : None ≡ work_refusal c.args.lane.now = search rules in
    published_ok g.M.LaneMem.at c.args.lane.now c.check_publish.new.lane c.do_publish.new.lane none
    c.in-Ok.ensures c.do_publish.ensures

pub returns-in-Err : goal.returns-in-Err
returns-in-Err g c =
    let none : None ≡ work_refusal c.args.lane.now = search rules in
    published_err g.M.LaneMem.at c.args.lane.now c.check_publish.new.lane c.refuse.new.lane
    c.in-Err.why c.refuse.result none c.in-Err.ensures c.refuse.ensures
