use Rattle.std.proofs.Common.{◌≡◌, None, ap, rules}
use Rattle.pm_objects.specs.declared.calls.Operation.TheVariants.{Cancel}
use Rattle.pm_view.specs.Steps.Step.{Tell}
use Rattle.pm_world.specs.LaneFields.{fields_of}
use Rattle.pm_call.specs.Did.{work_refusal}
use Rattle.pm_action.proofs.CancelledLanes.{cancelled_nothing, persist_may, tell_may, was_cancelled, was_stopped}
use Rattle.pm_action.proofs.inside.cancel_inside.Goals as goal

pub returns-in-Some : goal.returns-in-Some
returns-in-Some g c =
    cancelled_nothing g.M.LaneMem.at c.args.lane.now c.in-Some.why c.in-Some.ensures

pub persist_all-requires : goal.persist_all-requires
persist_all-requires g c = persist_may g.M.LaneMem.at c.args.lane.now
    (c.requires (let e : work_refusal c.args.lane.now ≡ None = search rules in e))

pub returns-in-Err : goal.returns-in-Err
returns-in-Err g c =
    let none : None ≡ work_refusal c.args.lane.now = search rules in
    was_stopped g.M.LaneMem.at c.args.lane.now c.persist_all.new.mem c.stop.new.lane
    c.in-Err.field-0 c.stop.result none c.in-Err.ensures c.stop.ensures.answer c.stop.ensures.lane

pub tell-requires : goal.tell-requires
tell-requires g c =
    let is = c.requires (let e : work_refusal c.args.lane.now ≡ None = search rules in e) in
    let m = tell_may g.M.LaneMem.at c.args.lane.now c.persist_all.new.mem is
    c.in_default-persist_all.ensures in
    g.met.M.LawfulMem.meets c.persist_all.new.mem m.0 (Tell Cancel None) m.1 m.2

pub returns : goal.returns
returns g c =
    let none : None ≡ work_refusal c.args.lane.now = search rules in
    was_cancelled g.M.LaneMem.at c.args.lane.now g.M.LaneMem.may g.met.M.LawfulMem.grants
    c.persist_all.new.mem
    (record c.args.lane.now { memory = c.tell.new.self; pending = c.clear.new.self }) none
    c.in_default-persist_all.ensures c.tell.ensures
    (ap (λ xs. record (fields_of c.args.lane.now) { pending = xs }) c.clear.ensures)
