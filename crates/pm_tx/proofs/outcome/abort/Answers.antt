use Rattle.std.proofs.Common.{◌≡◌, None, rules}
use Rattle.pm_call.specs.Did.{work_refusal}
use Rattle.pm_tx.proofs.Aborting.{abort_cut, abort_ok, abort_refused, abort_stands}
use Rattle.pm_tx.proofs.outcome.abort.Goals as goal

pub returns-in-Some : goal.returns-in-Some
returns-in-Some g c = abort_refused g.M.LaneMem.at c.args.lane.now c.args.errnum c.in-Some.why c.in-Some.ensures

pub give_up-requires : goal.give_up-requires
give_up-requires g c = abort_stands g.M.LaneMem.at c.args.lane.now c.args.errnum (c.requires (let e : work_refusal c.args.lane.now ≡ None = search rules in e))

pub returns-in-Ok : goal.returns-in-Ok
returns-in-Ok g c = abort_ok g.M.LaneMem.at c.args.lane.now c.args.errnum c.give_up.new.lane c.error_with-error.result (search rules) c.error_with-error.ensures c.in-Ok.ensures

pub returns : goal.returns
returns g c = abort_cut g.M.LaneMem.at c.args.lane.now c.args.errnum c.give_up.new.lane c.stop.new.lane c.error_with-error.result c.stop.result c.in-Err.field-0 (search rules) c.in-Err.ensures c.stop.ensures.answer c.stop.ensures.lane
