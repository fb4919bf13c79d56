use Rattle.std.proofs.Common.{rules, Ok, Err}
use Rattle.pm_root.proofs.RootLooks.{awaited, found_root, had_stopped, in_transaction, may_give, may_lock, stays, unopened}
use Rattle.pm_root.proofs.root.root_id.Goals as goal

pub returns-then-lane-clause-found : goal.returns-then-lane-clause-found
returns-then-lane-clause-found g c = had_stopped g.M.LaneMem.at c.args.lane.now (search rules)

pub returns-then-lane-gt0-clause-found : goal.returns-then-lane-gt0-clause-found
returns-then-lane-gt0-clause-found g c = in_transaction g.M.LaneMem.at c.args.lane.now (search rules) c.if-lane-gt0.true

pub open_call-requires : goal.open_call-requires
open_call-requires g c = c.requires (search rules) (search rules)

pub returns-in_err-open_call : goal.returns-in_err-open_call
returns-in_err-open_call g c =
    let f = unopened g.M.LaneMem.at c.args.lane.now (search rules) (search rules) c.open_call.new.lane c.in_err-open_call.field-0.0 c.from_residual.result (search rules) c.in_err-open_call.ensures in
    record { found = f; stays = stays g.M.LaneMem.at c.args.lane.now c.open_call.new.lane c.from_residual.result f c.requires }

pub lock_root-requires : goal.lock_root-requires
lock_root-requires g c =
    let m = may_lock g.M.LaneMem.at c.args.lane.now (search rules) (search rules) c.open_call.new.lane c.in_ok-open_call.ensures (c.requires (search rules) (search rules)) in
    record { room = m.0; stands = m.1 }

pub give_back-requires : goal.give_back-requires
give_back-requires g c =
    may_give g.M.LaneMem.at c.args.lane.now (search rules) (search rules) c.open_call.new.lane c.in_ok-open_call.ensures c.lock_root.new.lane c.in-Ok.word c.in-Ok.ensures (c.requires (search rules) (search rules))

pub returns-in-Ok : goal.returns-in-Ok
returns-in-Ok g c =
    let f = found_root g.M.LaneMem.at c.args.lane.now (search rules) (search rules) c.open_call.new.lane c.in_ok-open_call.ensures c.lock_root.new.lane c.in-Ok.word c.in-Ok.ensures c.give_back.new.lane c.give_back.ensures c.id_of.result c.id_of.ensures in
    record { found = f; stays = stays g.M.LaneMem.at c.args.lane.now c.give_back.new.lane (Ok c.id_of.result) f c.requires }

pub returns-in-Err : goal.returns-in-Err
returns-in-Err g c =
    let f = awaited g.M.LaneMem.at c.args.lane.now (search rules) (search rules) c.open_call.new.lane c.in_ok-open_call.ensures c.lock_root.new.lane c.in-Err.field-0 c.stop.new.lane c.stop.result c.in-Err.ensures c.stop.ensures.answer c.stop.ensures.lane in
    record { found = f; stays = stays g.M.LaneMem.at c.args.lane.now c.stop.new.lane (Err c.stop.result) f c.requires }
