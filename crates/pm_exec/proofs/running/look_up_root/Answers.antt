use Rattle.std.proofs.Common.{rules}
use Rattle.pm_exec.proofs.RootLooks.{found_root, refused}
use Rattle.pm_exec.proofs.running.look_up_root.Goals as goal

pub root_id-requires : goal.root_id-requires
root_id-requires g c going outside = (c.requires.1.0.between going outside).0

pub returns-in_err-root_id : goal.returns-in_err-root_id
returns-in_err-root_id g c h rests =
    let e = c.in_err-root_id.ensures in
    refused g.M.LaneMem.at c.args.lane.now c.root_id.new.lane h rests
    (c.lanes_stand.ensures c.root_id.result c.args.lane.now c.root_id.new.lane h rests.0
    c.root_id.ensures.found)
    c.in_err-root_id.field-0.0 c.from_residual.result (search rules) e.found e.stays

pub returns-in_ok-root_id : goal.returns-in_ok-root_id
returns-in_ok-root_id g c h rests =
    found_root g.M.LaneMem.at c.args.lane.now c.root_id.new.lane h rests
    (c.lanes_stand.ensures c.root_id.result c.args.lane.now c.root_id.new.lane h rests.0
    c.root_id.ensures.found)
    c.in_ok-root_id.field-0 c.in_ok-root_id.ensures.stays
