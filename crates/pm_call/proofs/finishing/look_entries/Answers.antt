use Rattle.std.proofs.Common.{◌≡◌, ◌∙◌, rules}
use Rattle.pm_call.proofs.EntryLooks.{lane_entries, lane_looked}
use Rattle.pm_call.proofs.finishing.look_entries.Goals as goal

pub look_each-requires : goal.look_each-requires
look_each-requires g c = let r = c.requires in
    (r.standing, r.works.memory, r.stands, lane_entries g.M.LaneMem.at c.args.lane.now r.standing r.works ∙ (let e : c.args.lane.now.entries.items ≡ c.as_slice.result.now = search rules in e))

pub returns : goal.returns
returns g c = lane_looked g.M.LaneMem.at c.args.lane.now c.look_each.new.mem c.as_slice.result.now (let e : c.args.lane.now.entries.items ≡ c.as_slice.result.now = search rules in e) c.look_each.ensures
