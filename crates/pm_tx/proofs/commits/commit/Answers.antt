use Rattle.std.proofs.Common.{◌≡◌, ◌<◌, ◌≤◌, None, rules}
use Rattle.pm_call.specs.Did.{work_refusal}
use Rattle.pm_tx.proofs.LevelCommits.{commit_refused, committed_cut, committed_inner, committed_ok, inner_stands, outer_stands}
use Rattle.pm_tx.proofs.commits.commit.Goals as goal

pub returns-in-Some : goal.returns-in-Some
returns-in-Some g c = commit_refused g.M.LaneMem.at c.args.lane.now c.in-Some.why c.in-Some.ensures

pub commit_inner-requires : goal.commit_inner-requires
commit_inner-requires g c = inner_stands g.M.LaneMem.at c.args.lane.now (c.requires (let e : work_refusal c.args.lane.now ≡ None = search rules in e)) (let e : 1 < c.args.lane.now.level = search rules in e)

pub returns-then-lane-gt1 : goal.returns-then-lane-gt1
returns-then-lane-gt1 g c = committed_inner g.M.LaneMem.at c.args.lane.now c.commit_inner.new.lane (search rules) (let e : 1 < c.args.lane.now.level = search rules in e) c.commit_inner.ensures

pub commit_call-requires : goal.commit_call-requires
commit_call-requires g c = outer_stands g.M.LaneMem.at c.args.lane.now (c.requires (let e : work_refusal c.args.lane.now ≡ None = search rules in e)) (let e : c.args.lane.now.level ≤ 1 = search rules in e)

pub returns-in-Ok : goal.returns-in-Ok
returns-in-Ok g c = committed_ok g.M.LaneMem.at c.args.lane.now c.commit_call.new.lane (search rules) (let e : c.args.lane.now.level ≤ 1 = search rules in e) c.in-Ok.ensures

pub returns-in-Err : goal.returns-in-Err
returns-in-Err g c = committed_cut g.M.LaneMem.at c.args.lane.now c.commit_call.new.lane c.stop.new.lane c.stop.result c.in-Err.field-0 (search rules) (let e : c.args.lane.now.level ≤ 1 = search rules in e) c.in-Err.ensures c.stop.ensures.answer c.stop.ensures.lane
