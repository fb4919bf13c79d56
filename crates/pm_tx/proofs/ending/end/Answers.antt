use Rattle.std.proofs.Common.{◌≡◌, None, rules}
use Rattle.pm_call.specs.Stages.{end_refusal}
use Rattle.pm_tx.proofs.LevelEnds.{end_refused, ended_inner, ended_outer, may_close_at}
use Rattle.pm_tx.proofs.ending.end.Goals as goal

pub returns-in-Some : goal.returns-in-Some
returns-in-Some g c = end_refused g.M.LaneMem.at c.args.lane.now c.in-Some.why c.in-Some.ensures

pub close-requires : goal.close-requires
close-requires g c = may_close_at g.M.LaneMem.at c.args.lane.now (c.requires (let e : end_refusal c.args.lane.now ≡ None = search rules in e)) (search rules)

pub returns-then-lane-eq1 : goal.returns-then-lane-eq1
returns-then-lane-eq1 g c = ended_outer g.M.LaneMem.at c.args.lane.now c.close.new.lane (search rules) (search rules) c.close.ensures

pub returns-else-lane-eq1 : goal.returns-else-lane-eq1
returns-else-lane-eq1 g c = ended_inner g.M.LaneMem.at c.args.lane.now c.outer_stage-lane.result (search rules) (search rules) c.outer_stage-lane.ensures
