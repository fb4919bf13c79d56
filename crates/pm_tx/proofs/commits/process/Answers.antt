use Rattle.std.proofs.Common.{◌≡◌, ◌≢◌, rules}
use Rattle.pm_model.specs.declared.stage.Stage.TheVariants as stage
use Rattle.pm_tx.proofs.LevelCommits.{process_refused, processed_past, processed_work}
use Rattle.pm_tx.proofs.commits.process.Goals as goal

pub returns-then-eq : goal.returns-then-eq
returns-then-eq g c = processed_work g.M.LaneMem.at c.args.lane.now c.commit.new.lane c.commit.result (let e : c.args.lane.now.stage ≡ stage.Work = search rules in e) c.commit.ensures

pub returns-in-Some : goal.returns-in-Some
returns-in-Some g c = process_refused g.M.LaneMem.at c.args.lane.now c.in-Some.why (let e : c.args.lane.now.stage ≢ stage.Work = search rules in e) c.in-Some.ensures

pub returns : goal.returns
returns g c = processed_past g.M.LaneMem.at c.args.lane.now c.stage_after-lane.result (let e : c.args.lane.now.stage ≢ stage.Work = search rules in e) (search rules) c.stage_after-lane.ensures
