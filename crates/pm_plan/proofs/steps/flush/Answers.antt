use Rattle.pm_view.specs.Steps.Step.{Flush}
use Rattle.pm_plan.proofs.Plans.{runs_one}
use Rattle.pm_plan.proofs.steps.flush.Goals as goal

pub returns : goal.returns
returns g c = runs_one g.M.LaneMem.may (g.M.LaneMem.at c.args.mem.now) (g.M.LaneMem.at c.flush.new.self) (Flush c.args.line) c.flush.result tt g.met.M.LawfulMem.grants c.flush.ensures
