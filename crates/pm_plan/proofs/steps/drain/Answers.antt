use Rattle.pm_view.specs.Steps.Step.{Drain}
use Rattle.pm_plan.proofs.Plans.{runs_one}
use Rattle.pm_plan.proofs.steps.drain.Goals as goal

pub returns : goal.returns
returns g c = runs_one g.M.LaneMem.may (g.M.LaneMem.at c.args.mem.now) (g.M.LaneMem.at c.drain.new.self) Drain c.drain.result tt g.met.M.LawfulMem.grants c.drain.ensures
