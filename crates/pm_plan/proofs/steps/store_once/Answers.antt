use Rattle.pm_view.specs.Steps.Step.{Store}
use Rattle.pm_plan.proofs.Plans.{runs_one}
use Rattle.pm_plan.proofs.steps.store_once.Goals as goal

pub returns : goal.returns
returns g c = runs_one g.M.LaneMem.may (g.M.LaneMem.at c.args.mem.now) (g.M.LaneMem.at c.store.new.self) (Store c.args.word c.args.value) c.store.result tt g.met.M.LawfulMem.grants c.store.ensures
