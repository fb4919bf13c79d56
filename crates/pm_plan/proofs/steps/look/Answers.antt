use Rattle.pm_view.specs.Steps.Step.{Load}
use Rattle.pm_plan.proofs.Plans.{allowed_look, look_finds, runs_look}
use Rattle.pm_plan.proofs.steps.look.Goals as goal

pub load-requires : goal.load-requires
load-requires g c found = let r = allowed_look (g.M.LaneMem.at c.args.mem.now) c.args.word c.requires in g.met.M.LawfulMem.meets c.args.mem.now r.0 (Load c.args.word found) r.1.0 (r.1.1 found)

pub returns-clause-made : goal.returns-clause-made
returns-clause-made g c = runs_look g.M.LaneMem.may (g.M.LaneMem.at c.args.mem.now) (g.M.LaneMem.at c.load.new.self) c.args.word c.load.result g.met.M.LawfulMem.grants c.load.ensures

pub returns-clause-found : goal.returns-clause-found
returns-clause-found g c = look_finds g.M.LaneMem.may (g.M.LaneMem.at c.args.mem.now) (g.M.LaneMem.at c.load.new.self) c.args.word c.load.result g.met.M.LawfulMem.grants c.load.ensures
