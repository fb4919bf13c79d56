use Rattle.pm_view.specs.Steps.Step.{And}
use Rattle.pm_plan.proofs.Finding.{allowed_finding, runs_finding}
use Rattle.pm_plan.proofs.stores.and_once.Goals as goal

pub and-requires : goal.and-requires
and-requires g c found = let r = allowed_finding (g.M.LaneMem.at c.args.mem.now) (And c.args.word c.args.bits) c.requires found in g.met.M.LawfulMem.meets c.args.mem.now r.0 (And c.args.word c.args.bits found) r.1.0 r.1.1

pub returns : goal.returns
returns g c = runs_finding g.M.LaneMem.may (g.M.LaneMem.at c.args.mem.now) (g.M.LaneMem.at c.and.new.self) (And c.args.word c.args.bits) c.and.result (λ found. tt) g.met.M.LawfulMem.grants c.and.ensures
