use Rattle.pm_view.specs.Steps.Step.{Or}
use Rattle.pm_plan.proofs.Finding.{allowed_finding, runs_finding}
use Rattle.pm_plan.proofs.stores.or_once.Goals as goal

pub or-requires : goal.or-requires
or-requires g c found = let r = allowed_finding (g.M.LaneMem.at c.args.mem.now) (Or c.args.word c.args.bits) c.requires found in g.met.M.LawfulMem.meets c.args.mem.now r.0 (Or c.args.word c.args.bits found) r.1.0 r.1.1

pub returns : goal.returns
returns g c = runs_finding g.M.LaneMem.may (g.M.LaneMem.at c.args.mem.now) (g.M.LaneMem.at c.or.new.self) (Or c.args.word c.args.bits) c.or.result (λ found. tt) g.met.M.LawfulMem.grants c.or.ensures
