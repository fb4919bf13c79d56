use Rattle.pm_view.specs.Steps.Step.{Drain}
use Rattle.pm_plan.proofs.Plans.{granted}
use Rattle.pm_plan.proofs.Persisting.{drains_nothing, may_drain, drains_once}
use Rattle.pm_plan.proofs.stores.drain_any.Goals as goal

pub returns-then-undrained-eq0 : goal.returns-then-undrained-eq0
returns-then-undrained-eq0 g c = drains_nothing (g.M.LaneMem.at c.args.mem.now) c.undrained.result c.undrained.ensures _ c.if-undrained-eq0.true

pub drain-requires : goal.drain-requires
drain-requires g c =
    let r = may_drain (g.M.LaneMem.at c.args.mem.now) c.undrained.result c.undrained.ensures c.if-undrained-eq0.false c.requires in
    g.met.M.LawfulMem.meets c.args.mem.now r.0 Drain r.1.0 r.1.1

pub returns-else-undrained-eq0 : goal.returns-else-undrained-eq0
returns-else-undrained-eq0 g c =
    drains_once (g.M.LaneMem.at c.args.mem.now) c.undrained.result c.undrained.ensures (g.M.LaneMem.at c.drain.new.self) c.drain.result c.if-undrained-eq0.false
    (granted g.M.LaneMem.may (g.M.LaneMem.at c.args.mem.now) (g.M.LaneMem.at c.drain.new.self) (λ _. Drain) c.drain.result g.met.M.LawfulMem.grants c.drain.ensures)
