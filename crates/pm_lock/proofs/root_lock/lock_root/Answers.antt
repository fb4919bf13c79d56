use Rattle.pm_view.specs.Steps.Step.{Load}
use Rattle.pm_lock.proofs.RootWords.{root_allowed, root_locked, root_stands, root_stopped}
use Rattle.pm_lock.proofs.root_lock.lock_root.Goals as goal

pub returns-in-Err : goal.returns-in-Err
returns-in-Err g c = root_stopped g.M.LaneMem.at c.args.write c.args.lane.now c.lock.new.lane c.in-Err.stopped c.in-Err.ensures

pub load-root-requires : goal.load-root-requires
load-root-requires g c found =
    let u = root_stands g.M.LaneMem.at c.args.write c.args.lane.now c.lock.new.lane c.in_default.ensures c.requires.stands in
    g.met.M.LawfulMem.meets c.lock.new.lane.memory u.0 (Load 64 found) u.1 (root_allowed u.0)

pub returns : goal.returns
returns g c = root_locked g.M.LaneMem.at c.args.write c.args.lane.now c.lock.new.lane c.load-root.new.self c.load-root.result c.in_default.ensures
    (λ u seen. (c.load-root.ensures u seen (g.met.M.LawfulMem.grants u (Load 64 c.load-root.result) (root_allowed u))).0)
