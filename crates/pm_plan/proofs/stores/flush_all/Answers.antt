use Rattle.std.proofs.Common.{Ok}
use Rattle.pm_view.specs.Steps.Step.{Flush}
use Rattle.pm_plan.proofs.Plans.{granted}
use Rattle.pm_plan.proofs.Persisting.{flushed_none, may_flush_next, flushed_more, flush_stopped, flushed_all, flushed_up}
use Rattle.pm_plan.proofs.stores.flush_all.Goals as goal

pub loop-init : goal.loop-init
loop-init g c = flushed_none (g.M.LaneMem.at c.args.mem.now)

pub flush-requires : goal.flush-requires
flush-requires g c =
    let r = may_flush_next (g.M.LaneMem.at c.args.mem.now) (g.M.LaneMem.at c.loop.mem) c.loop.counter c.loop.invariant c.in-Some.line c.in-Some.ensures c.requires in
    g.met.M.LawfulMem.meets c.loop.mem r.0 (Flush c.in-Some.line) r.1.0 r.1.1

pub returns-in_err-flush-in-Some : goal.returns-in_err-flush-in-Some
returns-in_err-flush-in-Some g c =
    flush_stopped (g.M.LaneMem.at c.args.mem.now) (g.M.LaneMem.at c.loop.mem) c.loop.counter c.loop.invariant c.in-Some.line c.in-Some.ensures
    (Unit {0}) (g.M.LaneMem.at c.flush.new.self) c.in_err-flush-in-Some.field-0.0 c.from_residual.result c.from_residual.ensures.0 c.in_err-flush-in-Some.ensures

pub loop-preserved : goal.loop-preserved
loop-preserved g c =
    flushed_more (g.M.LaneMem.at c.args.mem.now) (g.M.LaneMem.at c.loop.mem) c.loop.counter c.loop.invariant c.in-Some.line c.in-Some.ensures
    (g.M.LaneMem.at c.flush.new.self) c.in_ok-flush-in-Some.field-0
    (granted g.M.LaneMem.may (g.M.LaneMem.at c.loop.mem) (g.M.LaneMem.at c.flush.new.self) (λ _. Flush c.in-Some.line) (Ok c.in_ok-flush-in-Some.field-0) g.met.M.LawfulMem.grants c.in_ok-flush-in-Some.ensures)

pub returns-after-loop : goal.returns-after-loop
returns-after-loop g c = flushed_all (g.M.LaneMem.at c.args.mem.now) (g.M.LaneMem.at c.loop.mem) c.loop.counter c.loop.invariant _ c.undrained-end.result c.loop-test.false c.undrained-end.ensures

pub returns-in-None : goal.returns-in-None
returns-in-None g c = flushed_up (g.M.LaneMem.at c.args.mem.now) (g.M.LaneMem.at c.loop.mem) c.loop.counter c.loop.invariant _ c.in-None.ensures
