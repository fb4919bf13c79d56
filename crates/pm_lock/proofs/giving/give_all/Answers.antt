use Rattle.std.proofs.Common.{subst, take}
use Rattle.pm_view.specs.Steps.Step.{Give}
use Rattle.pm_view.specs.Views.{after_all}
use Rattle.pm_lock.specs.Locking.{lock_at}
use Rattle.pm_lock.specs.Steps.{gives}
use Rattle.pm_lock.proofs.Holds.{gives_more, may_give_next}
use Rattle.pm_lock.proofs.giving.give_all.Goals as goal

pub loop-held-init : goal.loop-held-init
unfolding after_all
loop-held-init g c v seen may = seen

pub give-requires : goal.give-requires
give-requires g c =
    let s = c.requires in
    g.met.M.LawfulMem.meets c.loop-held.mem (after_all s.0 (gives (take c.loop-held.held-index c.args.locks.now))) (Give (lock_at c.args.locks.now c.loop-held.held-index).line) (c.loop-held.invariant s.0 s.1 s.2)
    (may_give_next s.0 c.args.locks.now c.loop-held.held-index s.2 c.loop-held-test.true)

pub loop-held-preserved : goal.loop-held-preserved
loop-held-preserved g c v seen may =
    let u = after_all v (gives (take c.loop-held.held-index c.args.locks.now)) in
    subst (g.M.LaneMem.at c.give.new.self) (gives_more v c.args.locks.now c.loop-held.held-index c.loop-held-test.true)
    (c.give.ensures u (c.loop-held.invariant v seen may) (g.met.M.LawfulMem.grants u (Give (lock_at c.args.locks.now c.loop-held.held-index).line) (may_give_next v c.args.locks.now c.loop-held.held-index may c.loop-held-test.true))).0
