use Rattle.std.proofs.Common.{◌≡◌, Ok, length, rules, subst}
use Rattle.solo_view.specs.Steps.Step.{Give}
use Rattle.solo_world.specs.Sequences.{Runs, counted, one}
use Rattle.solo_world.proofs.Sequencing.{allowed_one, counted_more, counted_next, counted_none}
use Rattle.solo_lock.specs.Locking.{gives, line_at}
use Rattle.solo_lock.proofs.GivenBack.{made_one}
use Rattle.solo_lock.proofs.locking.give_all.Goals as goal

pub loop-held-init : goal.loop-held-init
loop-held-init g c = counted_none (g.M.LaneMem.at c.args.mem.now) (λ i. one (Give (line_at c.args.locks.now i)))

pub give-requires : goal.give-requires
unfolding gives
give-requires g c =
    let may = allowed_one (g.M.LaneMem.at c.loop-held.mem) (Give (line_at c.args.locks.now c.loop-held.held-index))
    (counted_next (g.M.LaneMem.at c.args.mem.now) (λ i. one (Give (line_at c.args.locks.now i))) (length c.args.locks.now) c.loop-held.held-index (g.M.LaneMem.at c.loop-held.mem) tt c.loop-held-test.true c.requires c.loop-held.invariant) in
    g.met.M.LawfulMem.meets c.loop-held.mem may.0 (Give (line_at c.args.locks.now c.loop-held.held-index)) may.1.0 may.1.1

pub loop-held-preserved : goal.loop-held-preserved
loop-held-preserved g c =
    counted_more (g.M.LaneMem.at c.args.mem.now) (λ i. one (Give (line_at c.args.locks.now i))) c.loop-held.held-index (g.M.LaneMem.at c.loop-held.mem) (g.M.LaneMem.at c.give.new.self) tt tt c.loop-held.invariant
    (made_one (g.M.LaneMem.at c.loop-held.mem) (g.M.LaneMem.at c.give.new.self) (Give (line_at c.args.locks.now c.loop-held.held-index)) c.give.ensures)

pub returns : goal.returns
unfolding gives
returns g c =
    subst (λ n. Runs {T = Unit {0}} (g.M.LaneMem.at c.args.mem.now) (g.M.LaneMem.at c.loop-held.mem) (counted (λ i. one (Give (line_at c.args.locks.now i))) n) (Ok tt))
    (let e : c.loop-held.held-index ≡ length c.args.locks.now = search rules in e) c.loop-held.invariant
