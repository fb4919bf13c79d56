use Rattle.std.proofs.Common.{◌+◌, length, slice_index, rules, subst, ◌≡◌, Ok}
use Rattle.pm_plan.proofs.Plans.{repeated_none, repeated_next, repeated_more, repeated_err}
use Rattle.pm_plan.specs.Plans.{Runs, repeated, stores, stores_from}
use Rattle.pm_plan.proofs.stores.store_all.Goals as goal

pub loop-i-init : goal.loop-i-init
loop-i-init g c = repeated_none (g.M.LaneMem.at c.args.mem.now) (λ i. stores (c.args.first + i) (slice_index c.args.values.now i))

pub store-requires : goal.store-requires
unfolding stores_from
store-requires g c =
    repeated_next (g.M.LaneMem.at c.args.mem.now) (λ i. stores (c.args.first + i) (slice_index c.args.values.now i)) (length c.args.values.now) c.loop-i.i (g.M.LaneMem.at c.loop-i.mem) tt
    c.loop-i-test.true c.requires.ready c.loop-i.invariant

pub returns-in_err-store : goal.returns-in_err-store
unfolding stores_from
returns-in_err-store g c =
    repeated_err (g.M.LaneMem.at c.args.mem.now) (λ i. stores (c.args.first + i) (slice_index c.args.values.now i)) (Unit {0}) (Unit {0}) (length c.args.values.now) c.loop-i.i (g.M.LaneMem.at c.loop-i.mem)
    (g.M.LaneMem.at c.store.new.mem) tt c.in_err-store.field-0.0 c.from_residual.result c.loop-i-test.true c.loop-i.invariant c.in_err-store.ensures c.from_residual.ensures.0

pub loop-i-preserved : goal.loop-i-preserved
loop-i-preserved g c =
    repeated_more (g.M.LaneMem.at c.args.mem.now) (λ i. stores (c.args.first + i) (slice_index c.args.values.now i)) c.loop-i.i (g.M.LaneMem.at c.loop-i.mem) (g.M.LaneMem.at c.store.new.mem) tt tt
    c.loop-i.invariant c.in_ok-store.ensures

pub returns : goal.returns
unfolding stores_from
returns g c =
    subst (λ n. Runs {T = Unit {0}} (g.M.LaneMem.at c.args.mem.now) (g.M.LaneMem.at c.loop-i.mem) (repeated (λ i. stores (c.args.first + i) (slice_index c.args.values.now i)) n) (Ok tt))
    (let e : c.loop-i.i ≡ length c.args.values.now = search rules in e) c.loop-i.invariant
