use Rattle.std.proofs.Common.{◌≡◌, ◌+◌, ◌*◌, rules, sym, subst, Ok, Err}
use Rattle.solo_world.proofs.Sequencing.{counted_none, counted_next, counted_more, counted_err}
use Rattle.solo_world.specs.Sequences.{IsReady, Runs, counted, stores}
use Rattle.solo_fresh.specs.Filling.{stores_fresh, stores_line}
use Rattle.solo_fresh.proofs.filling.store_line.Goals as goal

pub loop-j-init : goal.loop-j-init
loop-j-init g c = counted_none (g.M.LaneMem.at c.args.mem.now) (λ j. stores_fresh c.args.line c.args.header.kind c.args.header.size (8 * c.args.i + j))

pub store-requires : goal.store-requires
unfolding stores_line
store-requires g c =
    subst (λ x. IsReady (g.M.LaneMem.at c.loop-j.mem) (stores (8 * c.args.line + (8 * c.args.i + c.loop-j.j)) x)) (sym c.word.ensures)
    (counted_next (g.M.LaneMem.at c.args.mem.now) (λ j. stores_fresh c.args.line c.args.header.kind c.args.header.size (8 * c.args.i + j)) 8 c.loop-j.j (g.M.LaneMem.at c.loop-j.mem) tt c.loop-j-test.true c.requires.ready c.loop-j.invariant)

pub returns-in_err-store : goal.returns-in_err-store
unfolding stores_line
returns-in_err-store g c =
    counted_err (g.M.LaneMem.at c.args.mem.now) (λ j. stores_fresh c.args.line c.args.header.kind c.args.header.size (8 * c.args.i + j)) (Unit {0}) (Unit {0}) 8 c.loop-j.j (g.M.LaneMem.at c.loop-j.mem) (g.M.LaneMem.at c.store.new.mem) tt
    c.in_err-store.field-0.0 c.from_residual.result c.loop-j-test.true c.loop-j.invariant
    (subst (λ x. Runs {T = Unit {0}} (g.M.LaneMem.at c.loop-j.mem) (g.M.LaneMem.at c.store.new.mem) (stores (8 * c.args.line + (8 * c.args.i + c.loop-j.j)) x) (Err c.in_err-store.field-0.0)) c.word.ensures c.in_err-store.ensures)
    c.from_residual.ensures.0

pub loop-j-preserved : goal.loop-j-preserved
loop-j-preserved g c =
    counted_more (g.M.LaneMem.at c.args.mem.now) (λ j. stores_fresh c.args.line c.args.header.kind c.args.header.size (8 * c.args.i + j)) c.loop-j.j (g.M.LaneMem.at c.loop-j.mem) (g.M.LaneMem.at c.store.new.mem) tt tt c.loop-j.invariant
    (subst (λ x. Runs {T = Unit {0}} (g.M.LaneMem.at c.loop-j.mem) (g.M.LaneMem.at c.store.new.mem) (stores (8 * c.args.line + (8 * c.args.i + c.loop-j.j)) x) (Ok tt)) c.word.ensures c.in_ok-store.ensures)

pub returns : goal.returns
unfolding stores_line
returns g c =
    subst (λ n. Runs {T = Unit {0}} (g.M.LaneMem.at c.args.mem.now) (g.M.LaneMem.at c.loop-j.mem) (counted (λ j. stores_fresh c.args.line c.args.header.kind c.args.header.size (8 * c.args.i + j)) n) (Ok tt))
    (let e : c.loop-j.j ≡ 8 = search rules in e) c.loop-j.invariant
