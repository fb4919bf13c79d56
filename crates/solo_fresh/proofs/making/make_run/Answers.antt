use Rattle.std.proofs.Common.{◌≡◌, Ok, Err, sym, subst, arith}
use Rattle.solo_view.specs.Blocks.{bitmap_word, descriptor_word}
use Rattle.solo_world.specs.Sequences.{IsReady, Runs, Sequence, in_turn}
use Rattle.solo_world.proofs.Sequencing.{ready_first, ready_then, runs_err, runs_then}
use Rattle.solo_fresh.specs.Making.{keeps_first, makes_run, page_in, run_descriptor, stores_persistent}
use Rattle.solo_fresh.proofs.making.make_run.Goals as goal

pub store_persistent-requires : goal.store_persistent-requires
unfolding makes_run
store_persistent-requires g c =
    let old = g.M.LaneMem.at c.args.mem.now in
    let lanes = c.args.shape.lanes in
    let page = page_in lanes c.args.run.zone c.args.run.chunk in
    let cleared : Sequence = stores_persistent (bitmap_word page) 0 in
    let rest : Sequence = in_turn (stores_persistent (descriptor_word lanes page) (run_descriptor c.args.run.lines)) (keeps_first page c.args.run.lines) in
    subst (λ w. IsReady old (stores_persistent w 0)) (sym c.bitmap.ensures) (ready_first old cleared rest c.requires.ready)

pub returns-in_err-store_persistent : goal.returns-in_err-store_persistent
unfolding makes_run
returns-in_err-store_persistent g c =
    let old = g.M.LaneMem.at c.args.mem.now in
    let mid = g.M.LaneMem.at c.store_persistent.new.mem in
    let lanes = c.args.shape.lanes in
    let page = page_in lanes c.args.run.zone c.args.run.chunk in
    let cleared : Sequence = stores_persistent (bitmap_word page) 0 in
    let rest : Sequence = in_turn (stores_persistent (descriptor_word lanes page) (run_descriptor c.args.run.lines)) (keeps_first page c.args.run.lines) in
    let stopped = c.in_err-store_persistent.field-0.0 in
    runs_err (Unit {0}) old mid cleared rest stopped c.from_residual.result c.from_residual.ensures.0
    (subst (λ w. Runs {T = Unit {0}} old mid (stores_persistent w 0) (Err stopped)) c.bitmap.ensures c.in_err-store_persistent.ensures)

pub store_persistent-requires-2 : goal.store_persistent-requires-2
unfolding makes_run
store_persistent-requires-2 g c =
    let old = g.M.LaneMem.at c.args.mem.now in
    let mid = g.M.LaneMem.at c.store_persistent.new.mem in
    let lanes = c.args.shape.lanes in
    let lines = c.args.run.lines in
    let page = page_in lanes c.args.run.zone c.args.run.chunk in
    let cleared : Sequence = stores_persistent (bitmap_word page) 0 in
    let described : Sequence = stores_persistent (descriptor_word lanes page) (run_descriptor lines) in
    let rest : Sequence = in_turn described (keeps_first page lines) in
    let first = subst (λ w. Runs {T = Unit {0}} old mid (stores_persistent w 0) (Ok tt)) c.bitmap.ensures c.in_ok-store_persistent.ensures in
    let is : c.descriptor_of-descriptor.result ≡ run_descriptor lines = (let value = c.descriptor_of-descriptor.ensures in omega (arith, value)) in
    subst (λ w. IsReady mid (stores_persistent w c.descriptor_of-descriptor.result)) (sym c.descriptor.ensures)
    (subst (λ x. IsReady mid (stores_persistent (descriptor_word lanes page) x)) (sym is) (ready_first mid described (keeps_first page lines) (ready_then old mid cleared rest tt c.requires.ready first)))

pub returns-in_err-store_persistent-2 : goal.returns-in_err-store_persistent-2
unfolding makes_run
returns-in_err-store_persistent-2 g c =
    let old = g.M.LaneMem.at c.args.mem.now in
    let mid = g.M.LaneMem.at c.store_persistent.new.mem in
    let end = g.M.LaneMem.at c.store_persistent-2.new.mem in
    let lanes = c.args.shape.lanes in
    let lines = c.args.run.lines in
    let page = page_in lanes c.args.run.zone c.args.run.chunk in
    let cleared : Sequence = stores_persistent (bitmap_word page) 0 in
    let described : Sequence = stores_persistent (descriptor_word lanes page) (run_descriptor lines) in
    let rest : Sequence = in_turn described (keeps_first page lines) in
    let first = subst (λ w. Runs {T = Unit {0}} old mid (stores_persistent w 0) (Ok tt)) c.bitmap.ensures c.in_ok-store_persistent.ensures in
    let is : c.descriptor_of-descriptor.result ≡ run_descriptor lines = (let value = c.descriptor_of-descriptor.ensures in omega (arith, value)) in
    let stopped = c.in_err-store_persistent-2.field-0.0 in
    let result = c.from_residual-in_err-store_persistent-2.result in
    let ran = subst (λ x. Runs {T = Unit {0}} mid end (stores_persistent (descriptor_word lanes page) x) (Err stopped)) is
    (subst (λ w. Runs {T = Unit {0}} mid end (stores_persistent w c.descriptor_of-descriptor.result) (Err stopped)) c.descriptor.ensures c.in_err-store_persistent-2.ensures) in
    runs_then old mid end cleared rest tt result first
    (runs_err (Unit {0}) mid end described (keeps_first page lines) stopped result c.from_residual-in_err-store_persistent-2.ensures.0 ran)

pub keep_first-requires-clause-ready : goal.keep_first-requires-clause-ready
unfolding makes_run
keep_first-requires-clause-ready g c =
    let old = g.M.LaneMem.at c.args.mem.now in
    let mid = g.M.LaneMem.at c.store_persistent.new.mem in
    let end = g.M.LaneMem.at c.store_persistent-2.new.mem in
    let lanes = c.args.shape.lanes in
    let lines = c.args.run.lines in
    let page = page_in lanes c.args.run.zone c.args.run.chunk in
    let cleared : Sequence = stores_persistent (bitmap_word page) 0 in
    let described : Sequence = stores_persistent (descriptor_word lanes page) (run_descriptor lines) in
    let rest : Sequence = in_turn described (keeps_first page lines) in
    let first = subst (λ w. Runs {T = Unit {0}} old mid (stores_persistent w 0) (Ok tt)) c.bitmap.ensures c.in_ok-store_persistent.ensures in
    let is : c.descriptor_of-descriptor.result ≡ run_descriptor lines = (let value = c.descriptor_of-descriptor.ensures in omega (arith, value)) in
    let second = subst (λ x. Runs {T = Unit {0}} mid end (stores_persistent (descriptor_word lanes page) x) (Ok tt)) is
    (subst (λ w. Runs {T = Unit {0}} mid end (stores_persistent w c.descriptor_of-descriptor.result) (Ok tt)) c.descriptor.ensures c.in_ok-store_persistent-2.ensures) in
    ready_then mid end described (keeps_first page lines) tt (ready_then old mid cleared rest tt c.requires.ready first) second

pub returns : goal.returns
unfolding makes_run
returns g c =
    let old = g.M.LaneMem.at c.args.mem.now in
    let mid = g.M.LaneMem.at c.store_persistent.new.mem in
    let end = g.M.LaneMem.at c.store_persistent-2.new.mem in
    let new = g.M.LaneMem.at c.keep_first.new.mem in
    let lanes = c.args.shape.lanes in
    let lines = c.args.run.lines in
    let page = page_in lanes c.args.run.zone c.args.run.chunk in
    let cleared : Sequence = stores_persistent (bitmap_word page) 0 in
    let described : Sequence = stores_persistent (descriptor_word lanes page) (run_descriptor lines) in
    let rest : Sequence = in_turn described (keeps_first page lines) in
    let first = subst (λ w. Runs {T = Unit {0}} old mid (stores_persistent w 0) (Ok tt)) c.bitmap.ensures c.in_ok-store_persistent.ensures in
    let is : c.descriptor_of-descriptor.result ≡ run_descriptor lines = (let value = c.descriptor_of-descriptor.ensures in omega (arith, value)) in
    let second = subst (λ x. Runs {T = Unit {0}} mid end (stores_persistent (descriptor_word lanes page) x) (Ok tt)) is
    (subst (λ w. Runs {T = Unit {0}} mid end (stores_persistent w c.descriptor_of-descriptor.result) (Ok tt)) c.descriptor.ensures c.in_ok-store_persistent-2.ensures) in
    runs_then old mid new cleared rest tt (Ok tt) first (runs_then mid end new described (keeps_first page lines) tt (Ok tt) second c.keep_first.ensures)
