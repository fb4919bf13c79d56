use Rattle.std.proofs.Common.{◌≡◌, ◌+◌, ◌/◌, ◌<◌, length, rules, arith, subst, ◌∙◌, Ok}
use Rattle.pm_model.specs.Transaction.{covered_words}
use Rattle.pm_plan.proofs.Plans.{repeated_none, repeated_next, repeated_more, repeated_err}
use Rattle.pm_plan.specs.Plans.{Runs, repeated}
use Rattle.pm_call.specs.Plans.{writes_word, writes_words}
use Rattle.pm_call.proofs.WriteLanes.{covered_bounds}
use Rattle.pm_call.proofs.writing.write_words.Goals as goal

pub loop-i-init : goal.loop-i-init
loop-i-init g c = repeated_none (g.M.LaneMem.at c.args.mem.now) (λ i. writes_word c.args.place c.args.bytes.now (c.args.place / 8 + i))

pub overflow_add-place : goal.overflow_add-place
overflow_add-place g c =
    let b = covered_bounds c.args.place (length c.args.bytes.now) c.loop-i.i (subst (λ n. c.loop-i.i < n) c.count_words-i-end.ensures c.loop-i-test.true) in
    let below = b.1 in let range = c.requires.range in omega (arith, below, range)

pub write_word-requires-clause-below : goal.write_word-requires-clause-below
write_word-requires-clause-below g c = (covered_bounds c.args.place (length c.args.bytes.now) c.loop-i.i (subst (λ n. c.loop-i.i < n) c.count_words-i-end.ensures c.loop-i-test.true)).1

pub write_word-requires-clause-ready : goal.write_word-requires-clause-ready
unfolding writes_words
write_word-requires-clause-ready g c =
    repeated_next (g.M.LaneMem.at c.args.mem.now) (λ i. writes_word c.args.place c.args.bytes.now (c.args.place / 8 + i)) (length (covered_words c.args.place (length c.args.bytes.now))) c.loop-i.i (g.M.LaneMem.at c.loop-i.mem) tt
    (subst (λ n. c.loop-i.i < n) c.count_words-i-end.ensures c.loop-i-test.true) c.requires.ready c.loop-i.invariant

pub returns-in_err-write_word : goal.returns-in_err-write_word
unfolding writes_words
returns-in_err-write_word g c =
    repeated_err (g.M.LaneMem.at c.args.mem.now) (λ i. writes_word c.args.place c.args.bytes.now (c.args.place / 8 + i)) (Unit {0}) (Unit {0}) (length (covered_words c.args.place (length c.args.bytes.now))) c.loop-i.i (g.M.LaneMem.at c.loop-i.mem)
    (g.M.LaneMem.at c.write_word.new.mem) tt c.in_err-write_word.field-0.0 c.from_residual.result (subst (λ n. c.loop-i.i < n) c.count_words-i-end.ensures c.loop-i-test.true) c.loop-i.invariant c.in_err-write_word.ensures c.from_residual.ensures.0

pub loop-i-preserved : goal.loop-i-preserved
loop-i-preserved g c =
    repeated_more (g.M.LaneMem.at c.args.mem.now) (λ i. writes_word c.args.place c.args.bytes.now (c.args.place / 8 + i)) c.loop-i.i (g.M.LaneMem.at c.loop-i.mem) (g.M.LaneMem.at c.write_word.new.mem) tt tt
    c.loop-i.invariant c.in_ok-write_word.ensures

pub returns : goal.returns
unfolding writes_words
returns g c =
    subst (λ n. Runs {T = Unit {0}} (g.M.LaneMem.at c.args.mem.now) (g.M.LaneMem.at c.loop-i.mem) (repeated (λ i. writes_word c.args.place c.args.bytes.now (c.args.place / 8 + i)) n) (Ok tt))
    (let e : c.loop-i.i ≡ c.count_words-i-end.result = search rules in e ∙ c.count_words-i-end.ensures) c.loop-i.invariant
