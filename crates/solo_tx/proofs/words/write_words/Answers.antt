use Rattle.std.proofs.Common.{◌≡◌, ◌+◌, ◌/◌, ◌<◌, length, rules, subst, ◌∙◌, Ok}
use Rattle.solo_world.proofs.Sequencing.{counted_none, counted_next, counted_more, counted_err}
use Rattle.solo_world.specs.Sequences.{Runs, counted}
use Rattle.solo_tx.specs.Sequences.{word_count, writes_word, writes}
use Rattle.solo_tx.proofs.words.write_words.Goals as goal

pub loop-i-init : goal.loop-i-init
loop-i-init g c = counted_none (g.M.LaneMem.at c.args.mem.now) (λ i. writes_word c.args.place c.args.bytes.now (c.args.place / 8 + i))

pub write_word-requires-clause-ready : goal.write_word-requires-clause-ready
unfolding writes
write_word-requires-clause-ready g c =
    counted_next (g.M.LaneMem.at c.args.mem.now) (λ i. writes_word c.args.place c.args.bytes.now (c.args.place / 8 + i)) (word_count c.args.place (length c.args.bytes.now)) c.loop-i.i (g.M.LaneMem.at c.loop-i.mem) tt (subst (λ n. c.loop-i.i < n) c.count_words-i-end.ensures c.loop-i-test.true) c.requires.ready c.loop-i.invariant

pub returns-in_err-write_word : goal.returns-in_err-write_word
unfolding writes
returns-in_err-write_word g c =
    counted_err (g.M.LaneMem.at c.args.mem.now) (λ i. writes_word c.args.place c.args.bytes.now (c.args.place / 8 + i)) (Unit {0}) (Unit {0}) (word_count c.args.place (length c.args.bytes.now)) c.loop-i.i (g.M.LaneMem.at c.loop-i.mem) (g.M.LaneMem.at c.write_word.new.mem) tt
    c.in_err-write_word.field-0.0 c.from_residual.result (subst (λ n. c.loop-i.i < n) c.count_words-i-end.ensures c.loop-i-test.true) c.loop-i.invariant c.in_err-write_word.ensures c.from_residual.ensures.0

pub loop-i-preserved : goal.loop-i-preserved
loop-i-preserved g c =
    counted_more (g.M.LaneMem.at c.args.mem.now) (λ i. writes_word c.args.place c.args.bytes.now (c.args.place / 8 + i)) c.loop-i.i (g.M.LaneMem.at c.loop-i.mem) (g.M.LaneMem.at c.write_word.new.mem) tt tt c.loop-i.invariant c.in_ok-write_word.ensures

pub returns : goal.returns
unfolding writes
returns g c =
    subst (λ n. Runs {T = Unit {0}} (g.M.LaneMem.at c.args.mem.now) (g.M.LaneMem.at c.loop-i.mem) (counted (λ i. writes_word c.args.place c.args.bytes.now (c.args.place / 8 + i)) n) (Ok tt))
    (let e : c.loop-i.i ≡ c.count_words-i-end.result = search rules in e ∙ c.count_words-i-end.ensures) c.loop-i.invariant
