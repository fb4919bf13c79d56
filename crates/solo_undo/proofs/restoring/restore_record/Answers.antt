use Rattle.std.proofs.Common.{◌≡◌, rules, subst, Ok}
use Rattle.solo_world.proofs.Sequencing.{counted_none, counted_next, counted_more, counted_err}
use Rattle.solo_world.specs.Sequences.{Runs, counted}
use Rattle.solo_undo.specs.Sequences.{restores_word}
use Rattle.solo_undo.specs.Sequences.{restores_record}
use Rattle.solo_undo.proofs.restoring.restore_record.Goals as goal

pub loop-i-init : goal.loop-i-init
loop-i-init g c = counted_none (g.M.LaneMem.at c.args.mem.now) (restores_word c.args.lane c.args.slot c.args.span.word)

pub restore_word-requires-clause-ready : goal.restore_word-requires-clause-ready
unfolding restores_record
restore_word-requires-clause-ready g c =
    counted_next (g.M.LaneMem.at c.args.mem.now) (restores_word c.args.lane c.args.slot c.args.span.word) c.args.span.count c.loop-i.i (g.M.LaneMem.at c.loop-i.mem) tt c.loop-i-test.true c.requires.ready c.loop-i.invariant

pub returns-in_err-restore_word : goal.returns-in_err-restore_word
unfolding restores_record
returns-in_err-restore_word g c =
    counted_err (g.M.LaneMem.at c.args.mem.now) (restores_word c.args.lane c.args.slot c.args.span.word) (Unit {0}) (Unit {0}) c.args.span.count c.loop-i.i (g.M.LaneMem.at c.loop-i.mem) (g.M.LaneMem.at c.restore_word.new.mem) tt
    c.in_err-restore_word.field-0.0 c.from_residual.result c.loop-i-test.true c.loop-i.invariant c.in_err-restore_word.ensures c.from_residual.ensures.0

pub loop-i-preserved : goal.loop-i-preserved
loop-i-preserved g c =
    counted_more (g.M.LaneMem.at c.args.mem.now) (restores_word c.args.lane c.args.slot c.args.span.word) c.loop-i.i (g.M.LaneMem.at c.loop-i.mem) (g.M.LaneMem.at c.restore_word.new.mem) tt tt c.loop-i.invariant c.in_ok-restore_word.ensures

pub returns : goal.returns
unfolding restores_record
returns g c =
    subst (λ n. Runs {T = Unit {0}} (g.M.LaneMem.at c.args.mem.now) (g.M.LaneMem.at c.loop-i.mem) (counted (restores_word c.args.lane c.args.slot c.args.span.word) n) (Ok tt))
    (let e : c.loop-i.i ≡ c.args.span.count = search rules in e) c.loop-i.invariant
