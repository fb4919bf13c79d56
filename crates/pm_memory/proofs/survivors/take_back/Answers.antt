use Rattle.std.proofs.Common.{◌∙◌, ap, arith}
use Rattle.pm_memory.specs.Keep.{kept_of}
use Rattle.pm_memory.proofs.Passing.{passed_none, passed_more, passed_all, drawn_all}
use Rattle.pm_memory.proofs.survivors.take_back.Goals as goal

pub loop-word-init : goal.loop-word-init
loop-word-init c = passed_none c.args.changes.now c.args.words.now c.args.kept.now c.next_changed-word.result c.next_changed-word.ensures.most c.next_changed-word.ensures.changed c.next_changed-word.ensures.least

pub loop-word-smaller : goal.loop-word-smaller
loop-word-smaller c = omega arith

pub loop-word-preserved : goal.loop-word-preserved
loop-word-preserved c =
    let next = c.next_changed-word-in-loop-word in
    passed_more c.args.changes.now c.args.words.now c.loop-word.words c.args.kept.now c.loop-word.kept c.next-first.new.self c.loop-word.word next.result c.next-first.result c.left_of.result c.loop-word.invariant (omega arith)
    (λ keep draws is. c.next-first.ensures.kept keep draws is ∙ ap (kept_of keep draws) c.count_of.ensures.number)
    c.next-first.ensures.moved
    c.left_of.ensures
    next.ensures.from next.ensures.most next.ensures.changed next.ensures.least

pub returns-clause-left : goal.returns-clause-left
returns-clause-left c keep draws is = passed_all c.args.changes.now c.args.words.now c.loop-word.words c.args.kept.now c.loop-word.kept c.loop-word.word keep draws c.loop-word.invariant (omega arith) is

pub returns-clause-moved : goal.returns-clause-moved
returns-clause-moved c keep draws is = drawn_all c.args.changes.now c.args.words.now c.loop-word.words c.args.kept.now c.loop-word.kept c.loop-word.word keep draws c.loop-word.invariant (omega arith) is
