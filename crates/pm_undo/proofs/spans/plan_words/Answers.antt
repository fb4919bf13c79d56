use Rattle.std.proofs.Common.{◌-◌, List, ℕ, length, sym, ap, subst, rules}
use Rattle.std.specs.List.{range_with_len}
use Rattle.pm_model.specs.Transaction.{new_words, records_of}
use Rattle.pm_undo.specs.Spans.{words_in, AreSpansOf}
use Rattle.pm_undo.proofs.Planning.{nothing_planned, all_planned, no_new_word, one_new_word, needed_for_all}
use Rattle.pm_undo.proofs.spans.plan_words.Goals as goal

pub loop-word-init : goal.loop-word-init
loop-word-init c = record {
  are = nothing_planned c.new-planned.result.items (words_in c.args.records.now) c.args.first c.new-planned.ensures;
  few = search rules;
}

pub returns-then-not-add-clause-none : goal.returns-then-not-add-clause-none
returns-then-not-add-clause-none c full =
    let words : List ℕ = words_in c.args.records.now in
    let more = c.add.ensures.many (new_words words (range_with_len c.args.first (c.loop-word.word - c.args.first))) c.loop-word.invariant.are (search rules) in
    let is = ap (λ ws. length (records_of ws)) (one_new_word words c.args.first c.loop-word.word c.loop-word.auto.word (search rules)) in
    let all = needed_for_all c.args.records.now c.args.first c.loop-word.word c.args.end c.loop-word.auto.word c.loop-word-test.true in
    search (rules, more, is, all)

pub loop-word-preserved : goal.loop-word-preserved
loop-word-preserved c = record {
  are = subst (λ ws. AreSpansOf c.add.new.planned.items ws) (sym (one_new_word (words_in c.args.records.now) c.args.first c.loop-word.word c.loop-word.auto.word (search rules)))
      (c.add.ensures.added (new_words (words_in c.args.records.now) (range_with_len c.args.first (c.loop-word.word - c.args.first))) c.loop-word.invariant.are (search rules));
  few = search rules;
}

pub loop-word-preserved-then-is_recorded : goal.loop-word-preserved-then-is_recorded
loop-word-preserved-then-is_recorded c = record {
  are = subst (λ ws. AreSpansOf c.loop-word.planned.items ws) (sym (no_new_word (words_in c.args.records.now) c.args.first c.loop-word.word c.loop-word.auto.word (search rules))) c.loop-word.invariant.are;
  few = search rules;
}

pub returns-clause-some : goal.returns-clause-some
returns-clause-some c =
    all_planned c.loop-word.planned.items c.args.records.now c.args.first c.loop-word.word c.args.end (search rules) c.loop-word.invariant.are
