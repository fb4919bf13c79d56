use Rattle.std.proofs.Common.{◌≡◌, ◌+◌, ◌-◌, ◌/◌, ◌==◌, false, [], Bool, cond, sym, ap, ◌∙◌, rules, eq-eqb}
use Rattle.std.specs.List.{list_all, range_with_len}
use Rattle.pm_model.specs.Transaction.{covered_words}
use Rattle.pm_model.specs.Items.{is_among}
use Rattle.pm_undo.specs.Spans.{words_in}
use Rattle.pm_undo.proofs.spans.are_recorded.Goals as goal

pub returns-then-len-eq0 : goal.returns-then-len-eq0
unfolding covered_words
returns-then-len-eq0 c = let none : c.args.len ≡ 0 = search rules in
    sym (ap (λ (b : Bool). list_all (is_among (words_in c.args.records.now)) (cond b [] (range_with_len (c.args.place / 8) ((c.args.place + c.args.len - 1) / 8 + 1 - c.args.place / 8)))) (eq-eqb c.args.len 0 none))

pub returns : goal.returns
unfolding covered_words
returns c = let some : (c.args.len == 0) ≡ false = search rules in
    c.all_recorded.ensures ∙ sym (ap (λ (b : Bool). list_all (is_among (words_in c.args.records.now)) (cond b [] (range_with_len (c.args.place / 8) ((c.args.place + c.args.len - 1) / 8 + 1 - c.args.place / 8)))) some)
