use Rattle.std.proofs.Common.{true, ap, sym, ◌∙◌, arith, rules}
use Rattle.solo_model.specs.Bytes.{is_among}
use Rattle.solo_undo.specs.Spans.{words_in}
use Rattle.solo_tx.proofs.LearnsAtWork.{checked_so, recorded_so}
use Rattle.solo_tx.proofs.Objects.{range_is_low}
use Rattle.solo_tx.proofs.checking.check_write.Goals as goal

pub overflow_add-id : goal.overflow_add-id
overflow_add-id g c =
    let r = c.requires.work in
    let t = c.in_ok-check_range.ensures.ok r.0 r.1.0 r.1.1 in
    let low = range_is_low t.view t.works.objects c.args.id c.args.off c.args.len true t.holds r.0 t.works.sound t.works.opening t.works.zones in omega (arith, low)

pub are_recorded-requires : goal.are_recorded-requires
are_recorded-requires g c =
    let r = c.requires.work in
    let t = c.in_ok-check_range.ensures.ok r.0 r.1.0 r.1.1 in
    record { range = range_is_low t.view t.works.objects c.args.id c.args.off c.args.len true t.holds r.0 t.works.sound t.works.opening t.works.zones }

pub returns-in_err-check_range-clause-not_locked : goal.returns-in_err-check_range-clause-not_locked
returns-in_err-check_range-clause-not_locked g c e = c.check_range.ensures.not_locked (search rules)

pub returns-in_err-check_range-clause-out_of_range : goal.returns-in_err-check_range-clause-out_of_range
returns-in_err-check_range-clause-out_of_range g c e = c.check_range.ensures.out_of_range (search rules)

pub returns-then-are_recorded-clause-ok : goal.returns-then-are_recorded-clause-ok
returns-then-are_recorded-clause-ok g c o v work =
    checked_so o g.M.LaneMem.at c.check_range.new.lane v _ _
    (λ w works range. record {
      range = range;
      added = λ i there.
          sym (recorded_so o g.M.LaneMem.at c.check_range.new.lane w works i) ∙ (sym (ap (λ s. is_among (words_in s) i) c.as_slice.ensures.value) ∙ c.are_recorded.ensures.yes (search rules) i there);
    })
    (c.in_ok-check_range.ensures.ok o v work)

pub returns-else-are_recorded-clause-not_added : goal.returns-else-are_recorded-clause-not_added
returns-else-are_recorded-clause-not_added g c e o v work =
    let none = c.are_recorded.ensures.no_ (search rules) in
    checked_so o g.M.LaneMem.at c.check_range.new.lane v _ _
    (λ w works range. record {
      range = range;
      word = none.0;
      written = none.1.0;
      unrecorded = sym (recorded_so o g.M.LaneMem.at c.check_range.new.lane w works none.0) ∙ (sym (ap (λ s. is_among (words_in s) none.0) c.as_slice.ensures.value) ∙ none.1.1);
    })
    (c.in_ok-check_range.ensures.ok o v work)
