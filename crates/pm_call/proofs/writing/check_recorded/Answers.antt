use Rattle.std.proofs.Common.{◌≡◌, ◌+◌, length, arith, rules, true, false, sym, ap, ◌∙◌}
use Rattle.std.specs.List.{list_all}
use Rattle.pm_model.specs.Items.{is_among}
use Rattle.pm_model.specs.Transaction.{covered_words}
use Rattle.pm_undo.specs.Spans.{words_in}
use Rattle.pm_call.proofs.LockedRanges.{range_low}
use Rattle.pm_call.proofs.WriteChecks.{recorded_none, recorded_ok}
use Rattle.pm_call.proofs.writing.check_recorded.Goals as goal

pub overflow_add-id : goal.overflow_add-id
overflow_add-id g c = let l = range_low c.requires.standing c.requires.stands c.args.id c.args.off (length c.args.bytes.now) true c.requires.holds in omega (arith, l)

pub are_recorded-requires : goal.are_recorded-requires
are_recorded-requires g c = let l = range_low c.requires.standing c.requires.stands c.args.id c.args.off (length c.args.bytes.now) true c.requires.holds in omega (arith, l)

pub returns-then-are_recorded : goal.returns-then-are_recorded
returns-then-are_recorded g c s works is range =
    recorded_ok g.M.LaneMem.at c.args.lane.now c.args.id c.args.off c.args.bytes.now s works is range (λ i. let f = c.type_inv.bytes i in omega (arith, f))
    (ap (λ rs. list_all (is_among (words_in rs)) (covered_words (c.args.id.off + c.args.off) (length c.args.bytes.now))) (sym c.as_slice.ensures.value) ∙ (sym c.are_recorded.ensures ∙ (let e : c.are_recorded.result ≡ true = search rules in e)))

pub returns-else-are_recorded : goal.returns-else-are_recorded
returns-else-are_recorded g c s works is range =
    recorded_none g.M.LaneMem.at c.args.lane.now c.args.id c.args.off c.args.bytes.now s works is range
    (ap (λ rs. list_all (is_among (words_in rs)) (covered_words (c.args.id.off + c.args.off) (length c.args.bytes.now))) (sym c.as_slice.ensures.value) ∙ (sym c.are_recorded.ensures ∙ (let e : c.are_recorded.result ≡ false = search rules in e)))
