use Rattle.std.proofs.Common.{◌≡◌, ◌+◌, arith, rules, true, false, sym, ap, ◌∙◌}
use Rattle.std.specs.List.{list_all}
use Rattle.pm_model.specs.Items.{is_among}
use Rattle.pm_model.specs.Transaction.{covered_words}
use Rattle.pm_undo.specs.Spans.{words_in}
use Rattle.pm_call.proofs.Increments.{may, unheld, unrecorded}
use Rattle.pm_call.proofs.LockedRanges.{range_low}
use Rattle.pm_call.proofs.WriteChecks.{recorded_so}
use Rattle.pm_call.proofs.incrementing.check_number.Goals as goal

pub overflow_add-id : goal.overflow_add-id
overflow_add-id g c = let l = range_low c.requires.standing c.requires.stands c.args.id c.args.off 8 false c.requires.holds in omega (arith, l)

pub are_recorded-requires : goal.are_recorded-requires
are_recorded-requires g c = let l = range_low c.requires.standing c.requires.stands c.args.id c.args.off 8 false c.requires.holds in omega (arith, l)

pub returns-then-not-holds : goal.returns-then-not-holds
returns-then-not-holds g c by s works is range =
    (unheld s is c.args.id c.args.off by range (sym (c.holds.ensures.held s works) ∙ c.if-not-holds.true), works, is)

pub returns-then-are_recorded : goal.returns-then-are_recorded
returns-then-are_recorded g c by s works is range =
    let listed = ap (λ rs. list_all (is_among (words_in rs)) (covered_words (c.args.id.off + c.args.off) 8)) (sym c.as_slice.ensures.value)
    ∙ (sym c.are_recorded.ensures ∙ (let e : c.are_recorded.result ≡ true = search rules in e)) in (
      may s is c.args.id c.args.off by range (sym (c.holds.ensures.held s works) ∙ c.if-not-holds.false)
          (recorded_so g.M.LaneMem.at c.args.lane.now s works (c.args.id.off + c.args.off) 8 true listed),
      works,
      is,
    )

pub returns-else-are_recorded : goal.returns-else-are_recorded
returns-else-are_recorded g c by s works is range =
    let listed = ap (λ rs. list_all (is_among (words_in rs)) (covered_words (c.args.id.off + c.args.off) 8)) (sym c.as_slice.ensures.value)
    ∙ (sym c.are_recorded.ensures ∙ (let e : c.are_recorded.result ≡ false = search rules in e)) in (
      unrecorded s is c.args.id c.args.off by range (sym (c.holds.ensures.held s works) ∙ c.if-not-holds.false)
          (recorded_so g.M.LaneMem.at c.args.lane.now s works (c.args.id.off + c.args.off) 8 false listed),
      works,
      is,
    )
