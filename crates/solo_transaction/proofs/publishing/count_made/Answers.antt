use Rattle.std.proofs.Common.{◌≤◌, ◌+◌, ℕ, Bool, true, false, length, count_by, sym, ap, ◌∙◌, arith, rules}
use Rattle.std.specs.List.{list_any}
use Rattle.std.proofs.lemmas.List.{take_all}
use Rattle.std.proofs.lemmas.List.Sums.{count_by_more_no, count_by_more_yes}
use Rattle.solo_crash.specs.CallBlocks.{CallBlocks as Call, is_at}
use Rattle.pm_objects.specs.declared.ids.Oid.{Oid}
use Rattle.solo_transaction.proofs.FreedInTurn.{made_at_is}
use Rattle.solo_transaction.proofs.PublishAllChecks.{no_id}
use Rattle.solo_transaction.proofs.publishing.count_made.Goals.{then-is_some, else-is_some}
use Rattle.solo_transaction.proofs.publishing.count_made.Goals as goal

abbrev is_made : Call → Oid → Bool
is_made call id = list_any (is_at id.off) call.made

pub loop-id-preserved : goal.loop-id-preserved
loop-id-preserved c =
    let ids = c.args.ids.now in
    let i = c.loop-id.id-index in
    elim c.if-is_some.branch [
      | then-is_some w ↦ (
        λ call lists.
            w.made-is
            ∙ (ap (λ (n : ℕ). n + 1) (c.loop-id.invariant.0 call lists)
            ∙ sym (count_by_more_yes (is_made call) ids i no_id c.loop-id-test.true (made_at_is _ call.made c.made_at.result true (sym c.is_some.ensures ∙ w.if-is_some.true) (c.made_at.ensures call lists)))),
        (let e = w.made-is in let few = c.loop-id.invariant.1 in omega (arith, e, few)),
      )
      | else-is_some w ↦ (
        λ call lists.
            w.made-is
            ∙ (c.loop-id.invariant.0 call lists
            ∙ sym (count_by_more_no (is_made call) ids i no_id c.loop-id-test.true (made_at_is _ call.made c.made_at.result false (sym c.is_some.ensures ∙ w.if-is_some.false) (c.made_at.ensures call lists)))),
        (let e = w.made-is in let few = c.loop-id.invariant.1 in omega (arith, e, few)),
      )
    ]

pub returns-clause-made : goal.returns-clause-made
returns-clause-made c call lists =
    let up : length c.args.ids.now ≤ c.loop-id.id-index = search rules in
    c.loop-id.invariant.0 call lists ∙ ap (count_by (is_made call)) (take_all c.loop-id.id-index c.args.ids.now up)
