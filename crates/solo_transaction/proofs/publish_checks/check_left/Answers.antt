use Rattle.std.proofs.Common.{◌≡◌, ◌≤◌, ◌||◌, false, length, sym, ◌∙◌, rules}
use Rattle.std.specs.List.{list_any}
use Rattle.solo_crash.specs.CallBlocks.{is_at}
use Rattle.solo_model.specs.Bytes.{is_among}
use Rattle.solo_pending.specs.declared.actions.SetAction.{SetAction}
use Rattle.solo_tx.proofs.EachAction.{all_further, all_of_front}
use Rattle.solo_tx.proofs.PendingEntries.{no_action}
use Rattle.solo_transaction.proofs.publish_checks.check_left.Goals as goal

pub loop-action-preserved : goal.loop-action-preserved
loop-action-preserved c call lists =
    all_further (λ (a : SetAction). (is_among call.freed a.id.off || list_any (is_at a.id.off) call.dropped) ≡ false) c.args.actions.now c.loop-action.action-index no_action c.loop-action-test.true (c.loop-action.invariant call lists)
    (sym (c.is_gone.ensures call lists) ∙ c.if-is_gone.false)

pub returns-clause-ok : goal.returns-clause-ok
returns-clause-ok c call lists =
    let up : length c.args.actions.now ≤ c.loop-action.action-index = search rules in
    all_of_front (λ (a : SetAction). (is_among call.freed a.id.off || list_any (is_at a.id.off) call.dropped) ≡ false) c.args.actions.now c.loop-action.action-index up (c.loop-action.invariant call lists)
