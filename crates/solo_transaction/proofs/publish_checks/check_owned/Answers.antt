use Rattle.std.proofs.Common.{◌≤◌, length, refl, rules}
use Rattle.solo_tx.proofs.EachAction.{all_further, all_of_front, some_at}
use Rattle.solo_tx.proofs.PendingEntries.{no_action}
use Rattle.solo_transaction.proofs.PublishChecks.{HasIts, LacksIts}
use Rattle.solo_transaction.proofs.publish_checks.check_owned.Goals as goal

pub returns-then-not-has_object-clause-not_locked : goal.returns-then-not-has_object-clause-not_locked
returns-then-not-has_object-clause-not_locked g c o v all =
    some_at (LacksIts v) c.args.actions.now c.loop-action.action-index no_action c.loop-action-test.true (c.if-not-has_object.ensures.no_ refl o v all)

pub loop-action-preserved : goal.loop-action-preserved
loop-action-preserved g c o v all =
    all_further (HasIts v) c.args.actions.now c.loop-action.action-index no_action c.loop-action-test.true (c.loop-action.invariant o v all) (c.if-not-has_object.ensures.yes refl o v all)

pub returns-clause-ok : goal.returns-clause-ok
returns-clause-ok g c o v all =
    let up : length c.args.actions.now ≤ c.loop-action.action-index = search rules in
    all_of_front (HasIts v) c.args.actions.now c.loop-action.action-index up (c.loop-action.invariant o v all)
