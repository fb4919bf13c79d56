use Rattle.std.proofs.Common.{◌≤◌, length, refl, rules}
use Rattle.solo_crash.specs.OnActions.{HasObject, LacksObject}
use Rattle.solo_tx.proofs.EachAction.{all_further, all_of_front, some_at}
use Rattle.solo_transaction.proofs.PublishAllChecks.{no_id}
use Rattle.solo_transaction.proofs.publishing.check_each_owned.Goals as goal

pub returns-then-not-has_object-clause-not_locked : goal.returns-then-not-has_object-clause-not_locked
returns-then-not-has_object-clause-not_locked g c o v all = some_at (LacksObject v) c.args.ids.now c.loop-id.id-index no_id c.loop-id-test.true (c.if-not-has_object.ensures.no_ refl o v all)

pub loop-id-preserved : goal.loop-id-preserved
loop-id-preserved g c o v all = all_further (HasObject v) c.args.ids.now c.loop-id.id-index no_id c.loop-id-test.true (c.loop-id.invariant o v all) (c.if-not-has_object.ensures.yes refl o v all)

pub returns-clause-ok : goal.returns-clause-ok
returns-clause-ok g c o v all =
    let up : length c.args.ids.now ≤ c.loop-id.id-index = search rules in
    all_of_front (HasObject v) c.args.ids.now c.loop-id.id-index up (c.loop-id.invariant o v all)
