use Rattle.std.proofs.Common.{◌≡◌, ◌≤◌, ◌||◌, false, length, sym, ◌∙◌, rules}
use Rattle.std.specs.List.{list_any}
use Rattle.solo_crash.specs.CallBlocks.{is_at}
use Rattle.solo_model.specs.Bytes.{is_among}
use Rattle.pm_objects.specs.declared.ids.Oid.{Oid}
use Rattle.solo_tx.proofs.EachAction.{all_further, all_of_front}
use Rattle.solo_transaction.proofs.PublishAllChecks.{no_id}
use Rattle.solo_transaction.proofs.publishing.check_each_left.Goals as goal

pub loop-id-preserved : goal.loop-id-preserved
loop-id-preserved c call lists =
    all_further (λ (id : Oid). (is_among call.freed id.off || list_any (is_at id.off) call.dropped) ≡ false) c.args.ids.now c.loop-id.id-index no_id c.loop-id-test.true (c.loop-id.invariant call lists)
    (sym (c.is_gone.ensures call lists) ∙ c.if-is_gone.false)

pub returns-clause-ok : goal.returns-clause-ok
returns-clause-ok c call lists =
    let up : length c.args.ids.now ≤ c.loop-id.id-index = search rules in
    all_of_front (λ (id : Oid). (is_among call.freed id.off || list_any (is_at id.off) call.dropped) ≡ false) c.args.ids.now c.loop-id.id-index up (c.loop-id.invariant call lists)
