use Rattle.std.proofs.Common.{◌≡◌, false, true, All, Err, subst, sym, rules}
use Rattle.std.specs.List.{Any}
use Rattle.solo_crash.specs.CallBlocks.{blocks_in, is_gone_in}
use Rattle.solo_crash.specs.OnActions.{HasObject, IsPublishReasonIn, LacksObject}
use Rattle.pm_objects.specs.declared.ids.Oid.{Oid}
use Rattle.solo_pending.specs.declared.actions.SetAction.{SetAction}
use Rattle.solo_tx.proofs.Checked.{if_err, of_err}
use Rattle.solo_transaction.proofs.PublishAllChecks.{gone_free, gone_set, has_all_left, lacks_free, lacks_set, late_reason}
use Rattle.solo_transaction.proofs.PublishChecks.{HasIts, LacksIts}
use Rattle.solo_transaction.proofs.publishing.check_objects.Goals as goal

pub returns-in_err-check_each_owned-clause-refused : goal.returns-in_err-check_each_owned-clause-refused
returns-in_err-check_each_owned-clause-refused g c =
    if_err _ c.from_residual.result
    (λ r is o v all pending.
    let e : c.check_each_owned.result ≡ Err r = search rules in
    subst (IsPublishReasonIn v) (sym (of_err _ c.check_each_owned.result r e c.check_each_owned.ensures.cause))
    (lacks_free v c.args.pending.now pending (subst (Any (LacksObject v)) c.as_slice-frees.ensures.value (c.in_err-check_each_owned.ensures.not_locked o v all))))

pub returns-in_err-check_owned-clause-refused : goal.returns-in_err-check_owned-clause-refused
returns-in_err-check_owned-clause-refused g c =
    if_err _ c.from_residual-in_err-check_owned.result
    (λ r is o v all pending.
    let e : c.check_owned.result ≡ Err r = search rules in
    subst (IsPublishReasonIn v) (sym (of_err _ c.check_owned.result r e c.check_owned.ensures.cause))
    (lacks_set v c.args.pending.now pending (subst (Any (LacksIts v)) c.as_slice-sets.ensures.value (c.in_err-check_owned.ensures.not_locked o v all))))

pub returns-then-pending-clause-refused : goal.returns-then-pending-clause-refused
returns-then-pending-clause-refused g c o v all pending =
    late_reason v c.args.pending.now pending (subst (All (HasObject v)) c.as_slice-frees.ensures.value (c.in_ok-check_each_owned.ensures.ok o v all)) (subst (All (HasIts v)) c.as_slice-sets.ensures.value (c.in_ok-check_owned.ensures.ok o v all))
    c.if-pending.true

pub returns-in_err-check_each_left-clause-refused : goal.returns-in_err-check_each_left-clause-refused
returns-in_err-check_each_left-clause-refused g c =
    if_err _ c.from_residual-in_err-check_each_left.result
    (λ r is o v all pending.
    let e : c.check_each_left.result ≡ Err r = search rules in
    subst (IsPublishReasonIn v) (sym (of_err _ c.check_each_left.result r e c.check_each_left.ensures.cause))
    (gone_free v c.args.pending.now pending (subst (All (HasObject v)) c.as_slice-frees.ensures.value (c.in_ok-check_each_owned.ensures.ok o v all)) (subst (All (HasIts v)) c.as_slice-sets.ensures.value (c.in_ok-check_owned.ensures.ok o v all))
    (subst (Any (λ (id : Oid). is_gone_in v id.off ≡ true)) c.as_slice-frees.ensures.value (c.in_err-check_each_left.ensures.gone (blocks_in v) all.lists))))

pub returns-in_err-check_left-clause-refused : goal.returns-in_err-check_left-clause-refused
returns-in_err-check_left-clause-refused g c =
    if_err _ c.from_residual-in_err-check_left.result
    (λ r is o v all pending.
    let e : c.check_left.result ≡ Err r = search rules in
    subst (IsPublishReasonIn v) (sym (of_err _ c.check_left.result r e c.check_left.ensures.cause))
    (gone_set v c.args.pending.now pending (subst (All (HasObject v)) c.as_slice-frees.ensures.value (c.in_ok-check_each_owned.ensures.ok o v all)) (subst (All (HasIts v)) c.as_slice-sets.ensures.value (c.in_ok-check_owned.ensures.ok o v all))
    (subst (Any (λ (a : SetAction). is_gone_in v a.id.off ≡ true)) c.as_slice-sets.ensures.value (c.in_err-check_left.ensures.gone (blocks_in v) all.lists))))

pub returns-clause-ok : goal.returns-clause-ok
returns-clause-ok g c o v all pending =
    has_all_left v c.args.pending.now pending (subst (All (HasObject v)) c.as_slice-frees.ensures.value (c.in_ok-check_each_owned.ensures.ok o v all)) (subst (All (HasIts v)) c.as_slice-sets.ensures.value (c.in_ok-check_owned.ensures.ok o v all))
    c.if-pending.false (subst (All (λ (id : Oid). is_gone_in v id.off ≡ false)) c.as_slice-frees.ensures.value (c.in_ok-check_each_left.ensures.ok (blocks_in v) all.lists))
    (subst (All (λ (a : SetAction). is_gone_in v a.id.off ≡ false)) c.as_slice-sets.ensures.value (c.in_ok-check_left.ensures.ok (blocks_in v) all.lists))
