use Rattle.std.proofs.Common.{◌≡◌, ◌≢◌, Option, None, Some, Err, ℕ, refl, sym, ap, ◌∙◌, subst, rules}
use Rattle.std.proofs.lemmas.Result.{err_from_is_err_and}
use Rattle.solo_crash.specs.Pending.{pending_before}
use Rattle.solo_memory.specs.Solo.{Sees, Solo}
use Rattle.pm_objects.specs.declared.ids.Oid.{Oid}
use Rattle.pm_objects.specs.declared.refusal.Refusal.{Refusal}
use Rattle.pm_objects.specs.declared.refusal.Refusal.TheVariants as refusal
use Rattle.solo_pending.specs.declared.actions.SetAction.{SetAction}
use Rattle.solo_pending.specs.declared.pending.PendingActions.{PendingActions}
use Rattle.solo_world.specs.declared.lane.Lane.{Lane}
use Rattle.solo_exec.specs.Progress.{IsActed}
use Rattle.solo_exec.proofs.CancelLine.{cancel_acted, cancel_failed}
use Rattle.solo_exec.proofs.PublishLine.{publish_acted, publish_failed, start_with, stays_sound}
use Rattle.solo_exec.proofs.OutsideLine.{defer_acted, defer_failed, rests_alone, set_acted, set_failed}
use Rattle.solo_exec.proofs.ReservedLine.{put_acted, put_failed, refusal_of, reserve_acted, reserve_failed}
use Rattle.solo_exec.proofs.acting.act_outside.Goals as goal

-- ---- what the calls ask

pub reserve-requires : goal.reserve-requires
reserve-requires c = record {
  rests = λ unstopped.
      let f = c.requires.first in
      (f.1.0, (rests_alone f.0 f.1.0 c.args.lane.now c.args.lane.now c.args.blocks.now c.args.pending.now c.args.names f.1.1, f.1.1.pending));
}

pub write_reserved-requires : goal.write_reserved-requires
write_reserved-requires c = record {
  rests = λ unstopped.
      let f = c.requires.first in
      (f.1.0, (rests_alone f.0 f.1.0 c.args.lane.now c.args.lane.now c.args.blocks.now c.args.pending.now c.args.names f.1.1, f.1.1.pending));
}

pub cancel-requires : goal.cancel-requires
cancel-requires c = record {
  rests = λ unstopped.
      let f = c.requires.first in
      (f.1.0, (rests_alone f.0 f.1.0 c.args.lane.now c.args.lane.now c.args.blocks.now c.args.pending.now c.args.names f.1.1, f.1.1.pending));
}

pub publish-requires-clause-rests : goal.publish-requires-clause-rests
publish-requires-clause-rests c = λ unstopped.
    let f = c.requires.first in (
      f.1.0,
      (
        rests_alone f.0 f.1.0 c.args.lane.now c.args.lane.now c.args.blocks.now c.args.pending.now c.args.names f.1.1,
        stays_sound f.0 c.args.lane.now c.args.blocks.now c.args.pending.now f.1.0 f.1.1,
        f.1.1.pending,
      ),
    )

-- ---- reserve

pub returns-in-Reserve : goal.returns-in-Reserve
returns-in-Reserve c o first is =
    let e = c.in_ok-id-in-Reserve.ensures in
    let alone = rests_alone o first c.args.lane.now c.args.lane.now c.args.blocks.now c.args.pending.now c.args.names is in
    reserve_acted o first c.args.lane.now c.reserve.new.lane c.args.blocks.now c.args.pending.now c.args.names is (ap (λ (l : Lane Solo). l.shape) (e.lane (λ clash. cc))) c.args.operation.now c.in-Reserve.letter c.in-Reserve.size c.in-Reserve.kind c.in-Reserve.is
    c.reserve.new.pending c.in_ok-id-in-Reserve.id (e.done first alone is.pending)

pub returns-in_err-id-in-Reserve : goal.returns-in_err-id-in-Reserve
returns-in_err-id-in-Reserve c =
    let p = err_from_is_err_and c.from_residual.result c.from_residual.ensures.1 in
    rw (p.1, p.2)
    (λ o first is.
    let e = c.in_err-id-in-Reserve.ensures in
    let alone = rests_alone o first c.args.lane.now c.args.lane.now c.args.blocks.now c.args.pending.now c.args.names is in
    reserve_failed o first c.args.lane.now c.reserve.new.lane c.args.blocks.now c.args.pending.now c.args.names is c.args.operation.now c.in-Reserve.letter c.in-Reserve.size c.in-Reserve.kind c.in-Reserve.is c.in_err-id-in-Reserve.field-0.0 c.reserve.new.pending
    e.unchanged (λ going. ap (λ (l : Lane Solo). l.shape) (e.lane (λ stops. going (ap refusal_of stops)))) (λ stops. ap (λ (l : Lane Solo). l.shape) (e.stopped_lane is.rests.unstopped (ap Err stops)))
    (λ stops. e.stops (ap Err stops) first alone) (λ used. e.spent (ap Err used) first is.rests) (λ going unspent. e.refuses going unspent first alone is.pending))

-- ---- put

pub returns-in_ok-write_reserved-in-WriteReserved : goal.returns-in_ok-write_reserved-in-WriteReserved
returns-in_ok-write_reserved-in-WriteReserved c o first is =
    let e = c.in_ok-write_reserved-in-WriteReserved.ensures in
    let alone = rests_alone o first c.args.lane.now c.args.lane.now c.args.blocks.now c.args.pending.now c.args.names is in
    put_acted o first c.args.lane.now c.write_reserved.new.lane c.args.blocks.now c.args.pending.now c.args.names is (ap (λ (l : Lane Solo). l.shape) (e.lane (λ clash. cc))) c.args.operation.now c.in-WriteReserved.id c.id_of.result c.id_of.ensures
    c.in-WriteReserved.off c.as_slice.result.now (search rules) (e.done first alone is.pending)

pub returns-in_err-write_reserved-in-WriteReserved : goal.returns-in_err-write_reserved-in-WriteReserved
returns-in_err-write_reserved-in-WriteReserved c =
    let p = err_from_is_err_and c.from_residual-in_err-write_reserved-in-WriteReserved.result c.from_residual-in_err-write_reserved-in-WriteReserved.ensures.1 in
    rw (p.1, p.2)
    (λ o first is.
    let e = c.in_err-write_reserved-in-WriteReserved.ensures in
    let alone = rests_alone o first c.args.lane.now c.args.lane.now c.args.blocks.now c.args.pending.now c.args.names is in
    put_failed o first c.args.lane.now c.write_reserved.new.lane c.args.blocks.now c.args.pending.now c.args.names is c.args.operation.now c.in-WriteReserved.id c.id_of.result c.id_of.ensures
    c.in-WriteReserved.off c.as_slice.result.now (search rules) c.in_err-write_reserved-in-WriteReserved.field-0.0
    (λ going. ap (λ (l : Lane Solo). l.shape) (e.lane (λ stops. going (ap refusal_of stops)))) (λ stops. ap (λ (l : Lane Solo). l.shape) (e.stopped_lane is.rests.unstopped (ap Err stops)))
    (λ stops. e.stops (ap Err stops) first alone is.pending) (λ used. e.spent (ap Err used) first is.rests) (λ going unspent. e.refuses going unspent first alone is.pending))

-- ---- defer and set

pub returns-in_ok-defer_free-in-DeferFree : goal.returns-in_ok-defer_free-in-DeferFree
returns-in_ok-defer_free-in-DeferFree c o first is =
    let e = c.in_ok-defer_free-in-DeferFree.ensures in
    defer_acted o first c.args.lane.now c.defer_free.new.lane c.args.blocks.now c.args.pending.now c.args.names is c.args.operation.now c.in-DeferFree.id c.id_of-in-DeferFree.result c.id_of-in-DeferFree.ensures c.in-DeferFree.is
    c.defer_free.new.pending (e.made first is.rests is.pending) (e.listed (pending_before first) is.pending)

pub returns-in_err-defer_free-in-DeferFree : goal.returns-in_err-defer_free-in-DeferFree
returns-in_err-defer_free-in-DeferFree c =
    let p = err_from_is_err_and c.from_residual-in_err-defer_free-in-DeferFree.result c.from_residual-in_err-defer_free-in-DeferFree.ensures.1 in
    rw (p.1, p.2)
    (λ o first is.
    let e = c.in_err-defer_free-in-DeferFree.ensures in
    defer_failed o first c.args.lane.now c.defer_free.new.lane c.args.blocks.now c.args.pending.now c.args.names is c.args.operation.now c.in-DeferFree.id c.id_of-in-DeferFree.result c.id_of-in-DeferFree.ensures c.in-DeferFree.is
    c.defer_free.new.pending c.in_err-defer_free-in-DeferFree.field-0.0 (e.made first is.rests is.pending) e.unchanged (e.causes (pending_before first) is.pending))

pub returns-in_ok-set_value-in-Set : goal.returns-in_ok-set_value-in-Set
returns-in_ok-set_value-in-Set c o first is =
    let e = c.in_ok-set_value-in-Set.ensures in
    set_acted o first c.args.lane.now c.set_value.new.lane c.args.blocks.now c.args.pending.now c.args.names is c.args.operation.now c.in-Set.id c.action_of.result (ap (λ (a : SetAction). a.id) c.action_of.ensures) (search rules)
    c.set_value.new.pending (e.made first is.rests is.pending) (e.listed (pending_before first) is.pending)

pub returns-in_err-set_value-in-Set : goal.returns-in_err-set_value-in-Set
returns-in_err-set_value-in-Set c =
    let p = err_from_is_err_and c.from_residual-in_err-set_value-in-Set.result c.from_residual-in_err-set_value-in-Set.ensures.1 in
    rw (p.1, p.2)
    (λ o first is.
    let e = c.in_err-set_value-in-Set.ensures in
    set_failed o first c.args.lane.now c.set_value.new.lane c.args.blocks.now c.args.pending.now c.args.names is c.args.operation.now c.in-Set.id c.action_of.result (ap (λ (a : SetAction). a.id) c.action_of.ensures) (search rules)
    c.set_value.new.pending c.in_err-set_value-in-Set.field-0.0 (e.made first is.rests is.pending) e.unchanged (e.causes (pending_before first) is.pending))

-- ---- cancel

pub returns-in_ok-cancel-in-Cancel : goal.returns-in_ok-cancel-in-Cancel
returns-in_ok-cancel-in-Cancel c o first is =
    let e = c.in_ok-cancel-in-Cancel.ensures in
    let alone = rests_alone o first c.args.lane.now c.args.lane.now c.args.blocks.now c.args.pending.now c.args.names is in
    let h = e.ends first alone is.pending in
    cancel_acted o first c.args.lane.now c.cancel.new.lane c.args.blocks.now c.args.pending.now c.args.names is (ap (λ (l : Lane Solo). l.shape) (e.lane h.rests.unstopped)) c.args.operation.now c.in-Cancel.is c.cancel.new.pending e.none h

pub returns-in_err-cancel-in-Cancel : goal.returns-in_err-cancel-in-Cancel
returns-in_err-cancel-in-Cancel c =
    let p = err_from_is_err_and c.from_residual-in_err-cancel-in-Cancel.result c.from_residual-in_err-cancel-in-Cancel.ensures.1 in
    rw (p.1, p.2)
    (λ o first is.
    let e = c.in_err-cancel-in-Cancel.ensures in
    let alone = rests_alone o first c.args.lane.now c.args.lane.now c.args.blocks.now c.args.pending.now c.args.names is in
    cancel_failed o first c.args.lane.now c.cancel.new.lane c.args.blocks.now c.args.pending.now c.args.names is c.in_err-cancel-in-Cancel.field-0.0 (λ stops. ap (λ (l : Lane Solo). l.shape) (e.stopped_lane is.rests.unstopped (ap Err stops))) c.args.operation.now c.in-Cancel.is
    c.cancel.new.pending e.unchanged (e.ends first alone is.pending))

-- ---- publish

pub returns-in_ok-publish-in-Publish : goal.returns-in_ok-publish-in-Publish
returns-in_ok-publish-in-Publish c o first is =
    let e = c.in_ok-publish-in-Publish.ensures in
    let alone = rests_alone o first c.args.lane.now c.args.lane.now c.args.blocks.now c.args.pending.now c.args.names is in
    let sound = stays_sound o c.args.lane.now c.args.blocks.now c.args.pending.now first is in
    publish_acted o first c.args.lane.now c.publish.new.lane c.publish.new.blocks c.args.pending.now c.args.names
    (start_with o c.args.lane.now c.args.blocks.now c.publish.new.blocks c.args.pending.now first e.pages is) c.args.operation.now c.in-Publish.is
    c.publish.new.pending e.emptied (e.ends first alone sound is.pending)

pub returns-in_err-publish-in-Publish : goal.returns-in_err-publish-in-Publish
returns-in_err-publish-in-Publish c =
    let p = err_from_is_err_and c.from_residual-in_err-publish-in-Publish.result c.from_residual-in_err-publish-in-Publish.ensures.1 in
    rw (p.1, p.2)
    (λ o first is.
    let e = c.in_err-publish-in-Publish.ensures in
    let alone = rests_alone o first c.args.lane.now c.args.lane.now c.args.blocks.now c.args.pending.now c.args.names is in
    let sound = stays_sound o c.args.lane.now c.args.blocks.now c.args.pending.now first is in
    publish_failed o first c.args.lane.now c.publish.new.lane c.publish.new.blocks c.args.pending.now c.args.names
    (start_with o c.args.lane.now c.args.blocks.now c.publish.new.blocks c.args.pending.now first e.pages is) c.args.operation.now c.in-Publish.is c.in_err-publish-in-Publish.field-0.0
    c.publish.new.pending e.kept (e.ends first alone sound is.pending)
    (λ so. e.missing (ap Err so) first alone sound is.pending) (λ so. e.root_kept (ap Err so) first alone sound is.pending) (λ so. e.past_end (ap Err so) first alone sound is.pending))
