-- All that is pending was published, with frees or reservations among it: the locks went back, and the blocks that were freed. Wherever the lane worked alone it rests with nothing
-- reserved, and begins again.
use Rattle.std.proofs.Common.{◌≡◌, ℕ, ◌+◌, ◌≤◌, inl, All, List, [], ◌∷◌, ◌++◌, length, map, None, sym, ap, ◌∙◌, subst}
use Rattle.std.proofs.lemmas.List.Elements.{All-nil}
use Rattle.solo_crash.proofs.PendingOn.{same_before}
use Rattle.solo_crash.proofs.ReservedOn.{none_reserved}
use Rattle.solo_crash.specs.Alone.{BeginsAgain, WorksAlone, standing}
use Rattle.solo_crash.specs.CallBlocks.{block_of, reserved_object}
use Rattle.solo_crash.specs.Pending.{pending_before}
use Rattle.solo_epoch.specs.Epochs.{HasEnded}
use Rattle.solo_epoch.specs.Reserving.{with_next_call}
use Rattle.pm_header.specs.declared.header.Header.{Header}
use Rattle.pm_image.specs.declared.block.Block.{Block}
use Rattle.solo_made.specs.Made.{BlockLists}
use Rattle.solo_model.specs.Actions.{Pending, none_pending}
use Rattle.pm_objects.specs.declared.calls.Operation.TheVariants.{Publish}
use Rattle.pm_objects.specs.declared.pool.PoolView.{PoolView}
use Rattle.solo_pending.specs.declared.pending.PendingActions.{PendingActions}
use Rattle.solo_reclaim.specs.Reclaims.{HasLeft, HasReclaimed, MayReclaim}
use Rattle.solo_view.proofs.SameLane.{same_lane-then}
use Rattle.solo_view.specs.Constants.{IsSameLane}
use Rattle.solo_view.specs.Founds.{IsAlone}
use Rattle.solo_view.specs.Steps.{Step}
use Rattle.solo_view.specs.View.{Told, View}
use Rattle.solo_view.specs.Views.{after_all}
use Rattle.solo_world.specs.Lanes.{IsOfShape}
use Rattle.solo_world.specs.Opening.{Opening}
use Rattle.solo_world.specs.declared.lane.HeldLock.{HeldLock}
use Rattle.solo_world.specs.declared.lane.Lane.{Lane}
use Rattle.solo_lock.specs.Locking.{gives}
use Rattle.solo_tx.specs.Ending.{IsAfterCall, IsClosedBy, IsOver, IsStoppedAmong, drawn_more}
use Rattle.solo_transaction.proofs.Ended.{ended_with, may_reclaim}
use Rattle.solo_transaction.proofs.EndingAlone.{ended_begins_again, ended_makes_none}
use Rattle.solo_transaction.proofs.EndedLog.{log_ends, log_unlocks}
use Rattle.solo_transaction.proofs.RestingViews.{next_of, next_pending}
use Rattle.solo_transaction.proofs.RestsBehindEnd.{ended_rests, ended_stands}
use Rattle.solo_transaction.specs.AtWork.{LiesInReserved}
use Rattle.solo_transaction.specs.Ending.{HasEndedWith, MayEnd, unlocked_view}
use Rattle.solo_transaction.specs.Published.{HasOwnCounts}
use Rattle.solo_transaction.specs.Resting.{StandsAtRest}
use Rattle.solo_action.specs.Outside.{RestsStill}
use Rattle.solo_action.specs.Publishing.{HoldsToPublish}
use Rattle.solo_action.specs.PublishingAll.{HasPublishedAll, HasPublishedHeld, HoldsAll, IsStoppedHeld, ListsPending, MayPublishPending, PublishLogs, publishes_pending}
use Rattle.solo_action.proofs.HoldingAll.{holds_alone, holds_here, logs_of, may_here}
use Rattle.solo_action.proofs.PendingLists.{some_entries}
use Rattle.solo_action.proofs.ToldOutside.{pending_behind_one}

-- a view that is the other, but for some parts, is of the same lane
ended_lane : {M : Type 0} (at : M → View → Type 0) (lane : Lane M) (v : View) (locks : List HeldLock) (kept : List Block) → (ended : HasEndedWith at lane v locks kept) → IsSameLane v ended.view
ended_lane at lane v locks kept ended =
    let r = ended.reclaims.same in let g = ended.given in record {
      lanes = ap (λ (u : View). u.lanes) r ∙ ap (λ (u : View). u.lanes) g;
      zones = ap (λ (u : View). u.zones) r ∙ ap (λ (u : View). u.zones) g;
      pool = ap (λ (u : View). u.pool) r ∙ ap (λ (u : View). u.pool) g;
      lane = ap (λ (u : View). u.lane) r ∙ ap (λ (u : View). u.lane) g;
      stop = ap (λ (u : View). u.stop) r ∙ ap (λ (u : View). u.stop) g;
      table = ap (λ (u : View). u.table) r ∙ ap (λ (u : View). u.table) g;
      size = ap (λ (u : View). length u.words) r ∙ ap (λ (u : View). length u.words) g;
    }

module _ {M : Type 0} (at : M → View → Type 0) (held : Lane M) (pending : PendingActions) (blocks : BlockLists) (v : View) (h : HoldsToPublish at held pending v) (some : 1 ≤ length pending.frees.items + length pending.reserved.items)
    (lists : ListsPending held.locks.items v blocks) (told rested : Lane M) (same : told.last ≡ rested.last)
    (done : (o : Opening) (w : View) → HoldsAll o at held pending w → MayPublishPending held.locks.items w → HasPublishedAll at told w (publishes_pending w pending blocks told.last)) (counts : (m : M) (u : View) → at m u → IsAlone u → HasOwnCounts u) where
  abbrev k : ℕ
  k = rested.last

  abbrev here : HoldsAll h.world.0 at held pending v
  here = holds_here at held pending v h

  is : HasPublishedAll at told v (publishes_pending v pending blocks k)
  is = subst (λ j. HasPublishedAll at told v (publishes_pending v pending blocks j)) same (done h.world.0 v here (may_here at held pending v h))

  abbrev over : View
  over = after_all v (publishes_pending v pending blocks k v)

  logs : PublishLogs v pending blocks
  logs = logs_of at held pending v h blocks lists (some_entries here lists some)

  alone_over : IsAlone over
  alone_over = is.over.lane.table ∙ holds_alone at held pending v h

  own : HasOwnCounts over
  own = counts told.memory over is.behind.seen.memory alone_over

  ended_in : (o : Opening) (header : Header) (pool : PoolView) (start : View) (steps : List Step) → WorksAlone o header pool start steps v → HasEnded o header pool over
  ended_in o header pool start steps alone = log_ends (logs o header pool start steps alone) k is.ready own

  pub may_end : MayEnd at told over
  may_end =
      let t = h.world in
      record { behind = is.behind; alone = alone_over; taken = (ended_in t.0 t.1 t.2 t.3 t.4 t.5).taken }

  -- the lane is behind its call
  pub behind_there : IsAfterCall at told over
  behind_there = is.behind

  call_is : over.call ≡ record { operation = Publish; reply = None } ∷ []
  call_is = is.told ∙ ap (λ (told : List Told). told ++ record { operation = Publish; reply = None } ∷ []) h.begun.untold

  module _ (closed : IsClosedBy at rested over (gives told.locks.items)) where
    -- the blocks may be given back then
    pub may_give_back : MayReclaim (unlocked_view over told.locks.items) rested.shape
    may_give_back = may_reclaim at told rested over may_end told.locks.items [] closed

    module _ (last : M) (reclaimed : HasReclaimed (at last) (unlocked_view over told.locks.items) (HasLeft [])) where
      abbrev new : Lane M
      new = record rested { memory = last }

      ended : HasEndedWith at new over told.locks.items []
      ended = ended_with at told rested over may_end told.locks.items [] closed last reclaimed

      abbrev w : View
      w = ended.view

      entries : w.entries ≡ drawn_more v.entries k (record { operation = Publish; reply = None } ∷ [])
      entries = ap (λ (u : View). u.entries) ended.reclaims.same ∙ (ap (λ (u : View). u.entries) ended.given ∙ (is.entries ∙ (λ i. drawn_more v.entries (same i) (call_is i))))

      none_now : pending_before w ≡ none_pending
      none_now = pending_behind_one v k Publish None w entries

      over_entries : over.entries ≡ w.entries
      over_entries = sym (ap (λ (u : View). u.entries) ended.reclaims.same ∙ ap (λ (u : View). u.entries) ended.given)

      none_over : pending_before over ≡ none_pending
      none_over = same_before w over over_entries ∙ none_now

      stands_over : StandsAtRest over
      stands_over = record {
        stands = none_reserved (with_next_call over) (ap (λ (p : Pending). p.reserved) (next_pending over (with_next_call over) (next_of over is.behind.place.lane (inl is.behind.log)) ∙ none_over));
        within = subst (λ (p : Pending). All (LiesInReserved over) (map reserved_object p.reserved)) (sym none_over) (All-nil (LiesInReserved over));
      }

      keeps_none : [] ≡ map block_of (map reserved_object (pending_before over).reserved)
      keeps_none = ap (λ (p : Pending). map block_of (map reserved_object p.reserved)) (sym none_over)

      module _ (o : Opening) (header : Header) (pool : PoolView) (start : View) (steps : List Step) (alone : WorksAlone o header pool start steps v) where
        unlocked : over.zone_locks ≡ []
        unlocked = log_unlocks (logs o header pool start steps alone) k is.ready

        begins_again : BeginsAgain (standing o w) header pool w
        begins_again = ended_begins_again o header pool at new over told.locks.items [] ended (ended_in o header pool start steps alone) unlocked

        rests_still : IsOfShape over new.shape → RestsStill o header pool w new.shape
        rests_still of_shape = record {
          rests = ended_rests at new over told.locks.items [] stands_over may_end.taken alone_over is.behind.log ended keeps_none o header pool new.shape of_shape begins_again;
          stands = ended_stands at new over told.locks.items [] stands_over may_end.taken alone_over is.behind.log ended keeps_none;
          quiet = ended_makes_none at new over told.locks.items [] unlocked ended;
        }

      lane_now : IsSameLane v w
      lane_now = same_lane-then v over w is.over.lane (ended_lane at new over told.locks.items [] ended)

      of_shape : IsOfShape over new.shape
      of_shape = let s = closed.rests.seen.shape in let g = closed.same in record {
        lanes = sym (ap (λ (u : View). u.lanes) g) ∙ s.lanes;
        zones = sym (ap (λ (u : View). u.zones) g) ∙ s.zones;
        size = sym (ap (λ (u : View). length u.words) g) ∙ s.size;
      }

      pub published_held : HasPublishedHeld at new pending blocks v
      published_held = record {
        lists = lists.of_call;
        logs = logs;
        ready = is.ready;
        over = subst (IsOver v over) same is.over;
        told = call_is;
        locks = told.locks.items;
        ended = ended;
        same = lane_now;
        idle = ap (λ (u : View). u.log) ended.reclaims.same ∙ (ap (λ (u : View). u.log) ended.given ∙ is.behind.log);
        entries = entries;
        none = none_now;
        keeps = λ o header pool start steps alone. rests_still o header pool start steps alone of_shape;
        begins = begins_again;
      }

-- or the lane stopped in it
pub stopped_held : {M : Type 0} (at : M → View → Type 0) (held lane : Lane M) (pending : PendingActions) (blocks : BlockLists) (v : View) (h : HoldsToPublish at held pending v) → 1 ≤ length pending.frees.items + length pending.reserved.items
    → ListsPending held.locks.items v blocks
    → ((o : Opening) (w : View) → HoldsAll o at held pending w → MayPublishPending held.locks.items w → IsStoppedAmong at lane w (publishes_pending w pending blocks lane.last) Publish None) → IsStoppedHeld at lane pending blocks v
stopped_held at held lane pending blocks v h some lists stops = record {
  lists = lists.of_call;
  logs = logs_of at held pending v h blocks lists (some_entries (holds_here at held pending v h) lists some);
  may_come = h.begun.may_come;
  stopped = stops h.world.0 v (holds_here at held pending v h) (may_here at held pending v h);
}
