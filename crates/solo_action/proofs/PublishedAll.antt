-- A lane that holds the objects of all that is pending, and may enter the entries of the blocks, publishes it with the entries that it lists.
use Rattle.std.proofs.Common.{◌≡◌, ◌⊎◌, inl, inr, ◌+◌, ◌≤◌, true, All, List, [], ◌++◌, length, map, None, Ok, Some, sym, ap, ◌∙◌, subst}
use Rattle.std.proofs.lemmas.List.Elements.{All-append, All-weaker}
use Rattle.solo_crash.specs.Pending.{sets_before}
use Rattle.solo_made.specs.Entries.{entries_of}
use Rattle.solo_made.specs.Made.{BlockLists}
use Rattle.pm_objects.specs.declared.calls.Operation.TheVariants.{Publish}
use Rattle.solo_pending.specs.Pending.{entry_of, redo_for}
use Rattle.solo_pending.specs.declared.pending.PendingActions.{PendingActions}
use Rattle.pm_record.specs.declared.redo.Redo.{Redo}
use Rattle.solo_redo.specs.Entering.{EntersHeap, IsOfPool, MayEnter}
use Rattle.solo_redo.specs.Sequences.{logs}
use Rattle.solo_tx.specs.Ending.{IsStoppedAmong}
use Rattle.solo_view.specs.Log.{Log}
use Rattle.solo_view.specs.View.{View}
use Rattle.solo_world.proofs.Shapes.{IsOfSamePool}
use Rattle.solo_world.specs.Lanes.{IsSeenAs}
use Rattle.solo_world.specs.Opening.{Opening}
use Rattle.solo_world.specs.Sequences.{IsStopped, Runs, in_turn, settles}
use Rattle.solo_world.specs.declared.lane.Lane.{Lane}
use Rattle.solo_transaction.specs.Committing.{MayPublishBlocks}
use Rattle.solo_transaction.specs.Published.{logs_call}
use Rattle.solo_action.proofs.LoggedSteps.{behind_log, log_last, log_lawful, stopped_logging}
use Rattle.solo_action.proofs.PendingLists.{few_entries, redos, sets_of_pool, some_entries}
use Rattle.solo_action.specs.PublishingAll.{HasPublishedAll, HoldsAll, ListsPending, MayLogCall, StopsDecided, entries_pending}

module _ {M : Type 0} {o : Opening} {at : M → View → Type 0} {lane : Lane M} {pending : PendingActions} {v : View} (h : HoldsAll o at lane pending v) {blocks : BlockLists} (lists : ListsPending lane.locks.items v blocks)
    (may : MayPublishBlocks v blocks) (some : 1 ≤ length pending.frees.items + length pending.reserved.items) where
  abbrev all : List Redo
  all = entries_pending pending v.lanes blocks

  may_enter : All (MayEnter v) all
  may_enter = All-append (MayEnter v) (map redo_for pending.sets.items) (entries_of v.lanes blocks)
      (subst (All (MayEnter v)) (sym (redos h)) (All-weaker (IsOfPool v) (MayEnter v) (λ e own. inl own) (map entry_of (sets_before v)) (sets_of_pool h)))
      (All-weaker (EntersHeap v) (MayEnter v) (λ e heap. inr heap) (entries_of v.lanes blocks) may.enters)

  may_log : MayLogCall v all
  may_log = record {
    working = h.working;
    no_entries = ap (λ (log : Log). log.entries) h.log;
    some = some_entries h lists some;
    few = few_entries h lists;
    each = may_enter;
    may_come = h.may_come;
  }

  -- once the lane lists them
  module _ (next : Lane M) (fields : next ≡ record lane { entries = next.entries }) (are : next.entries.items ≡ lane.entries.items ++ entries_pending pending lane.shape.lanes blocks) where
    listed : next.entries.items ≡ all
    listed = are ∙ (λ j. h.unlisted j ++ entries_pending pending (sym h.seen.shape.lanes j) blocks)

    pub seen : IsSeenAs at next v
    seen =
        let s = h.seen in let shape = s.shape in
        subst (λ (l : Lane M). IsSeenAs at l v) (sym fields)
        (record { memory = s.memory; pool = s.pool; shape = record { lanes = shape.lanes; zones = shape.zones; size = shape.size }; locks = s.locks; records = s.records; drawn = s.drawn; last = s.last })

    pub may_log_listed : MayLogCall v next.entries.items
    may_log_listed = subst (MayLogCall v) (sym listed) may_log

    module _ (new : Lane M) where
      -- the log was performed
      pub published_all : Runs {T = Unit {0}} (at next.memory) (at new.memory) (logs_call Publish next.entries.items new.last) (Ok tt) → new.locks.items ≡ next.locks.items → new.records.items ≡ [] → new.entries.items ≡ [] → new.drawn ≡ Some new.last → IsOfSamePool next new
          → new.stopped ≡ next.stopped → HasPublishedAll at new v (logs_call Publish all new.last)
      published_all ran locks none unlisted drawn pool stops =
          let lawful = log_lawful v all may_log Publish new.last in
          let last = log_last v all may_log Publish new.last in
          record {
            ready = lawful.0;
            behind = behind_log at next v seen Publish all may_log new h.lines (subst (λ (es : List Redo). Runs {T = Unit {0}} (at next.memory) (at new.memory) (logs_call Publish es new.last) (Ok tt)) listed ran)
                locks none unlisted drawn pool (stops ∙ (ap (λ (l : Lane M). l.stopped) fields ∙ h.unstopped));
            over = lawful.1;
            told = last.0;
            entries = last.1.entries;
          }

      -- or the lane stopped
      pub stopped_publishing_all : ((new.drawn ≡ next.drawn) × IsStopped (at next.memory) (at new.memory) (in_turn settles (logs next.entries.items))) ⊎ ((new.drawn ≡ Some new.last) × StopsDecided (at next.memory) (at new.memory) next.entries.items Publish new.last) → new.stopped ≡ true
          → IsStoppedAmong at new v (logs_call Publish all new.last) Publish None
      stopped_publishing_all stops says =
          stopped_logging at next v seen Publish all may_log new
          (subst (λ (es : List Redo). ((new.drawn ≡ next.drawn) × IsStopped (at next.memory) (at new.memory) (in_turn settles (logs es))) ⊎ ((new.drawn ≡ Some new.last) × StopsDecided (at next.memory) (at new.memory) es Publish new.last)) listed stops) says
