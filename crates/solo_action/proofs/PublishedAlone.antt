-- Of a lane that works alone, and holds the objects of all that is pending: the pool has room for each block, the lane may enter each entry, and its publish is a call that one
-- log decides.
use Rattle.std.proofs.Common.{◌≡◌, inl, ◌+◌, ◌≤◌, All, List, [], ◌∷◌, ◌++◌, length, map, None, refl, slice_index, sym, ap, ◌∙◌, subst, arith}
use Rattle.std.proofs.lemmas.List.Elements.{All-append, All-nil, All-weaker}
use Rattle.solo_crash.proofs.Begun.{begin_opens}
use Rattle.solo_crash.proofs.CallBlocks.{blocks_once_more}
use Rattle.solo_crash.proofs.Leading.{leads_then}
use Rattle.solo_crash.proofs.LyingStill.{reserved_lies_free}
use Rattle.solo_crash.proofs.PendingOn.{published_once_more}
use Rattle.solo_crash.proofs.PublishedOutside.{publish_commits}
use Rattle.solo_crash.proofs.ReservedStays.{nothing_made, pending_at_rest}
use Rattle.solo_crash.proofs.StillReserved.{HasSameHeads, borne_published, borne_told}
use Rattle.solo_crash.specs.Alone.{WorksAlone}
use Rattle.solo_crash.specs.CallBlocks.{AgreesOnRoot, AllTellOfRoot, CallBlocks, FreeNoRoot, allocated_in, allocated_told, reserved_in}
use Rattle.solo_crash.specs.Leading.{Leads}
use Rattle.solo_crash.specs.OpenCall.{IsUnderWay}
use Rattle.solo_crash.specs.Operations.{TakesWanted}
use Rattle.solo_crash.specs.Pending.{pending_before, pending_in, sets_before}
use Rattle.solo_crash.specs.Reserved.{IsBorneOut, IsReservedFor, LiesFree, root_in}
use Rattle.solo_epoch.proofs.CallPools.{call_has_no_fault}
use Rattle.solo_epoch.proofs.GainedObjects.{stood}
use Rattle.solo_epoch.proofs.HeldApart.{opening_has_no_fault}
use Rattle.pm_header.specs.declared.header.Header.{Header}
use Rattle.pm_image.specs.HeapFaults.{heap_fault}
use Rattle.solo_made.specs.Entries.{entries_of, entry_freeing, entry_making}
use Rattle.solo_made.specs.Made.{BlockLists, ListsBlocks}
use Rattle.solo_model.specs.Actions.{Pending, wants_pending}
use Rattle.solo_model.specs.declared.stage.Stage.TheVariants as model_stage
use Rattle.pm_objects.specs.declared.calls.Operation.TheVariants.{Begin, Publish}
use Rattle.pm_objects.specs.declared.calls.Want.{Want}
use Rattle.pm_objects.specs.declared.history.TxErr.TheVariants as error
use Rattle.pm_objects.specs.declared.pool.PoolView.{PoolView}
use Rattle.solo_pending.specs.Pending.{entry_of}
use Rattle.solo_pending.specs.declared.pending.PendingActions.{PendingActions}
use Rattle.pm_record.specs.declared.redo.Redo.{Redo}
use Rattle.solo_redo.specs.Entering.{EntersHeap, IsOfPool, MayEnter}
use Rattle.solo_tx.proofs.BorneOut.{same_heads_outside}
use Rattle.solo_view.specs.Log.{Log, Phase}
use Rattle.solo_view.specs.Steps.{Step}
use Rattle.solo_view.specs.Steps.Step.{Tell}
use Rattle.solo_view.specs.View.{Told, View}
use Rattle.solo_view.specs.Views.{after}
use Rattle.solo_world.specs.Lawful.{MayTell}
use Rattle.solo_world.specs.Opening.{Opening}
use Rattle.solo_world.specs.declared.lane.Lane.{Lane}
use Rattle.solo_transaction.proofs.BlockChanges.{FreesAll, MakesAll, frees_all, frees_so, makes_all, makes_so}
use Rattle.solo_transaction.proofs.RestingViews.{lies_for}
use Rattle.solo_transaction.specs.AtWork.{LiesInReserved}
use Rattle.solo_transaction.specs.Committing.{MayPublishBlocks}
use Rattle.solo_transaction.specs.Published.{IsCommittedWith, IsToldBy, LogsCall}
use Rattle.solo_action.proofs.PendingLists.{as_many_freed, as_many_made, few_entries, few_pending, freed_not_root, freed_once, freed_under, made_within, none_published, redos, sets_of_pool, some_entries}
use Rattle.solo_action.specs.PublishingAll.{HoldsAll, ListsPending, MayPublishPending, entries_pending}

module _ {M : Type 0} {o : Opening} {at : M → View → Type 0} {lane : Lane M} {pending : PendingActions} {v : View} (h : HoldsAll o at lane pending v) where
  abbrev p : Pending
  p = pending_before v

  -- ---- what the lane has bears out the call, which told nothing

  none_allocated : allocated_in v ≡ []
  unfolding allocated_told
  none_allocated = ap (allocated_told (pending_before v)) h.untold

  agrees_before : AgreesOnRoot v (root_in (slice_index v.words))
  unfolding AllTellOfRoot
  agrees_before = subst (AllTellOfRoot (root_in (slice_index v.words)) (pending_before v)) (sym h.untold) tt

  not_root_in : FreeNoRoot (root_in (slice_index v.words)) (pending_in v).frees
  not_root_in = subst (λ (q : Pending). FreeNoRoot (root_in (slice_index v.words)) q.frees) (sym (pending_at_rest v h.untold)) h.not_root

  borne_before : IsBorneOut v
  borne_before = record {
    made = subst (λ (b : CallBlocks). All (IsReservedFor v) (b.made ++ b.dropped)) (sym (nothing_made v h.untold)) (All-nil (IsReservedFor v));
    pending = All-weaker (LiesInReserved v) (IsReservedFor v) (lies_for v) (reserved_in v) h.reserved_within;
    free = subst (All (LiesFree v)) (sym none_allocated) (All-nil (LiesFree v));
    root = agrees_before;
  }

  -- ---- once the publish is told, of what is reserved in room that the words have free

  module _ {blocks : BlockLists} (lists : ListsPending lane.locks.items v blocks) (free : All (LiesFree v) (reserved_in v)) (next : View) (is : IsToldBy v next Publish) where
    heads : HasSameHeads v next
    heads = let keeps = is.tells.keeps in same_heads_outside v next h.working.area.lane keeps.lanes keeps.zones is.reserved is.words.words

    borne_out : IsBorneOut next
    borne_out = let t = is.tells in borne_published v next heads t.keeps.entries t.call free not_root_in borne_before

    pub told_publish : IsCommittedWith next (sets_before v) blocks
    told_publish =
        let t = is.tells in
        record {
          committed = publish_commits v next h.has_reserved (record {
            untold = h.untold;
            tells = t;
            words = is.words;
            no_records = is.records ∙ ap (λ (log : Log). log.records) h.log;
            holds = h.holds;
            frees = h.frees;
            each = h.each;
          });
          borne_out = borne_out;
          published =
              published_once_more v next Publish None t.keeps.entries t.call
              ∙ (λ j. none_published v h.untold j ++ (pending_at_rest v h.untold j).sets);
          lists = subst (λ b. ListsBlocks blocks b) (sym (blocks_once_more v next Publish None t.keeps.entries t.call)) lists.of_call;
        }

  -- ---- of a lane that works alone

  module _ {header : Header} {pool : PoolView} {start : View} {steps : List Step} (works : WorksAlone o header pool start steps v) where
    abbrev wants : List Want
    wants = wants_pending p

    -- as if a transaction had begun with the locks that it holds: the words have no fault then
    abbrev begun : View
    begun = after v (Tell (Begin wants) None)

    leads_begun : Leads v (Tell (Begin wants) None ∷ []) begun
    unfolding Leads
    leads_begun = (subst (λ (phase : Phase). MayTell phase) (sym h.working.is_open) tt, tt, tt, refl)

    works_begun : WorksAlone o header pool start (steps ++ Tell (Begin wants) None ∷ []) begun
    works_begun = record { begins = works.begins; leads = leads_then start v begun steps (Tell (Begin wants) None ∷ []) works.leads leads_begun; numbered = works.numbered; within = works.within }

    call_begun : begun.call ≡ record { operation = Begin wants; reply = None } ∷ []
    call_begun = ap (λ (told : List Told). told ++ record { operation = Begin wants; reply = None } ∷ []) h.untold

    takes_begun : TakesWanted begun [] wants
    takes_begun =
        let takes = h.holds.holds.takes in
        record {
          few = takes.few;
          locks = takes.locks;
          wanted = λ want there.
              let t = takes.wanted want there in
              record { place = t.place; held = record { lock = t.held.lock; lines = t.held.lines; held = t.held.held; block = t.held.block; allows = t.held.allows; of_pool = t.held.of_pool; place = t.held.place } };
          chunks = takes.chunks;
        }

    under_way : IsUnderWay begun 1 model_stage.Work error.None
    under_way = (begin_opens begun wants (record {
      call = call_begun;
      no_records = ap (λ (log : Log). log.records) h.log;
      no_entries = ap (λ (log : Log). log.entries) h.log;
      in_lanes = h.holds.holds.in_lanes;
      takes = takes_begun;
    })).under_way

    heads_begun : HasSameHeads v begun
    heads_begun = record { lanes = refl; zones = refl; reserved = refl; described = λ c in_pool. refl; bitmaps = λ c in_pool run. refl; root = refl }

    borne_begun : IsBorneOut begun
    borne_begun = borne_told v begun heads_begun (Begin wants) None refl refl (refl, refl) tt borne_before

    no_fault : heap_fault (slice_index v.words) o.lanes o.zones ≡ None
    no_fault =
        call_has_no_fault o header pool begun (stood o header pool start begun (steps ++ Tell (Begin wants) None ∷ []) works_begun) h.working.is_open 1 model_stage.Work error.None under_way borne_begun

    -- what is reserved lies in room that the words have free
    reserved_free : All (LiesFree v) (reserved_in v)
    reserved_free = All-weaker (IsReservedFor v) (LiesFree v) (reserved_lies_free o header pool start v steps works) (reserved_in v) borne_before.pending

    module _ {blocks : BlockLists} (lists : ListsPending lane.locks.items v blocks) where
      frees : FreesAll v blocks.freed
      frees = frees_all v blocks.freed
          (λ f there. frees_so o header pool v (stood o header pool start v steps works) h.alone (opening_has_no_fault o header pool start v steps works) no_fault f (freed_under h lists f there) (freed_not_root h lists f there))

      makes : MakesAll v blocks.made
      makes = makes_all v blocks.made (λ m there. makes_so o header pool v (stood o header pool start v steps works) h.alone (opening_has_no_fault o header pool start v steps works) no_fault m (made_within h lists m there))

      pub may_publish_blocks : MayPublishBlocks v blocks
      may_publish_blocks = record {
        freed = frees.in_pool;
        made = makes.in_pool;
        enters = All-append (EntersHeap v) (map (entry_freeing v.lanes) blocks.freed) (map (entry_making v.lanes) blocks.made) frees.enters makes.enters;
        few =
            (let none = ap length (none_published v h.untold) in let freed = as_many_freed h lists in let made = as_many_made h lists in let few = few_pending h in
            omega (arith, none, freed, made, few));
      }

      pub publish_logs_some : 1 ≤ length (entries_pending pending v.lanes blocks) → LogsCall o header pool start steps Publish (sets_before v) blocks v (entries_pending pending v.lanes blocks)
      publish_logs_some some = record {
        works = works;
        working = h.working;
        no_entries = ap (λ (log : Log). log.entries) h.log;
        alone = h.alone;
        not_making = h.not_making;
        are = ap (λ (es : List Redo). es ++ entries_of v.lanes blocks) (redos h);
        some = some;
        few = few_entries h lists;
        may_set = All-weaker (IsOfPool v) (MayEnter v) (λ e own. inl own) (map entry_of (sets_before v)) (sets_of_pool h);
        enters_heap = may_publish_blocks.enters;
        told = told_publish lists reserved_free;
        freed_once = freed_once h lists;
        freed_under = freed_under h lists;
        not_root = freed_not_root h lists;
        made_within = made_within h lists;
      }

      pub publish_logs : 1 ≤ length pending.frees.items + length pending.reserved.items → LogsCall o header pool start steps Publish (sets_before v) blocks v (entries_pending pending v.lanes blocks)
      publish_logs some = publish_logs_some (some_entries h lists some)

    pub may_publish_pending : MayPublishPending lane.locks.items v
    may_publish_pending blocks lists = may_publish_blocks lists
