-- What a lane that works alone has once it made an object in a transaction and told an operation of it: it is at work still, and what it reserved before lies in its words as it did.
use Rattle.std.proofs.Common.{◌≡◌, inl, inr, ℕ, ◌+◌, ◌*◌, ◌/◌, ◌≤◌, true, false, IsTrue, is_some, List, [], ◌∷◌, ◌++◌, Contains, map, slice_index, Option, sym, ap, ◌∙◌, subst, arith, eqb}
use Rattle.std.specs.List.{All}
use Rattle.std.specs.Option.{ForSome}
use Rattle.std.proofs.lemmas.Bool.{and_parts, eqb-true, false_from_ne_true, leb-true}
use Rattle.std.proofs.lemmas.List.{append-nil}
use Rattle.std.proofs.lemmas.List.Elements.{All-contains, All-contains_itself, All-weaker}
use Rattle.std.proofs.lemmas.List.Folds.{Any-from_list_any}
use Rattle.pm_header.specs.declared.header.Header.{Header}
use Rattle.pm_image.specs.declared.block.Block.{Block}
use Rattle.pm_image.specs.Blocks.{descriptor_word}
use Rattle.pm_objects.specs.declared.calls.Operation.{Operation}
use Rattle.pm_objects.specs.declared.history.Value.{Value}
use Rattle.pm_objects.specs.declared.pool.PoolView.{PoolView}
use Rattle.solo_view.specs.Area.{is_in_area}
use Rattle.solo_view.specs.Blocks.{chunk_of, zone_page}
use Rattle.solo_view.specs.Log.{Log}
use Rattle.solo_view.specs.Steps.{Step}
use Rattle.solo_view.specs.Steps.Step.{Tell}
use Rattle.solo_view.specs.View.{Lock, View}
use Rattle.solo_view.specs.Views.{after, reserves}
use Rattle.solo_world.proofs.Apart.{area_bounds}
use Rattle.solo_world.specs.Lanes.{span_of}
use Rattle.solo_world.specs.Opening.{Opening}
use Rattle.solo_world.specs.declared.lane.Lane.{Lane}
use Rattle.solo_undo.specs.Spans.{IsSpan}
use Rattle.solo_lock.specs.Finding.{FindsObject}
use Rattle.solo_crash.proofs.PendingOn.{published_once_more}
use Rattle.solo_crash.specs.Alone.{WorksAlone}
use Rattle.solo_crash.specs.CallBlocks.{NewObject, blocks_in, is_freed_in}
use Rattle.solo_crash.specs.HeapChanges.{run_at}
use Rattle.solo_crash.specs.Pending.{pending_in, published_by, published_in}
use Rattle.solo_crash.specs.NewObjects.{block_of_chunks, block_of_run}
use Rattle.solo_crash.specs.Reserved.{IsReservedFor, IsUnusedChunk}
use Rattle.solo_made.proofs.CallLists.{freed_is}
use Rattle.solo_made.specs.Made.{BlockLists}
use Rattle.solo_made.specs.declared.objects.Freed.{Freed}
use Rattle.solo_alloc.specs.NewObjects.{HasNewObject}
use Rattle.solo_epoch.proofs.GainedObjects.{object_gained, stood}
use Rattle.solo_epoch.proofs.GainedRooms.{Gains, IsOfItsRun}
use Rattle.solo_epoch.proofs.OpeningSeen.{finds_opening}
use Rattle.solo_epoch.specs.Allocating.{IsCallAlone, IsCallAloneStill, IsFoundAt, MakesObject, object_in_block}
use Rattle.solo_tx.proofs.Objects.{is_found}
use Rattle.solo_tx.proofs.GoingOn.{HasSameFields, KeepsObjects, goes_on}
use Rattle.solo_tx.proofs.NoneMade.{LeavesMade, made_none_before}
use Rattle.solo_tx.specs.AtWork.{IsAtWork}
use Rattle.solo_transaction.proofs.Owned.{under_its_lock}
use Rattle.solo_transaction.specs.Allocating.{MayAllocate}
use Rattle.solo_transaction.specs.AtWork.{IsAtWorkWith, IsHeldFreed, LiesInReserved}

-- ---- what is asked of a lane alone, from what it has at work

module _ {M : Type 0} (o : Opening) (at : M → View → Type 0) (lane : Lane M) (blocks : BlockLists) (v : View) (is : IsAtWorkWith o at lane blocks v) where
  pub all_found : All (λ (l : Lock). IsTrue (is_some l.block)) v.locks
  all_found = All-weaker (Contains v.locks) (λ (l : Lock). IsTrue (is_some l.block)) (λ l held. is_found v is.work.objects l held) v.locks (All-contains_itself v.locks)

  -- each object that the call freed it found under a lock that it has
  pub freed_found : (off : ℕ) → is_freed_in v off ≡ true → IsFoundAt v off
  freed_found off freed =
      let t = Any-from_list_any (λ (f : Freed). eqb f.off off) blocks.freed (freed_is blocks (blocks_in v) off is.lists ∙ freed) in
      let held : IsHeldFreed lane.locks.items t.1 = All-contains (IsHeldFreed lane.locks.items) blocks.freed t.1 is.freed_held (t.0, t.2, t.3) in
      let under = under_its_lock o at lane blocks v is t.1.off t.1.lines held in
      record { lock = under.lock; lines = t.1.lines; held = under.held; found = under.block; place = sym (eqb-true t.1.off off t.4) ∙ under.place }

  -- the size of an object that it found stands outside of its area
  size_outside : (l : Lock) → Contains v.locks l → is_in_area v.lane (8 * l.line + 1) ≡ false
  size_outside l held = false_from_ne_true (is_in_area v.lane (8 * l.line + 1)) (λ area.
      let object : FindsObject v l = is.work.objects l held in
      let chunk = is.work.under_way.chunks l object.lines held object.block in
      let low = leb-true (zone_page v.lanes 0) (l.line / 64) (and_parts _ _ chunk).0 in
      let some = leb-true 1 (chunk_of v.lanes (l.line / 64)) (and_parts _ _ chunk).1 in
      let high = (area_bounds v.lane (8 * l.line + 1) area).1 in
      let lane = is.work.under_way.in_lanes in
      omega (arith, low, high, lane))

-- ---- the object is made

module _ {M : Type 0} (o : Opening) (at : M → View → Type 0) (lane : Lane M) (blocks : BlockLists) (v : View) (may : MayAllocate o at lane blocks v) (u : View) (size kind : ℕ) (block : Block)
    (made : HasNewObject (λ w. w ≡ u) v size kind block) (header : Header) (pool : PoolView) (start : View) (steps : List Step) (alone : WorksAlone o header pool start steps v)
    (within : ForSome u.stop (λ stop. u.calls ≤ stop)) where
  abbrev n : NewObject
  n = object_in_block block size kind

  is : IsAtWorkWith o at lane blocks v
  is = may.works

  pub makes : MakesObject v u size kind block
  makes = record { made = made; within = within }

  pub call_alone : IsCallAlone o header pool start steps v lane.shape lane.level
  call_alone = record {
    works = alone;
    can = may.can;
    under_way = is.work.under_way;
    borne_out = is.borne_out;
    locked = all_found o at lane blocks v is;
    freed = freed_found o at lane blocks v is;
  }

  pub has_gained : Gains v u n
  has_gained = object_gained o header pool start v steps alone lane.shape may.can (all_found o at lane blocks v is) u size kind block makes

  -- what is told of it then
  module _ (op : Operation) (reply : Option Value) where
    abbrev w : View
    w = after u (Tell op reply)

    objects : KeepsObjects v w
    objects =
        let s = has_gained.still.same_lane in
        record {
          lane = record { lanes = s.lanes; zones = s.zones; pool = s.pool; lane = s.lane; stop = s.stop; table = s.table; size = s.size };
          locks = has_gained.still.locks;
          number = has_gained.still.number;
          entries = has_gained.still.entries;
          remembers = has_gained.still.known;
          seen = has_gained.still.seen;
          sizes = λ l held. has_gained.words (8 * l.line + 1) (is.work.objects l held).known (size_outside o at lane blocks v is l held);
        }

    pub made_at_work : (still : IsCallAloneStill o header pool start steps w lane.shape lane.level) → w.call ≡ v.call ++ record { operation = op; reply = reply } ∷ [] → published_by op reply (pending_in v) ≡ [] → LeavesMade op reply
        → (next : Lane M) → HasSameFields lane next → next.records ≡ lane.records → at next.memory w → IsAtWork o at next w
    made_at_work still told none leaves next fields records seen =
        goes_on o at lane next v w is.work fields objects seen
        (ap (λ rs. rs.items) records ∙ (is.work.seen.records ∙ ap (λ (l : Log). map span_of l.records) (sym has_gained.still.log)))
        (subst (λ rs. All IsSpan rs.items) (sym records) is.work.spans)
        (finds_opening o header pool w (stood o header pool start w (steps ++ still.more) still.alone.works))
        still.alone.can.run.working
        (ap (λ (l : Log). l.entries) has_gained.still.log ∙ is.work.no_entries)
        (published_once_more v w op reply has_gained.still.entries told ∙ ((λ j. published_in v ++ none j) ∙ append-nil (published_in v)))
        (made_none_before v w op reply has_gained.still.entries told leaves)
        still.alone.under_way

    -- it lies whole in what the lane reserved
    lies_in_its : (own : IsReservedFor u n) → IsOfItsRun u n own → LiesInReserved w n
    lies_in_its (inl run) inside = inl (
      record { chunk = run.chunk; lines = run.lines; index = run.index; in_pool = run.in_pool; low = run.low; described = run.described; reserved = run.reserved; is_block = run.is_block },
      inside,
    )
    lies_in_its (inr has) inside = inr (record {
      zone = has.zone;
      first = has.first;
      count = has.count;
      in_pool = has.in_pool;
      low = has.low;
      fits = has.fits;
      unused = λ j near. let t = has.unused j near in record { reserved = t.reserved; undescribed = t.undescribed };
      is_block = has.is_block;
    })

    pub lies_new : LiesInReserved w n
    lies_new = lies_in_its has_gained.own has_gained.within

    -- what it had lies there still
    pub lies_still : (m : NewObject) → LiesInReserved v m → LiesInReserved w m
    lies_still m (inl t) =
        let run = t.0 in
        let lanes = has_gained.still.lanes in let zones = has_gained.still.zones in let in_pool = run.in_pool in
        let keeps = has_gained.keeps.runs run.chunk run.lines run.index run.in_pool run.low run.described run.reserved in
        inl (
          record {
            chunk = run.chunk;
            lines = run.lines;
            index = run.index;
            in_pool = omega (arith, in_pool, zones);
            low = run.low;
            described = ap (λ k. slice_index w.words (descriptor_word k run.chunk)) lanes ∙ keeps.0;
            reserved = ap (λ k. reserves w (run_at k run.chunk) run.index) lanes ∙ keeps.1;
            is_block = run.is_block ∙ ap (λ k. block_of_run k run.chunk run.lines run.index) (sym lanes);
          },
          t.1,
        )
    lies_still m (inr has) =
        let lanes = has_gained.still.lanes in let zones = has_gained.still.zones in let in_pool = has.in_pool in let fits = has.fits in
        inr (record {
          zone = has.zone;
          first = has.first;
          count = has.count;
          in_pool = omega (arith, in_pool, zones);
          low = has.low;
          fits = has.fits;
          unused = λ j near.
              let t = has_gained.keeps.chunks has.zone (has.first + j) has.in_pool (omega (arith, fits, near)) (has.unused j near) in
              subst (λ k. IsUnusedChunk k w has.zone (has.first + j)) (sym lanes) (record { reserved = t.reserved; undescribed = t.undescribed });
          is_block = has.is_block ∙ ap (λ k. block_of_chunks k (64 * has.zone + has.first) has.count) (sym lanes);
        })
