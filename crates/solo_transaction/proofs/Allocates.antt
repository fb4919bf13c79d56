-- Where a lane that works alone made an object and told it, it is at work still, and may make another.
use Rattle.std.proofs.Common.{◌≡◌, ◌⊎◌, inl, inr, ℕ, ◌+◌, ◌≤◌, List, [], ◌∷◌, ◌++◌, Contains, map, length, Some, refl, sym, ap, ◌∙◌, subst, arith}
use Rattle.std.specs.List.{All}
use Rattle.std.specs.Option.{ForSome}
use Rattle.std.proofs.lemmas.List.Elements.{All-weaker, Contains-push_cases}
use Rattle.pm_header.specs.declared.header.Header.{Header}
use Rattle.pm_image.specs.declared.block.Block.{Block}
use Rattle.solo_model.specs.Actions.{Pending, max_entries}
use Rattle.pm_objects.specs.declared.calls.Operation.TheVariants.{Alloc}
use Rattle.pm_objects.specs.declared.history.Value.TheVariants.{Offset}
use Rattle.pm_objects.specs.declared.pool.PoolView.{PoolView}
use Rattle.solo_view.specs.Steps.{Step}
use Rattle.solo_view.specs.View.{View}
use Rattle.solo_world.specs.Opening.{Opening}
use Rattle.solo_world.specs.declared.lane.Lane.{Lane}
use Rattle.solo_crash.proofs.CallBlocks.{blocks_once_more}
use Rattle.solo_crash.proofs.PendingOn.{pending_once_more}
use Rattle.solo_crash.proofs.ReservedStays.{alloc_stays}
use Rattle.solo_crash.specs.Alone.{WorksAlone}
use Rattle.solo_crash.specs.CallBlocks.{CallBlocks, NewObject, blocks_in, reserved_in, reserved_object, with_made}
use Rattle.solo_crash.specs.Operations.{AllocatesObject, entries_so_far}
use Rattle.solo_made.specs.Made.{BlockLists, ListsBlocks}
use Rattle.solo_alloc.specs.NewObjects.{CanMakeObject, HasNewObject}
use Rattle.solo_epoch.proofs.GainedRooms.{Gains}
use Rattle.solo_epoch.proofs.ToldObjects.{allocates, goes_on as told_goes_on}
use Rattle.solo_epoch.specs.Allocating.{IsCallAlone, IsCallAloneStill, object_in_block, with_object_told}
use Rattle.solo_tx.proofs.GoingOn.{HasSameFields}
use Rattle.solo_tx.specs.AtWork.{IsAtWork}
use Rattle.solo_transaction.proofs.GainedAtWork.{call_alone, has_gained, lies_new, lies_still, made_at_work}
use Rattle.solo_transaction.specs.Allocating.{MayAllocate, made_in_block}
use Rattle.solo_transaction.proofs.NotMaking.{not_making_able}
use Rattle.solo_transaction.specs.AtWork.{IsAtWorkWith, IsHeldFreed, LiesInReserved}
use Rattle.solo_crash.specs.Reserved.{LiesFree, IsReservedFor}
use Rattle.solo_crash.proofs.LyingStill.{reserved_lies_free}

-- ---- the object is made and told

module _ {M : Type 0} (o : Opening) (at : M → View → Type 0) (lane : Lane M) (blocks : BlockLists) (v : View) (may : MayAllocate o at lane blocks v) (u : View) (size kind : ℕ) (block : Block)
    (made : HasNewObject (λ w. w ≡ u) v size kind block) (some : 1 ≤ size) (most : size ≤ 262080) (room : entries_so_far v + 2 ≤ max_entries)
    (header : Header) (pool : PoolView) (start : View) (steps : List Step) (alone : WorksAlone o header pool start steps v) (within : ForSome u.stop (λ stop. u.calls ≤ stop)) where
  abbrev n : NewObject
  n = object_in_block block size kind

  abbrev w : View
  w = with_object_told u n

  is : IsAtWorkWith o at lane blocks v
  is = may.works

  call : IsCallAlone o header pool start steps v lane.shape lane.level
  call = call_alone o at lane blocks v may u size kind block made header pool start steps alone within

  gains : Gains v u n
  gains = has_gained o at lane blocks v may u size kind block made header pool start steps alone within

  still : IsCallAloneStill o header pool start steps w lane.shape lane.level
  still = told_goes_on o header pool start steps v lane.shape lane.level call u size kind block (record { made = made; within = within }) is.work.level some most room

  pub is_allocated : AllocatesObject v w n
  is_allocated = allocates o header pool start steps v lane.shape lane.level call u size kind block (record { made = made; within = within }) some most room

  works : (next : Lane M) → HasSameFields lane next → next.records ≡ lane.records → at next.memory w → IsAtWork o at next w
  works = made_at_work o at lane blocks v may u size kind block made header pool start steps alone within (Alloc size kind) (Some (Offset n.off)) still is_allocated.tells.call refl tt

  -- ---- its lists

  lists_are : blocks_in w ≡ with_made n (blocks_in v)
  lists_are = blocks_once_more v w (Alloc size kind) (Some (Offset n.off)) gains.still.entries is_allocated.tells.call

  lies_before : (m : NewObject) → LiesInReserved v m → LiesInReserved w m
  lies_before = lies_still o at lane blocks v may u size kind block made header pool start steps alone within (Alloc size kind) (Some (Offset n.off))

  reserved_still : All (LiesInReserved w) (reserved_in w)
  reserved_still =
      subst (λ (p : Pending). All (LiesInReserved w) (map reserved_object p.reserved)) (sym (pending_once_more v w (Alloc size kind) (Some (Offset n.off)) gains.still.entries is_allocated.tells.call))
      (All-weaker (LiesInReserved v) (LiesInReserved w) lies_before (reserved_in v) is.reserved_within)

  lies_within : (m : NewObject) → Contains (blocks_in v).made m ⊎ (n ≡ m) → LiesInReserved w m
  lies_within m (inl before) = lies_before m (is.within m before)
  lies_within m (inr new) = subst (LiesInReserved w) new (lies_new o at lane blocks v may u size kind block made header pool start steps alone within (Alloc size kind) (Some (Offset n.off)))

  pub still_at_work : (next : Lane M) → HasSameFields lane next → next.records ≡ lane.records → at next.memory w → (now : BlockLists)
      → now ≡ record blocks { made = blocks.made ++ made_in_block block size kind ∷ [] } → ((call : CallBlocks) → ListsBlocks blocks call → ListsBlocks now (with_made n call)) → MayAllocate o at next now w
  still_at_work next fields records seen now listed of_call = record {
    works = record {
      work = works next fields records seen;
      lists = subst (ListsBlocks now) (sym lists_are) (of_call (blocks_in v) is.lists);
      pages = (let pages = is.pages in let same = ap (λ (b : BlockLists). length b.dropped) listed in let lanes = gains.still.lanes in let zones = gains.still.zones in omega (arith, pages, same, lanes, zones));
      alone = gains.still.same_lane.table ∙ is.alone;
      not_making = not_making_able w lane.shape still.alone.can;
      borne_out = still.alone.borne_out;
      freed_held = subst (λ (b : BlockLists). All (IsHeldFreed next.locks.items) b.freed) (sym listed) (subst (λ ls. All (IsHeldFreed ls.items) blocks.freed) (sym fields.locks) is.freed_held);
      within = λ m there. lies_within m (Contains-push_cases (blocks_in v).made n m (subst (λ (b : CallBlocks). Contains b.made m) lists_are there));
      has_reserved = alloc_stays v w n is.has_reserved is_allocated;
      reserved_within = reserved_still;
      reserved_free =
          All-weaker (IsReservedFor w) (LiesFree w) (reserved_lies_free o header pool start w (steps ++ still.more) still.alone.works) (reserved_in w) still.alone.borne_out.pending;
    };
    can = subst (CanMakeObject w) (sym fields.shape) still.alone.can;
  }
