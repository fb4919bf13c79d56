-- Where a lane that works alone made an object and told it as reserved, it is at work still, and may make another.
use Rattle.std.proofs.Common.{◌≡◌, ℕ, ◌<◌, ◌≤◌, List, [], ◌∷◌, ◌++◌, Contains, map, replicate, Some, refl, sym, ap, ◌∙◌, subst, arith}
use Rattle.std.specs.List.{All}
use Rattle.std.specs.Option.{ForSome}
use Rattle.std.proofs.lemmas.List.{length-replicate}
use Rattle.std.proofs.lemmas.List.Elements.{All-cons, All-head, All-nil, All-tail, All-weaker}
use Rattle.pm_header.specs.declared.header.Header.{Header}
use Rattle.pm_image.specs.declared.block.Block.{Block}
use Rattle.solo_model.specs.Actions.{Pending, Reservation, max_actions, pending_count, with_reservation}
use Rattle.pm_objects.specs.declared.calls.Operation.TheVariants.{Reserve}
use Rattle.pm_objects.specs.declared.history.Value.TheVariants.{Offset}
use Rattle.pm_objects.specs.declared.pool.PoolView.{PoolView}
use Rattle.solo_view.specs.Steps.{Step}
use Rattle.solo_view.specs.View.{View}
use Rattle.solo_world.specs.Opening.{Opening}
use Rattle.solo_world.specs.declared.lane.Lane.{Lane}
use Rattle.solo_crash.proofs.CallBlocks.{blocks_once_more}
use Rattle.solo_crash.proofs.PendingOn.{pending_once_more}
use Rattle.solo_crash.specs.Alone.{WorksAlone}
use Rattle.solo_crash.specs.CallBlocks.{CallBlocks, NewObject, blocks_in, reserved_in, reserved_object}
use Rattle.solo_crash.specs.Pending.{pending_in}
use Rattle.solo_crash.specs.Reserving.{HasReserved, ReservesObject}
use Rattle.solo_alloc.specs.NewObjects.{CanMakeObject, HasNewObject}
use Rattle.solo_epoch.proofs.GainedRooms.{Gains}
use Rattle.solo_epoch.proofs.ToldReservations.{call_goes_on, call_reserves, call_stands}
use Rattle.solo_epoch.specs.Allocating.{IsCallAlone, IsCallAloneStill, object_in_block}
use Rattle.solo_epoch.specs.Reserving.{with_object_reserved}
use Rattle.solo_made.specs.Made.{BlockLists, ListsBlocks}
use Rattle.solo_tx.proofs.GoingOn.{HasSameFields}
use Rattle.solo_tx.specs.AtWork.{IsAtWork}
use Rattle.solo_transaction.proofs.GainedAtWork.{call_alone, has_gained, lies_new, lies_still, made_at_work}
use Rattle.solo_transaction.proofs.NotMaking.{not_making_able}
use Rattle.solo_transaction.specs.Allocating.{MayAllocate}
use Rattle.solo_transaction.specs.AtWork.{IsAtWorkWith, IsHeldFreed, LiesInReserved}
use Rattle.solo_crash.specs.Reserved.{LiesFree, IsReservedFor}
use Rattle.solo_crash.proofs.LyingStill.{reserved_lies_free}

-- the one that is reserved last, and those before it
each_more : (P : NewObject → Type 0) (rs : List Reservation) (r : Reservation) → All P (map reserved_object rs) → P (reserved_object r) → All P (map reserved_object (rs ++ r ∷ []))
each_more P [] r each new = All-cons P (reserved_object r) [] new (All-nil P)
each_more P (s ∷ rs) r each new =
    All-cons P (reserved_object s) (map reserved_object (rs ++ r ∷ [])) (All-head P (reserved_object s) (map reserved_object rs) each) (each_more P rs r (All-tail P (reserved_object s) (map reserved_object rs) each) new)

module _ {M : Type 0} (o : Opening) (at : M → View → Type 0) (lane : Lane M) (blocks : BlockLists) (v : View) (may : MayAllocate o at lane blocks v) (u : View) (size kind : ℕ) (block : Block)
    (made : HasNewObject (λ w. w ≡ u) v size kind block) (some : 1 ≤ size) (most : size ≤ 262080) (room : pending_count (pending_in v) < max_actions)
    (header : Header) (pool : PoolView) (start : View) (steps : List Step) (alone : WorksAlone o header pool start steps v) (within : ForSome u.stop (λ stop. u.calls ≤ stop)) where
  abbrev n : NewObject
  n = object_in_block block size kind

  abbrev w : View
  w = with_object_reserved u n

  is : IsAtWorkWith o at lane blocks v
  is = may.works

  call : IsCallAlone o header pool start steps v lane.shape lane.level
  call = call_alone o at lane blocks v may u size kind block made header pool start steps alone within

  gains : Gains v u n
  gains = has_gained o at lane blocks v may u size kind block made header pool start steps alone within

  still : IsCallAloneStill o header pool start steps w lane.shape lane.level
  still = call_goes_on o header pool start steps v lane.shape lane.level call u size kind block (record { made = made; within = within }) is.work.level some most room

  pub is_reserved : ReservesObject v w n
  is_reserved = call_reserves o header pool start steps v lane.shape lane.level call u size kind block (record { made = made; within = within }) some most room

  has : HasReserved w
  has = call_stands o header pool start steps v lane.shape lane.level call u size kind block (record { made = made; within = within }) is.has_reserved some most room

  works : (next : Lane M) → HasSameFields lane next → next.records ≡ lane.records → at next.memory w → IsAtWork o at next w
  works = made_at_work o at lane blocks v may u size kind block made header pool start steps alone within (Reserve size kind) (Some (Offset n.off)) still is_reserved.tells.call refl tt

  lies_before : (m : NewObject) → LiesInReserved v m → LiesInReserved w m
  lies_before = lies_still o at lane blocks v may u size kind block made header pool start steps alone within (Reserve size kind) (Some (Offset n.off))

  same_lists : blocks_in w ≡ blocks_in v
  same_lists = blocks_once_more v w (Reserve size kind) (Some (Offset n.off)) gains.still.entries is_reserved.tells.call

  pub now_pending : pending_in w ≡ with_reservation n.off kind size (pending_in v)
  now_pending = pending_once_more v w (Reserve size kind) (Some (Offset n.off)) gains.still.entries is_reserved.tells.call

  each_within : All (LiesInReserved w) (reserved_in w)
  each_within =
      let before : All (LiesInReserved w) (reserved_in v) = All-weaker (LiesInReserved v) (LiesInReserved w) lies_before (reserved_in v) is.reserved_within in
      let new : LiesInReserved w n = lies_new o at lane blocks v may u size kind block made header pool start steps alone within (Reserve size kind) (Some (Offset n.off)) in
      subst (λ (p : Pending). All (LiesInReserved w) (map reserved_object p.reserved)) (sym now_pending)
      (each_more (LiesInReserved w) (pending_in v).reserved (record { off = n.off; kind = kind; bytes = replicate size 0 }) before (subst (LiesInReserved w) (sym zeros_are) new))
    where
      zeros_are : reserved_object (record { off = n.off; kind = kind; bytes = replicate size 0 }) ≡ n
      zeros_are = ap (λ (k : ℕ). let m : NewObject = record { off = n.off; kind = kind; size = k } in m) (length-replicate size 0)

  pub still_reserving : (next : Lane M) → HasSameFields lane next → next.records ≡ lane.records → at next.memory w → MayAllocate o at next blocks w
  still_reserving next fields records seen = record {
    works = record {
      work = works next fields records seen;
      lists = subst (ListsBlocks blocks) (sym same_lists) is.lists;
      pages = (let pages = is.pages in let lanes = gains.still.lanes in let zones = gains.still.zones in omega (arith, pages, lanes, zones));
      alone = gains.still.same_lane.table ∙ is.alone;
      not_making = not_making_able w lane.shape still.alone.can;
      borne_out = still.alone.borne_out;
      freed_held = subst (λ ls. All (IsHeldFreed ls.items) blocks.freed) (sym fields.locks) is.freed_held;
      within = λ m there. lies_before m (is.within m (subst (λ (b : CallBlocks). Contains b.made m) same_lists there));
      has_reserved = has;
      reserved_within = each_within;
      reserved_free =
          All-weaker (IsReservedFor w) (LiesFree w) (reserved_lies_free o header pool start w (steps ++ still.more) still.alone.works) (reserved_in w) still.alone.borne_out.pending;
    };
    can = subst (CanMakeObject w) (sym fields.shape) still.alone.can;
  }
