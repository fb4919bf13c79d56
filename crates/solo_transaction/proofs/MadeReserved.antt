-- A lane that made an object and told it as reserved has reserved it: the steps led there, and where it works alone it is at work still.
use Rattle.std.proofs.Common.{◌≡◌, ℕ, ◌+◌, ◌<◌, ◌≤◌, refl, sym, ap, ◌∙◌, subst}
use Rattle.pm_image.specs.declared.block.Block.{Block}
use Rattle.pm_layout.specs.Sizes.{class_of}
use Rattle.solo_model.specs.Actions.{Pending, max_actions, pending_count, with_reservation}
use Rattle.pm_objects.specs.declared.ids.Oid.{Oid}
use Rattle.solo_view.specs.View.{View}
use Rattle.solo_view.specs.Views.{after_all}
use Rattle.solo_world.specs.Opening.{Opening}
use Rattle.solo_world.specs.declared.lane.Lane.{Lane}
use Rattle.solo_alloc.proofs.SomeRoom.{room_then, room_there, room_view}
use Rattle.solo_alloc.specs.NewObjects.{HasNewObject, fills_block}
use Rattle.solo_crash.specs.Pending.{pending_in}
use Rattle.solo_epoch.specs.Allocating.{object_in_block}
use Rattle.solo_epoch.specs.Reserving.{with_object_reserved}
use Rattle.solo_made.specs.Made.{BlockLists}
use Rattle.solo_pending.specs.AllPending.{IsPendingAs}
use Rattle.solo_pending.specs.declared.pending.PendingActions.{PendingActions}
use Rattle.solo_tx.proofs.GoingOn.{HasSameFields, fields_same}
use Rattle.solo_transaction.proofs.ReservesAtWork.{is_reserved, now_pending, still_reserving}
use Rattle.solo_transaction.specs.Allocating.{MayAllocate}
use Rattle.solo_transaction.specs.Reserving.{HasReservedObject}

module _ {M : Type 0} (o : Opening) (at : M → View → Type 0) (lane : Lane M) (blocks : BlockLists) (v : View) (may : MayAllocate o at lane blocks v) (size kind : ℕ) (block : Block)
    (some : 1 ≤ size) (most : size ≤ 262080) (room : pending_count (pending_in v) < max_actions) (mid : Lane M) (same : mid ≡ record lane { memory = mid.memory }) (has : HasNewObject (at mid.memory) v size kind block) where
  abbrev filled : View → View
  filled w = after_all w (fills_block block kind size w)

  -- the view once the object is made
  abbrev u : View
  u = filled (room_view (λ w. at mid.memory (filled w)) v (class_of size) block has)

  there : at mid.memory u
  there = room_there (λ w. at mid.memory (filled w)) v (class_of size) block has

  made : HasNewObject (λ w. w ≡ u) v size kind block
  made = room_then (λ w. at mid.memory (filled w)) v (λ w. filled w ≡ u) (class_of size) block has refl

  pub reserved_and_told : (next : Lane M) → next ≡ record mid { memory = next.memory } → (before pending : PendingActions) → IsPendingAs before (pending_in v)
      → ((p : Pending) → IsPendingAs before p → IsPendingAs pending (with_reservation (block.place + 64) kind size p))
      → ((w : View) → at mid.memory w → at next.memory (with_object_reserved w (object_in_block block size kind))) → (id : Oid) → id ≡ record { pool = mid.pool; off = block.place + 64 }
      → HasReservedObject o at next blocks pending v size kind id
  reserved_and_told next later before pending are listed told id is =
      let whole : next ≡ record lane { memory = next.memory } = later ∙ ap (λ (l : Lane M). record l { memory = next.memory }) same in
      let records : next.records ≡ lane.records = ap (λ (l : Lane M). l.records) whole in
      let fields : HasSameFields lane next = fields_same lane next (whole ∙ ap (λ records. record lane { memory = next.memory; records = records }) (sym records)) in
      let seen : at next.memory (with_object_reserved u (object_in_block block size kind)) = told u there in
      record {
        block = block;
        is = is ∙ ap (λ (pool : ℕ). let id : Oid = record { pool = pool; off = block.place + 64 } in id) (ap (λ (l : Lane M). l.pool) same ∙ sym may.works.work.seen.pool);
        view = u;
        made = made;
        seen = seen;
        listed = λ header pool start steps alone within.
            subst (IsPendingAs pending) (sym (now_pending o at lane blocks v may u size kind block made some most room header pool start steps alone within)) (listed (pending_in v) are);
        reserves = λ header pool start steps alone within. is_reserved o at lane blocks v may u size kind block made some most room header pool start steps alone within;
        works = λ header pool start steps alone within. still_reserving o at lane blocks v may u size kind block made some most room header pool start steps alone within next fields records seen;
      }
