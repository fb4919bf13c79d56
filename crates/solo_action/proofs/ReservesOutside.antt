-- A lane that is alone and whose call has begun makes an object, and tells it as reserved: that is all of its call, an ended one, behind whose draw the lane rests with the object and
-- with what else it has reserved.
use Rattle.std.proofs.Common.{◌≡◌, inr, ℕ, ◌+◌, ◌*◌, ◌^◌, ◌<◌, ◌≤◌, IsTrue, is_some, List, [], ◌∷◌, ◌++◌, Some, refl, sym, ap, ◌∙◌, subst, arith}
use Rattle.std.proofs.lemmas.List.Elements.{All-nil}
use Rattle.pm_header.specs.declared.header.Header.{Header}
use Rattle.pm_image.specs.declared.block.Block.{Block}
use Rattle.pm_layout.specs.Sizes.{class_of}
use Rattle.pm_layout.specs.declared.shape.Shape.{Shape}
use Rattle.solo_memory.specs.Solo.{AreNumbered}
use Rattle.solo_model.specs.Actions.{max_actions, pending_count, with_reservation}
use Rattle.pm_objects.specs.declared.calls.Operation.TheVariants.{Reserve}
use Rattle.pm_objects.specs.declared.history.Value.TheVariants.{Offset}
use Rattle.pm_objects.specs.declared.pool.PoolView.{PoolView}
use Rattle.solo_view.proofs.SameLane.{same_lane-after_all}
use Rattle.solo_view.specs.Founds.{IsAlone}
use Rattle.solo_view.specs.Steps.{Step}
use Rattle.solo_view.specs.Steps.Step.{Draw}
use Rattle.solo_view.specs.View.{Lock, View}
use Rattle.solo_view.specs.Views.{after, after_all}
use Rattle.solo_world.specs.Lawful.{Allowed}
use Rattle.solo_world.specs.Opening.{Opening}
use Rattle.solo_world.specs.declared.lane.Lane.{Lane}
use Rattle.solo_alloc.proofs.Fitting.{class_fits}
use Rattle.solo_alloc.proofs.Rooms.{IsRoom}
use Rattle.solo_alloc.proofs.SomeRoom.{has_room, room_there, room_view}
use Rattle.solo_alloc.specs.NewObjects.{CanMakeObject, HasNewObject, fills_block}
use Rattle.solo_crash.proofs.PendingOn.{pending_once_more}
use Rattle.solo_crash.specs.HeldHistory.{IsEndedCall}
use Rattle.solo_crash.specs.Pending.{pending_in}
use Rattle.solo_epoch.proofs.FilledStill.{filled_still}
use Rattle.solo_epoch.proofs.GainedObjects.{object_gained}
use Rattle.solo_epoch.proofs.GainedRooms.{IsCallStill}
use Rattle.solo_epoch.proofs.HeldApart.{AllFound}
use Rattle.solo_epoch.proofs.OutsideCalls.{reservation_ends, told_outside}
use Rattle.solo_epoch.proofs.RoomSteps.{is_filled}
use Rattle.solo_epoch.specs.Allocating.{MakesObject, object_in_block}
use Rattle.solo_epoch.specs.Reserving.{IsAloneBetween, IsAloneOutsideStill, with_object_reserved}
use Rattle.solo_lock.specs.Begun.{IsBegun}
use Rattle.solo_lock.specs.Resting.{MayRest}
use Rattle.solo_transaction.proofs.NewOffsets.{new_fits}
use Rattle.solo_action.proofs.BegunOn.{begun_on}
use Rattle.solo_action.proofs.PutsOutside.{rest_filled}
use Rattle.solo_action.proofs.RestingStill.{rests_behind_draw}
use Rattle.solo_action.specs.Outside.{RestsStill}

-- the lane is of no table still, once the object is made
pub made_alone : (v : View) (shape : Shape) → CanMakeObject v shape → (u : View) (size kind : ℕ) (block : Block) → HasNewObject (λ w. w ≡ u) v size kind block → IsAlone u
made_alone v shape can u size kind block made =
    let at : View → Type 0 = λ z. after_all z (fills_block block kind size z) ≡ u in
    let room : View = room_view at v (class_of size) block made in
    let is_room : IsRoom v room shape block = has_room at v shape can.run can.pool can.pictured (class_of size) block (class_fits size) made in
    ap (λ (z : View). z.table) (sym (room_there at v (class_of size) block made)) ∙ ((same_lane-after_all room (fills_block block kind size room)).table ∙ is_room.may.alone)

-- no place of its pool is near the last number
pub new_is_low : (v : View) (shape : Shape) → CanMakeObject v shape → (seen : View → Type 0) (size kind : ℕ) (block : Block) → size ≤ 262080 → HasNewObject seen v size kind block → block.place + 64 < 2 ^ 64
new_is_low v shape can seen size kind block most has =
    let inside = (new_fits seen v size kind block (1 + 2 * v.lanes + 65 * v.zones) has most refl).place.inside in
    let lanes = can.run.search.shape.lanes in let zones = can.run.search.shape.zones in let few = shape.lanes_to in let few_zones = shape.zones_to in
    omega (arith, inside, lanes, zones, few, few_zones)

-- what is found under no lock
pub none_found : (locks : List Lock) → locks ≡ [] → AllFound locks
none_found locks none = subst AllFound (sym none) (All-nil (λ (l : Lock). IsTrue (is_some l.block)))

module _ (o : Opening) (header : Header) (pool : PoolView) (start : View) (steps : List Step) (w : View) (shape : Shape) (c : IsAloneBetween o header pool start steps w shape) (u : View) (size kind : ℕ) (block : Block) (makes : MakesObject w u size kind block) where
  still : IsCallStill w u
  still = (object_gained o header pool start w steps c.outside.works shape c.outside.can (none_found w.locks c.outside.free) u size kind block makes).still

  rests_made : MayRest w → MayRest u
  rests_made rests = inr (still.same_lane.table ∙ c.outside.can.run.alone, filled_still w shape c.outside.can u size kind block makes o header pool start steps c.outside.works (rest_filled w rests))

  -- the call has begun still
  pub begun_made : {M : Type 0} (at : M → View → Type 0) (lane : Lane M) → IsBegun at lane w → (memory : M) → at memory u → IsBegun at (record lane { memory = memory }) u
  begun_made at lane is memory there =
      let filled = is_filled w shape c.outside.can u size kind block makes in
      begun_on at lane w u is (record { lane = still.same_lane; locks = still.locks; call = still.call; number = still.number; entries = still.entries; log = still.log; seen = still.seen; below = filled.working.area.below })
      (rests_made is.undrained) memory there

  pub made_entries : u.entries ≡ w.entries
  made_entries = still.entries

  pub made_call : u.call ≡ w.call
  made_call = still.call

  -- what is pending has the object then
  pub made_pending : pending_in (with_object_reserved u (object_in_block block size kind)) ≡ with_reservation (block.place + 64) kind size (pending_in w)
  made_pending =
      pending_once_more w (with_object_reserved u (object_in_block block size kind)) (Reserve size kind) (Some (Offset (block.place + 64))) still.entries
      (ap (λ call. call ++ record { operation = Reserve size kind; reply = Some (Offset (block.place + 64)) } ∷ []) still.call)

  module _ (some : 1 ≤ size) (most : size ≤ 262080) (room : pending_count (pending_in w) < max_actions) where
    pub reserved_ends : IsEndedCall (with_object_reserved u (object_in_block block size kind))
    reserved_ends = reservation_ends o header pool start steps w shape c u size kind block makes some most room

    pub reserved_rests_still : (n : ℕ) → Allowed (with_object_reserved u (object_in_block block size kind)) (Draw n) → AreNumbered 1 (after (with_object_reserved u (object_in_block block size kind)) (Draw n)).entries
        → RestsStill o header pool (after (with_object_reserved u (object_in_block block size kind)) (Draw n)) shape
    reserved_rests_still n allowed numbered =
        let on : IsAloneOutsideStill o header pool start steps (with_object_reserved u (object_in_block block size kind)) shape = told_outside o header pool start steps w shape c u size kind block makes some most room in
        rests_behind_draw o header pool start (steps ++ on.more) (with_object_reserved u (object_in_block block size kind)) shape n on.outside reserved_ends allowed numbered
