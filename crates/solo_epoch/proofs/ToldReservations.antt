-- An object that a lane that works alone made may be told as reserved: it stands with what else is, what the lane has bears out what the call told, and a call under way goes on.
use Rattle.std.proofs.Common.{◌≡◌, ℕ, ◌<◌, ◌≤◌, All, List, [], ◌∷◌, ◌++◌, map, replicate, slice_index, Option, Some, sym, ap, ◌∙◌, subst}
use Rattle.std.proofs.lemmas.List.{length-replicate, map-append}
use Rattle.std.proofs.lemmas.List.Elements.{All-push, All-weaker}
use Rattle.pm_header.specs.declared.header.Header.{Header}
use Rattle.pm_layout.specs.declared.shape.Shape.{Shape}
use Rattle.pm_image.specs.declared.block.Block.{Block}
use Rattle.solo_model.specs.Actions.{Pending, Reservation, max_actions, pending_count}
use Rattle.solo_model.specs.Bytes.{is_among}
use Rattle.pm_objects.specs.declared.calls.Operation.{Operation}
use Rattle.pm_objects.specs.declared.calls.Operation.TheVariants.{Reserve}
use Rattle.pm_objects.specs.declared.history.Value.{Value}
use Rattle.pm_objects.specs.declared.history.Value.TheVariants.{Offset}
use Rattle.pm_objects.specs.declared.pool.PoolView.{PoolView}
use Rattle.solo_view.specs.Steps.{Step}
use Rattle.solo_view.specs.View.{View}
use Rattle.solo_world.specs.Opening.{Opening}
use Rattle.solo_crash.specs.CallBlocks.{AgreesOnRoot, CallBlocks, NewObject, allocated_in, blocks_in, reserved_in, reserved_object}
use Rattle.solo_crash.specs.Operations.{Tells}
use Rattle.solo_crash.specs.Pending.{pending_in}
use Rattle.solo_crash.specs.Reserved.{IsBorneOut, IsReservedFor, LiesFree, root_in}
use Rattle.solo_crash.specs.Reserving.{HasReserved, ReservesObject}
use Rattle.solo_crash.proofs.CallBlocks.{agrees_once_more, allocated_once_more, blocks_once_more}
use Rattle.solo_crash.proofs.PendingOn.{pending_once_more}
use Rattle.solo_crash.proofs.ReserveOn.{reserve_goes_on}
use Rattle.solo_crash.proofs.ReservedMore.{keeps_reserved}
use Rattle.solo_epoch.specs.Allocating.{HasLockedFreed, IsCallAlone, IsCallAloneStill, MakesObject, object_in_block}
use Rattle.solo_epoch.specs.Reserving.{with_object_reserved}
use Rattle.solo_epoch.proofs.PlacedObjects.{all_found, apart_found, apart_made, can_still, freed_same, keeps, logs, made, own, own_free, same_root, stands, still_free, still_reserved, tells, unfreed, unreserved, works_still, zeros, MayMakeAlone}
use Rattle.solo_epoch.proofs.ToldObjects.{may_make}

module _ (o : Opening) (header : Header) (pool : PoolView) (start : View) (steps : List Step) (v : View) (shape : Shape) (may : MayMakeAlone o header pool start steps v shape) (u : View) (size kind : ℕ) (block : Block)
    (makes : MakesObject v u size kind block) where
  abbrev n : NewObject
  n = object_in_block block size kind

  abbrev w : View
  w = with_object_reserved u n

  abbrev op : Operation
  op = Reserve size kind

  abbrev reply : Option Value
  reply = Some (Offset n.off)

  pub told : Tells v w op reply
  told = tells o header pool start steps v shape may u size kind block makes op reply

  -- ---- the operation

  module _ (some : 1 ≤ size) (most : size ≤ 262080) (room : pending_count (pending_in v) < max_actions) where
    pub reserves : ReservesObject v w n
    reserves = record {
      tells = told;
      logs = logs o header pool start steps v shape may u size kind block makes op reply;
      keeps = keeps o header pool start steps v shape may u size kind block makes op reply;
      some = some;
      most = most;
      place = stands o header pool start steps v shape may u size kind block makes;
      made = made o header pool start steps v shape may u size kind block makes op reply some most;
      zeros = zeros o header pool start steps v shape may u size kind block makes op reply some most;
      apart_found = apart_found o header pool start steps v shape may u size kind block makes;
      apart_made = apart_made o header pool start steps v shape may u size kind block makes;
      unfreed = unfreed o header pool start steps v shape may u size kind block makes;
      unreserved = unreserved o header pool start steps v shape may u size kind block makes;
      room = room;
    }

    pub reserved_stands : HasReserved v → HasReserved w
    reserved_stands has = keeps_reserved v w n has reserves

  -- ---- what the lane has

  still : (m : NewObject) → IsReservedFor v m → IsReservedFor w m
  still = still_reserved o header pool start steps v shape may u size kind block makes op reply

  here : IsReservedFor w n
  here = own o header pool start steps v shape may u size kind block makes op reply

  made_in_w : All (IsReservedFor w) ((blocks_in w).made ++ (blocks_in w).dropped)
  made_in_w =
      subst (λ (b : CallBlocks). All (IsReservedFor w) (b.made ++ b.dropped)) (sym (blocks_once_more v w op reply told.keeps.entries told.call))
      (All-weaker (IsReservedFor v) (IsReservedFor w) still ((blocks_in v).made ++ (blocks_in v).dropped) may.borne_out.made)

  free_in_w : All (LiesFree w) (allocated_in w)
  free_in_w =
      subst (All (LiesFree w)) (sym (allocated_once_more v w op reply told.keeps.entries told.call))
      (All-push (LiesFree w) (allocated_in v) n
      (All-weaker (LiesFree v) (LiesFree w) (still_free o header pool start steps v shape may u size kind block makes op reply) (allocated_in v) may.borne_out.free)
      (own_free o header pool start steps v shape may u size kind block makes op reply))

  -- what it reserved
  abbrev new : Reservation
  new = record { off = n.off; kind = kind; bytes = replicate size 0 }

  is_new : reserved_object new ≡ n
  is_new = (λ j. let m : NewObject = record { off = n.off; kind = kind; size = length-replicate {A = ℕ} size 0 j } in m)

  objects_are : map reserved_object ((pending_in v).reserved ++ new ∷ []) ≡ reserved_in v ++ n ∷ []
  objects_are = map-append reserved_object (pending_in v).reserved (new ∷ []) ∙ ap (λ (m : NewObject). reserved_in v ++ m ∷ []) is_new

  pending_in_w : All (IsReservedFor w) (reserved_in w)
  pending_in_w =
      subst (λ (p : Pending). All (IsReservedFor w) (map reserved_object p.reserved)) (sym (pending_once_more v w op reply told.keeps.entries told.call))
      (subst (All (IsReservedFor w)) (sym objects_are) (All-push (IsReservedFor w) (reserved_in v) n (All-weaker (IsReservedFor v) (IsReservedFor w) still (reserved_in v) may.borne_out.pending) here))

  root_agrees : AgreesOnRoot w (root_in (slice_index w.words))
  root_agrees =
      agrees_once_more v w op reply told.keeps.entries told.call (root_in (slice_index w.words))
      (subst (AgreesOnRoot v) (same_root o header pool start steps v shape may u size kind block makes) may.borne_out.root) tt

  pub bears_out : IsBorneOut w
  bears_out = record { made = made_in_w; pending = pending_in_w; free = free_in_w; root = root_agrees }

  freed_still : HasLockedFreed w
  freed_still =
      let blocks = blocks_once_more v w op reply told.keeps.entries told.call in
      freed_same o header pool start steps v shape may u size kind block makes op reply (λ off. ap (λ (b : CallBlocks). is_among b.freed off) blocks)

  -- it may make another
  pub may_still : (more : List Step) × MayMakeAlone o header pool start (steps ++ more) w shape
  may_still =
      let on = works_still o header pool start steps v shape may u size kind block makes op reply in (
        on.0,
        record {
          works = on.1;
          can = can_still o header pool start steps v shape may u size kind block makes op reply;
          borne_out = bears_out;
          locked = all_found o header pool start steps v shape may u size kind block makes op reply;
          freed = freed_still;
        },
      )

-- ---- within a call

module _ (o : Opening) (header : Header) (pool : PoolView) (start : View) (steps : List Step) (v : View) (shape : Shape) (level : ℕ) (c : IsCallAlone o header pool start steps v shape level)
    (u : View) (size kind : ℕ) (block : Block) (makes : MakesObject v u size kind block) where
  own_may : MayMakeAlone o header pool start steps v shape
  own_may = may_make o header pool start steps v shape level c

  pub call_reserves : 1 ≤ size → size ≤ 262080 → pending_count (pending_in v) < max_actions → ReservesObject v (with_object_reserved u (object_in_block block size kind)) (object_in_block block size kind)
  call_reserves = reserves o header pool start steps v shape own_may u size kind block makes

  pub call_bears_out : IsBorneOut (with_object_reserved u (object_in_block block size kind))
  call_bears_out = bears_out o header pool start steps v shape own_may u size kind block makes

  pub call_goes_on : 1 ≤ level → 1 ≤ size → size ≤ 262080 → pending_count (pending_in v) < max_actions → IsCallAloneStill o header pool start steps (with_object_reserved u (object_in_block block size kind)) shape level
  call_goes_on at_level some most room =
      let on = may_still o header pool start steps v shape own_may u size kind block makes in
      record {
        more = on.0;
        alone = record {
          works = on.1.works;
          can = on.1.can;
          under_way = reserve_goes_on v (with_object_reserved u (object_in_block block size kind)) (object_in_block block size kind) level at_level c.under_way (call_reserves some most room);
          borne_out = on.1.borne_out;
          locked = on.1.locked;
          freed = on.1.freed;
        };
      }

  pub call_stands : HasReserved v → 1 ≤ size → size ≤ 262080 → pending_count (pending_in v) < max_actions → HasReserved (with_object_reserved u (object_in_block block size kind))
  call_stands has some most room = reserved_stands o header pool start steps v shape own_may u size kind block makes some most room has
