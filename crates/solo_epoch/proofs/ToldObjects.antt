-- An object that a lane that works alone made within its call may be told: the call goes on with it, and what the lane has bears out what the call told.
use Rattle.std.proofs.Common.{⊎_elim, ℕ, ◌+◌, ◌≤◌, All, Contains, List, [], ◌∷◌, ◌++◌, map, slice_index, Option, Some, sym, ap, subst}
use Rattle.std.proofs.lemmas.List.Elements.{All-contains, All-contains_itself, All-push, All-weaker}
use Rattle.pm_header.specs.declared.header.Header.{Header}
use Rattle.pm_layout.specs.declared.shape.Shape.{Shape}
use Rattle.pm_image.specs.declared.block.Block.{Block}
use Rattle.pm_image.proofs.Members.{only_member}
use Rattle.solo_model.specs.Actions.{Pending, max_entries}
use Rattle.solo_model.specs.Bytes.{is_among}
use Rattle.pm_objects.specs.declared.calls.Operation.{Operation}
use Rattle.pm_objects.specs.declared.calls.Operation.TheVariants.{Alloc}
use Rattle.pm_objects.specs.declared.history.Value.{Value}
use Rattle.pm_objects.specs.declared.history.Value.TheVariants.{Offset}
use Rattle.pm_objects.specs.declared.pool.PoolView.{PoolView}
use Rattle.solo_view.specs.Steps.{Step}
use Rattle.solo_view.specs.View.{View}
use Rattle.solo_world.specs.Opening.{Opening}
use Rattle.solo_crash.specs.CallBlocks.{AgreesOnRoot, CallBlocks, NewObject, allocated_in, blocks_in, reserved_in, reserved_object}
use Rattle.solo_crash.specs.Operations.{AllocatesObject, Tells, entries_so_far}
use Rattle.solo_crash.specs.Reserved.{IsBorneOut, IsReservedFor, LiesFree, root_in}
use Rattle.solo_crash.proofs.AllocOn.{alloc_goes_on}
use Rattle.solo_crash.proofs.CallBlocks.{agrees_once_more, allocated_once_more, blocks_once_more}
use Rattle.solo_crash.proofs.NewStay.{before_made}
use Rattle.solo_crash.proofs.PendingOn.{pending_once_more}
use Rattle.solo_epoch.specs.Allocating.{IsCallAlone, IsCallAloneStill, MakesObject, object_in_block, with_object_told}
use Rattle.solo_epoch.proofs.PlacedObjects.{all_found, apart_found, apart_made, can_still, freed_same, keeps, logs, made, own, own_free, same_root, stands, still_free, still_reserved, tells, unfreed, unreserved, works_still, zeros, MayMakeAlone}

-- where its call is under way it may make one
pub may_make : (o : Opening) (header : Header) (pool : PoolView) (start : View) (steps : List Step) (v : View) (shape : Shape) (level : ℕ) → IsCallAlone o header pool start steps v shape level
    → MayMakeAlone o header pool start steps v shape
may_make o header pool start steps v shape level c = record { works = c.works; can = c.can; borne_out = c.borne_out; locked = c.locked; freed = c.freed }

module _ (o : Opening) (header : Header) (pool : PoolView) (start : View) (steps : List Step) (v : View) (shape : Shape) (level : ℕ) (c : IsCallAlone o header pool start steps v shape level)
    (u : View) (size kind : ℕ) (block : Block) (makes : MakesObject v u size kind block) where
  abbrev n : NewObject
  n = object_in_block block size kind

  abbrev w : View
  w = with_object_told u n

  abbrev op : Operation
  op = Alloc size kind

  abbrev reply : Option Value
  reply = Some (Offset n.off)

  may : MayMakeAlone o header pool start steps v shape
  may = may_make o header pool start steps v shape level c

  told : Tells v w op reply
  told = tells o header pool start steps v shape may u size kind block makes op reply

  -- ---- the operation

  module _ (some : 1 ≤ size) (most : size ≤ 262080) (room : entries_so_far v + 2 ≤ max_entries) where
    pub allocates : AllocatesObject v w n
    allocates = record {
      tells = told;
      logs = logs o header pool start steps v shape may u size kind block makes op reply;
      keeps = keeps o header pool start steps v shape may u size kind block makes op reply;
      some = some;
      most = most;
      place = stands o header pool start steps v shape may u size kind block makes;
      made = made o header pool start steps v shape may u size kind block makes op reply some most;
      zeros = zeros o header pool start steps v shape may u size kind block makes op reply some most;
      apart_found = apart_found o header pool start steps v shape may u size kind block makes;
      apart_made = apart_made o header pool start steps v shape may u size kind block makes;
      unfreed = unfreed o header pool start steps v shape may u size kind block makes;
      unreserved = unreserved o header pool start steps v shape may u size kind block makes;
      room = room;
    }

  -- ---- the next one

  still : (m : NewObject) → IsReservedFor v m → IsReservedFor w m
  still = still_reserved o header pool start steps v shape may u size kind block makes op reply

  made_in_w : All (IsReservedFor w) ((blocks_in w).made ++ (blocks_in w).dropped)
  made_in_w =
      All-weaker (Contains ((blocks_in w).made ++ (blocks_in w).dropped)) (IsReservedFor w)
      (λ m there. ⊎_elim
      (λ (before : Contains ((blocks_in v).made ++ (blocks_in v).dropped) m). still m (All-contains (IsReservedFor v) ((blocks_in v).made ++ (blocks_in v).dropped) m c.borne_out.made before))
      (λ (now : Contains (n ∷ []) m). subst (IsReservedFor w) (only_member n m now) (own o header pool start steps v shape may u size kind block makes op reply))
      (before_made n (blocks_in v) m (subst (λ (b : CallBlocks). Contains (b.made ++ b.dropped) m) (blocks_once_more v w op reply told.keeps.entries told.call) there)))
      ((blocks_in w).made ++ (blocks_in w).dropped) (All-contains_itself ((blocks_in w).made ++ (blocks_in w).dropped))

  free_in_w : All (LiesFree w) (allocated_in w)
  free_in_w =
      subst (All (LiesFree w)) (sym (allocated_once_more v w op reply told.keeps.entries told.call))
      (All-push (LiesFree w) (allocated_in v) n
      (All-weaker (LiesFree v) (LiesFree w) (still_free o header pool start steps v shape may u size kind block makes op reply) (allocated_in v) c.borne_out.free)
      (own_free o header pool start steps v shape may u size kind block makes op reply))

  root_agrees : AgreesOnRoot w (root_in (slice_index w.words))
  root_agrees =
      agrees_once_more v w op reply told.keeps.entries told.call (root_in (slice_index w.words))
      (subst (AgreesOnRoot v) (same_root o header pool start steps v shape may u size kind block makes) c.borne_out.root) tt

  pending_in_w : All (IsReservedFor w) (reserved_in w)
  pending_in_w =
      subst (λ (p : Pending). All (IsReservedFor w) (map reserved_object p.reserved)) (sym (pending_once_more v w op reply told.keeps.entries told.call))
      (All-weaker (IsReservedFor v) (IsReservedFor w) still (reserved_in v) c.borne_out.pending)

  pub bears_out : IsBorneOut w
  bears_out = record { made = made_in_w; pending = pending_in_w; free = free_in_w; root = root_agrees }

  pub goes_on : 1 ≤ level → 1 ≤ size → size ≤ 262080 → entries_so_far v + 2 ≤ max_entries → IsCallAloneStill o header pool start steps w shape level
  goes_on at_level some most room =
      let blocks = blocks_once_more v w op reply told.keeps.entries told.call in
      let on = works_still o header pool start steps v shape may u size kind block makes op reply in
      record {
        more = on.0;
        alone = record {
          works = on.1;
          can = can_still o header pool start steps v shape may u size kind block makes op reply;
          under_way = alloc_goes_on v w n level at_level c.under_way (allocates some most room);
          borne_out = bears_out;
          locked = all_found o header pool start steps v shape may u size kind block makes op reply;
          freed = freed_same o header pool start steps v shape may u size kind block makes op reply (λ off. ap (λ (b : CallBlocks). is_among b.freed off) blocks);
        };
      }
