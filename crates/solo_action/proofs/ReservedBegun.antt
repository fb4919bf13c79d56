-- What a reservation leaves, done or refused, of a lane that is alone and whose call had begun.
use Rattle.std.proofs.Common.{◌≡◌, ◌⊎◌, ℕ, ◌+◌, ◌<◌, ◌≤◌, [], Some, refl, sym, ap, ◌∙◌, subst}
use Rattle.pm_image.specs.declared.block.Block.{Block}
use Rattle.pm_layout.specs.Sizes.{class_of}
use Rattle.solo_model.specs.Actions.{Pending, max_actions, pending_count, with_reservation}
use Rattle.pm_objects.specs.declared.calls.Operation.TheVariants.{Reserve}
use Rattle.pm_objects.specs.declared.history.Value.TheVariants.{Offset, Refused}
use Rattle.pm_objects.specs.declared.ids.Oid.{Oid}
use Rattle.pm_objects.specs.declared.refusal.Refusal.{Refusal}
use Rattle.pm_objects.specs.declared.refusal.Refusal.TheVariants as refusal
use Rattle.solo_pending.specs.AllPending.{IsPendingAs}
use Rattle.solo_pending.specs.declared.pending.PendingActions.{PendingActions}
use Rattle.solo_view.specs.Founds.{IsAlone}
use Rattle.solo_view.specs.View.{View}
use Rattle.solo_view.specs.Views.{after_all}
use Rattle.solo_world.specs.Searches.{HasSearched}
use Rattle.solo_world.specs.declared.lane.Lane.{Lane}
use Rattle.solo_blocks.specs.AnyBlocks.{HasNoRoom}
use Rattle.solo_blocks.specs.declared.making.NoBlock.TheVariants as no_block
use Rattle.solo_alloc.proofs.SomeRoom.{room_then, room_there, room_view}
use Rattle.solo_alloc.specs.NewObjects.{HasNewObject, fills_block}
use Rattle.solo_crash.specs.Pending.{pending_in}
use Rattle.solo_crash.specs.Reserving.{IsReserveReason}
use Rattle.solo_epoch.specs.Allocating.{MakesObject}
use Rattle.solo_lock.specs.Begun.{IsBegun}
use Rattle.solo_lock.specs.Resting.{IsAtRest}
use Rattle.solo_tx.specs.Sequences.{ends_call}
use Rattle.solo_transaction.proofs.RefusedAllocs.{came_at_once, refused_for_room, search_of, search_to}
use Rattle.solo_transaction.specs.Allocating.{CameToRefuse}
use Rattle.solo_transaction.specs.Published.{HasOwnCounts}
use Rattle.solo_action.proofs.BegunOn.{told_drawn, told_may_draw}
use Rattle.solo_action.proofs.RefusesOutside.{LooksOn, begun_looked, looks_for_room, looks_not, refusal_ends, refused_rests_still}
use Rattle.solo_action.proofs.ReservesOutside.{begun_made, made_alone, made_call, made_entries, made_pending, reserved_ends, reserved_rests_still}
use Rattle.solo_action.specs.BegunAlone.{BeginsAlone}
use Rattle.solo_action.specs.Reserving.{HasRefusedBegun, HasReservedBegun, refused_drawn, reserved_drawn}

-- the memory of a lane that is alone counts its calls and numbers
abbrev pub Counts : {M : Type 0} → (M → View → Type 0) → Type 0
Counts {M} at = (memory : M) (v : View) → at memory v → IsAlone v → HasOwnCounts v

module _ {M : Type 0} (at : M → View → Type 0) (lane mid : Lane M) (w : View) (b : BeginsAlone at lane w) (counts : Counts at) (same : mid ≡ record lane { memory = mid.memory }) (size kind : ℕ) where
  -- ---- an object is made

  module _ (block : Block) (has : HasNewObject (at mid.memory) w size kind block) where
    abbrev filled : View → View
    filled z = after_all z (fills_block block kind size z)

    -- the view once it is
    abbrev pub made_view : View
    made_view = after_all (room_view (λ z. at mid.memory (after_all z (fills_block block kind size z))) w (class_of size) block has) (fills_block block kind size (room_view (λ z. at mid.memory (after_all z (fills_block block kind size z))) w (class_of size) block has))

    there : at mid.memory made_view
    there = room_there (λ z. at mid.memory (filled z)) w (class_of size) block has

    made : HasNewObject (λ z. z ≡ made_view) w size kind block
    made = room_then (λ z. at mid.memory (filled z)) w (λ z. filled z ≡ made_view) (class_of size) block has refl

    alone : IsAlone made_view
    alone = made_alone w lane.shape b.world.5.outside.can made_view size kind block made

    makes : MakesObject w made_view size kind block
    makes = record { made = made; within = (counts mid.memory made_view there alone).within }

    pub made_begun : IsBegun at mid made_view
    made_begun =
        let t = b.world in
        subst (λ (l : Lane M). IsBegun at l made_view) (sym same) (begun_made t.0 t.1 t.2 t.3 t.4 w lane.shape t.5 made_view size kind block makes at lane b.begun mid.memory there)

    pub reserved_begun : 1 ≤ size → size ≤ 262080 → pending_count (pending_in w) < max_actions → (next : Lane M)
        → ((u : View) → IsBegun at mid u → IsAtRest at next (after_all u (ends_call (Reserve size kind) (Some (Offset (block.place + 64))) next.last u)))
        → (before pending : PendingActions) → IsPendingAs before (pending_in w) → ((p : Pending) → IsPendingAs before p → IsPendingAs pending (with_reservation (block.place + 64) kind size p))
        → (id : Oid) → id ≡ record { pool = mid.pool; off = block.place + 64 } → HasReservedBegun at next pending w size kind id
    reserved_begun some most room next comes before pending are listed id is =
        let t = b.world in
        let u : View = made_view in
        let rests : IsAtRest at next (reserved_drawn u block size kind next.last) =
        subst (IsAtRest at next) (told_drawn u (Reserve size kind) (Some (Offset (block.place + 64))) next.last) (comes u made_begun) in
        let own : HasOwnCounts (reserved_drawn u block size kind next.last) = counts next.memory (reserved_drawn u block size kind next.last) rests.seen.memory alone in
        record {
          block = block;
          is = is ∙ ap (λ (pool : ℕ). let id : Oid = record { pool = pool; off = block.place + 64 } in id) (ap (λ (l : Lane M). l.pool) same ∙ sym b.begun.seen.pool);
          view = u;
          made = made;
          within = makes.within;
          some = some;
          most = most;
          room = room;
          undrawn = made_entries t.0 t.1 t.2 t.3 t.4 w lane.shape t.5 u size kind block makes;
          untold = made_call t.0 t.1 t.2 t.3 t.4 w lane.shape t.5 u size kind block makes;
          may_draw = told_may_draw at mid u made_begun (Reserve size kind) (Some (Offset (block.place + 64))) next.last;
          rests = rests;
          listed = subst (IsPendingAs pending) (sym (made_pending t.0 t.1 t.2 t.3 t.4 w lane.shape t.5 u size kind block makes)) (listed (pending_in w) are);
          ended = λ o header pool start steps between. reserved_ends o header pool start steps w next.shape between u size kind block makes some most room;
          keeps = λ o header pool start steps between.
              reserved_rests_still o header pool start steps w next.shape between u size kind block makes some most room next.last
              (told_may_draw at mid u made_begun (Reserve size kind) (Some (Offset (block.place + 64))) next.last) own.numbered;
        }

  -- ---- or refused

  refused_looked : (x : View) → LooksOn w x → IsBegun at mid x → (r : Refusal) → CameToRefuse w size r x → IsReserveReason (pending_in w) size r → (next : Lane M)
      → ((u : View) → IsBegun at mid u → IsAtRest at next (after_all u (ends_call (Reserve size kind) (Some (Refused r)) next.last u))) → HasRefusedBegun at next w size kind r
  refused_looked x looks begun r came reason next comes =
      let rests : IsAtRest at next (refused_drawn x size kind r next.last) =
      subst (IsAtRest at next) (told_drawn x (Reserve size kind) (Some (Refused r)) next.last) (comes x begun) in
      let own : HasOwnCounts (refused_drawn x size kind r next.last) = counts next.memory (refused_drawn x size kind r next.last) rests.seen.memory (looks.lane.table ∙ b.world.5.outside.can.run.alone) in
      record {
        view = x;
        came = came;
        reason = reason;
        undrawn = looks.entries;
        untold = looks.call;
        may_draw = told_may_draw at mid x begun (Reserve size kind) (Some (Refused r)) next.last;
        rests = rests;
        ended = λ o header pool start steps between. refusal_ends w x looks o header pool start steps next.shape between size kind r reason;
        keeps = λ o header pool start steps between.
            refused_rests_still w x looks o header pool start steps next.shape between size kind r reason next.last own (told_may_draw at mid x begun (Reserve size kind) (Some (Refused r)) next.last);
      }

  -- since no block was found
  module _ (why : Refusal) (none : HasNoRoom (at mid.memory) w (class_of size) (no_block.Refused why)) where
    is_no_space : why ≡ refusal.NoSpace
    is_no_space = refused_for_room (at mid.memory) w (class_of size) why none

    found_none : HasNoRoom (at mid.memory) w (class_of size) (no_block.Refused refusal.NoSpace)
    found_none = subst (λ (r : Refusal). HasNoRoom (at mid.memory) w (class_of size) (no_block.Refused r)) is_no_space none

    abbrev searched : (Q : View → Type 0) × HasSearched (at mid.memory) w [] Q
    searched = search_of (at mid.memory) w (class_of size) found_none

    abbrev x : View
    x = searched.1.view

    looks : LooksOn w x
    looks = let c = b.world.5.outside in looks_for_room w lane.shape c.can c.free (at mid.memory) size found_none

    begun_there : IsBegun at mid x
    begun_there = subst (λ (l : Lane M). IsBegun at l x) (sym same) (begun_looked w x looks at lane b.begun mid.memory searched.1.there)

    pub searched_begun : (u : View) × IsBegun at mid u
    searched_begun = (x, begun_there)

    pub no_space_refused : 1 ≤ size → size ≤ 262080 → pending_count (pending_in w) < max_actions → (next : Lane M)
        → ((u : View) → IsBegun at mid u → IsAtRest at next (after_all u (ends_call (Reserve size kind) (Some (Refused why)) next.last u))) → HasRefusedBegun at next w size kind why
    no_space_refused some most room next comes =
        refused_looked x looks begun_there why (subst (λ (r : Refusal). CameToRefuse w size r x) (sym is_no_space) (search_to (at mid.memory) w (class_of size) found_none))
        (subst (IsReserveReason (pending_in w) size) (sym is_no_space) (some, most, room)) next comes

  -- or none was looked for
  pub refused_at_once : IsBegun at mid w → (r : Refusal) → (r ≡ refusal.BadSize) ⊎ (r ≡ refusal.ActionsFull) → IsReserveReason (pending_in w) size r → (next : Lane M)
      → ((u : View) → IsBegun at mid u → IsAtRest at next (after_all u (ends_call (Reserve size kind) (Some (Refused r)) next.last u))) → HasRefusedBegun at next w size kind r
  refused_at_once begun r cause reason next comes = refused_looked w (looks_not w b.world.5.outside.can.run.working) begun r (came_at_once w size r cause) reason next comes
