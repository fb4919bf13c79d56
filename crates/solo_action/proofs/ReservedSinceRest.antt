-- What a reservation came to since its call began, it came to since the lane was at rest.
use Rattle.std.proofs.Common.{◌≡◌, ℕ, ◌+◌, ◌<◌, List, [], ◌∷◌, ◌++◌, Some, sym, ap, ◌∙◌, subst, true}
use Rattle.solo_crash.proofs.PendingOn.{pending_once_more}
use Rattle.solo_crash.specs.Pending.{pending_before, pending_in}
use Rattle.solo_crash.specs.Reserving.{IsReserveReason}
use Rattle.solo_epoch.proofs.RestingReservations.{begun_entries, pending_drawn}
use Rattle.solo_epoch.specs.Allocating.{object_in_block}
use Rattle.solo_epoch.specs.Reserving.{with_next_call, with_object_reserved}
use Rattle.pm_image.specs.declared.block.Block.{Block}
use Rattle.solo_memory.specs.declared.lane_mem.Stopped.{Stopped}
use Rattle.solo_model.specs.Actions.{Pending, max_actions, pending_count}
use Rattle.pm_objects.specs.declared.calls.Operation.TheVariants.{Reserve}
use Rattle.pm_objects.specs.declared.history.Value.TheVariants.{Offset, Refused}
use Rattle.pm_objects.specs.declared.ids.Oid.{Oid}
use Rattle.pm_objects.specs.declared.refusal.Refusal.{Refusal}
use Rattle.solo_pending.specs.AllPending.{IsPendingAs}
use Rattle.solo_pending.specs.declared.pending.PendingActions.{PendingActions}
use Rattle.solo_view.specs.View.{Told, View}
use Rattle.solo_world.specs.declared.lane.Lane.{Lane}
use Rattle.solo_blocks.specs.declared.making.NoBlock.TheVariants as no_block
use Rattle.solo_alloc.specs.NewObjects.{GivesNoObject}
use Rattle.solo_tx.specs.Beginning.{IsBegunBy}
use Rattle.solo_tx.specs.Ending.{drawn_more}
use Rattle.solo_tx.specs.Sequences.{starts}
use Rattle.solo_action.proofs.BeginningAlone.{next_led, next_pending, rests_no_table}
use Rattle.solo_action.proofs.NextBegun.{between_next, has_next_begun, next_before, next_below}
use Rattle.solo_action.specs.Outside.{RestsAlone}
use Rattle.solo_action.specs.Reserving.{HasRefusedBegun, HasRefusedOutside, HasReservedBegun, HasReservedOutside, HasStoppedReserving, refused_view}

module _ {M : Type 0} (at : M → View → Type 0) (old mid : Lane M) (v : View) (n : ℕ) (r : RestsAlone at old v) (started : IsBegunBy at mid v (starts n)) (size kind : ℕ) where
  abbrev w : View
  w = with_next_call v

  untold : (with_next_call v).call ≡ []
  untold = (has_next_begun at mid v n (rests_no_table at old mid v n r started) started).untold

  pending_is : pending_in (with_next_call v) ≡ pending_before v
  pending_is = next_pending at old mid v n r started

  pub reserved_since_rest : (lane : Lane M) (pending : PendingActions) (id : Oid) → HasReservedBegun at lane pending (with_next_call v) size kind id → HasReservedOutside at lane pending v size kind id
  reserved_since_rest lane pending id has =
      let n : Block = has.block in
      let z : View = with_object_reserved has.view (object_in_block n size kind) in
      let entries : has.view.entries ≡ v.entries = has.undrawn ∙ begun_entries v in
      let call : z.call ≡ record { operation = Reserve size kind; reply = Some (Offset (n.place + 64)) } ∷ [] =
      ap (λ (call : List Told). call ++ record { operation = Reserve size kind; reply = Some (Offset (n.place + 64)) } ∷ []) (has.untold ∙ untold) in
      record {
        led = next_led at old mid v _ r started;
        below = next_below at mid v _ (rests_no_table at old mid v _ r started) started;
        block = n;
        is = has.is ∙ ap (λ (pool : ℕ). let id : Oid = record { pool = pool; off = n.place + 64 } in id) (next_before v).pool;
        view = has.view;
        made = has.made;
        within = has.within;
        some = has.some;
        most = has.most;
        room = subst (λ (p : Pending). pending_count p < max_actions) pending_is has.room;
        may_draw = has.may_draw;
        rests = has.rests;
        listed = subst (IsPendingAs pending) (sym (pending_drawn z lane.last)) has.listed;
        entries = λ j. drawn_more (entries j) lane.last (call j);
        ended = λ o header pool start steps rests. has.ended o header pool start _ (between_next at mid v _ (rests_no_table at old mid v _ r started) started o header pool start steps lane.shape rests);
        keeps = λ o header pool start steps rests. has.keeps o header pool start _ (between_next at mid v _ (rests_no_table at old mid v _ r started) started o header pool start steps lane.shape rests);
      }

  pub refused_since_rest : (lane : Lane M) (why : Refusal) → HasRefusedBegun at lane (with_next_call v) size kind why → HasRefusedOutside at lane v size kind why
  refused_since_rest lane why has =
      let z : View = refused_view has.view size kind why in
      let entries : has.view.entries ≡ v.entries = has.undrawn ∙ begun_entries v in
      let told : z.call ≡ w.call ++ record { operation = Reserve size kind; reply = Some (Refused why) } ∷ [] =
      ap (λ (call : List Told). call ++ record { operation = Reserve size kind; reply = Some (Refused why) } ∷ []) has.untold in
      let call : z.call ≡ record { operation = Reserve size kind; reply = Some (Refused why) } ∷ [] = told ∙ ap (λ (call : List Told). call ++ record { operation = Reserve size kind; reply = Some (Refused why) } ∷ []) untold in
      record {
        led = next_led at old mid v n r started;
        below = next_below at mid v n (rests_no_table at old mid v n r started) started;
        view = has.view;
        came = has.came;
        reason = subst (λ (p : Pending). IsReserveReason p size why) pending_is has.reason;
        may_draw = has.may_draw;
        rests = has.rests;
        entries = λ j. drawn_more (entries j) lane.last (call j);
        pending = pending_drawn z lane.last ∙ (pending_once_more w z (Reserve size kind) (Some (Refused why)) has.undrawn told ∙ pending_is);
        ended = λ o header pool start steps rests. has.ended o header pool start _ (between_next at mid v n (rests_no_table at old mid v n r started) started o header pool start steps lane.shape rests);
        keeps = λ o header pool start steps rests. has.keeps o header pool start _ (between_next at mid v n (rests_no_table at old mid v n r started) started o header pool start steps lane.shape rests);
      }

  pub stopped_since_rest : mid ≡ record old { memory = mid.memory } → (lane : Lane M) → lane ≡ record mid { memory = lane.memory; stopped = true }
      → ((stop : Stopped) × GivesNoObject (at lane.memory) (with_next_call v) size kind (no_block.Stopped stop)) → HasStoppedReserving at lane v size kind
  stopped_since_rest same lane fields gives = record {
    led = next_led at old mid v n r started;
    below = next_below at mid v n (rests_no_table at old mid v n r started) started;
    stop = gives.0;
    gives = gives.1;
    stopped = ap (λ (l : Lane M). l.stopped) fields;
    undrawn = ap (λ (l : Lane M). l.drawn) fields ∙ (ap (λ (l : Lane M). l.drawn) same ∙ r.rests.answered);
  }
