-- A lane alone reserves an object outside of a transaction, or is refused one, writes bytes into what it reserved, or is refused that: each is a call that has ended, and
-- what is reserved stands.
use Rattle.std.proofs.Common.{◌≡◌, inr, ℕ, ◌<◌, ◌≤◌, false, IsTrue, is_some, All, List, [], ◌∷◌, ◌++◌, length, Option, Some, None, sym, ap, ◌∙◌, subst}
use Rattle.std.proofs.lemmas.List.Elements.{All-nil}
use Rattle.pm_header.specs.declared.header.Header.{Header}
use Rattle.pm_image.specs.declared.block.Block.{Block}
use Rattle.pm_layout.specs.Sizes.{class_of}
use Rattle.pm_layout.specs.declared.shape.Shape.{Shape}
use Rattle.solo_model.specs.Actions.{Pending, max_actions, pending_count}
use Rattle.solo_model.specs.Answers.{IsBesideReserved}
use Rattle.solo_model.specs.Places.{CanHold}
use Rattle.pm_objects.specs.declared.calls.Operation.{Operation}
use Rattle.pm_objects.specs.declared.calls.Operation.TheVariants.{Reserve, WriteReserved}
use Rattle.pm_objects.specs.declared.history.Value.{Value}
use Rattle.pm_objects.specs.declared.history.Value.TheVariants.{Offset, Refused}
use Rattle.pm_objects.specs.declared.ids.Oid.{Oid}
use Rattle.pm_objects.specs.declared.pool.PoolView.{PoolView}
use Rattle.pm_objects.specs.declared.refusal.Refusal.{Refusal}
use Rattle.solo_view.specs.Steps.{Step}
use Rattle.solo_view.specs.View.{Lock, Told, View}
use Rattle.solo_world.specs.Opening.{Opening}
use Rattle.solo_alloc.specs.NewObjects.{CanMakeObject}
use Rattle.solo_crash.specs.Alone.{WorksAlone}
use Rattle.solo_crash.specs.CallBlocks.{CallBlocks, NewObject, blocks_in, blocks_told, no_blocks}
use Rattle.solo_crash.specs.HeldHistory.{IsEndedCall}
use Rattle.solo_crash.specs.Operations.{KeepsLog, Tells}
use Rattle.solo_crash.specs.Pending.{pending_before, pending_in, pending_told}
use Rattle.solo_crash.specs.Reserved.{IsBorneOut}
use Rattle.solo_crash.specs.Reserving.{HasReserved, IsReserveReason, PutsOutside, RefusesPut, RefusesReserve, RefusesReserveOutside, ReservesObject, ReservesOutside, WritesReserved, put_refusal}
use Rattle.solo_crash.proofs.Continued.{two_same}
use Rattle.solo_crash.proofs.PendingOn.{same_before}
use Rattle.solo_crash.proofs.PutOn.{none_refuses, refused_put_keeps}
use Rattle.solo_crash.proofs.ReservedMore.{refused_keeps}
use Rattle.solo_crash.proofs.ReservedOutside.{outside_reserve_steps}
use Rattle.solo_crash.proofs.ReservedWritten.{reserved_write_keeps}
use Rattle.solo_crash.proofs.StillReserved.{borne_refused}
use Rattle.solo_epoch.specs.Allocating.{HasLockedFreed, HasSameDescriptors, MakesObject, object_in_block}
use Rattle.solo_epoch.specs.Reserving.{IsAloneBetween, IsAloneOutside, IsAloneOutsideStill, with_object_reserved}
use Rattle.solo_epoch.proofs.FreedLocks.{none_freed}
use Rattle.solo_epoch.proofs.HeldApart.{AllFound}
use Rattle.solo_epoch.proofs.PlacedObjects.{logs, MayMakeAlone}
use Rattle.solo_epoch.proofs.PutDescriptors.{kept_describes}
use Rattle.solo_epoch.proofs.StayingBorneOut.{put_borne_out, same_heads, told_borne_out}
use Rattle.solo_epoch.proofs.ToldReservations.{may_still, reserved_stands, reserves, told}

-- ---- of a call of which nothing is told

pub pending_untold : (v : View) → v.call ≡ [] → pending_in v ≡ pending_before v
unfolding pending_told
pending_untold v untold = ap (pending_told (pending_before v)) untold

blocks_untold : (v : View) → v.call ≡ [] → blocks_in v ≡ no_blocks
unfolding blocks_told
blocks_untold v untold = ap (blocks_told (pending_before v) no_blocks) untold

-- what was pending before the call's one operation is what is pending before it is told
pending_first : (v w : View) (op : Operation) (reply : Option Value) → v.call ≡ [] → Tells v w op reply → pending_in v ≡ pending_before w
pending_first v w op reply untold tells = pending_untold v untold ∙ sym (same_before v w tells.keeps.entries)

-- and that is all of the call
only_one : (v w : View) (op : Operation) (reply : Option Value) → v.call ≡ [] → Tells v w op reply → w.call ≡ record { operation = op; reply = reply } ∷ []
only_one v w op reply untold tells = tells.call ∙ ap (λ (call : List Told). call ++ record { operation = op; reply = reply } ∷ []) untold

-- ---- an object is reserved

module _ (o : Opening) (header : Header) (pool : PoolView) (start : View) (steps : List Step) (v : View) (shape : Shape) (c : IsAloneBetween o header pool start steps v shape) where
  found_each : AllFound v.locks
  found_each = subst AllFound (sym c.outside.free) (All-nil (λ (l : Lock). IsTrue (is_some l.block)))

  freed_none : HasLockedFreed v
  freed_none = none_freed v (ap (λ (b : CallBlocks). b.freed) (blocks_untold v c.untold))

  may : MayMakeAlone o header pool start steps v shape
  may = record { works = c.outside.works; can = c.outside.can; borne_out = c.outside.borne_out; locked = found_each; freed = freed_none }

  module _ (u : View) (size kind : ℕ) (block : Block) (makes : MakesObject v u size kind block) (some : 1 ≤ size) (most : size ≤ 262080) (room : pending_count (pending_in v) < max_actions) where
    abbrev n : NewObject
    n = object_in_block block size kind

    abbrev w : View
    w = with_object_reserved u n

    abbrev op : Operation
    op = Reserve size kind

    abbrev reply : Option Value
    reply = Some (Offset n.off)

    tells : Tells v w op reply
    tells = told o header pool start steps v shape may u size kind block makes

    log_still : KeepsLog v w
    log_still = logs o header pool start steps v shape may u size kind block makes op reply

    new : ReservesObject v w n
    new = reserves o header pool start steps v shape may u size kind block makes some most room

    before : pending_in v ≡ pending_before w
    before = pending_first v w op reply c.untold tells

    pub reserves_outside : ReservesOutside w n
    reserves_outside = record {
      call = only_one v w op reply c.untold tells;
      no_records = log_still.records ∙ c.outside.no_records;
      no_entries = log_still.entries ∙ c.outside.no_entries;
      some = some;
      most = most;
      place = two_same (λ (lanes zones : ℕ). CanHold lanes zones (class_of size) n.off) v.lanes w.lanes v.zones w.zones (sym tells.keeps.lanes) (sym tells.keeps.zones) new.place;
      unreserved = subst (λ (p : Pending). All (IsBesideReserved size n.off) p.reserved) before new.unreserved;
      room = subst (λ (p : Pending). pending_count p < max_actions) before room;
    }

    pub told_outside : IsAloneOutsideStill o header pool start steps w shape
    told_outside =
        let on = may_still o header pool start steps v shape may u size kind block makes in
        record {
          more = on.0;
          outside = record {
            works = on.1.works;
            can = on.1.can;
            no_records = log_still.records ∙ c.outside.no_records;
            no_entries = log_still.entries ∙ c.outside.no_entries;
            free = tells.locks ∙ c.outside.free;
            borne_out = on.1.borne_out;
            reserved = reserved_stands o header pool start steps v shape may u size kind block makes some most room c.outside.reserved;
          };
        }

    pub reservation_ends : IsEndedCall w
    reservation_ends = inr (inr (outside_reserve_steps w n reserves_outside, told_outside.outside.borne_out))

  -- ---- or refused, or bytes are written into what is

  module _ (w : View) (more : List Step) (works : WorksAlone o header pool start more w) (can : CanMakeObject w shape) (same : w.reserved ≡ v.reserved) where
    -- so it works on, with what bears out the operation
    outside_on : (made : Operation) (answer : Option Value) → Tells v w made answer → KeepsLog v w → IsBorneOut w → HasReserved w → IsAloneOutside o header pool start more w shape
    outside_on made answer tells log_still borne has = record {
      works = works;
      can = can;
      no_records = log_still.records ∙ c.outside.no_records;
      no_entries = log_still.entries ∙ c.outside.no_entries;
      free = tells.locks ∙ c.outside.free;
      borne_out = borne;
      reserved = has;
    }

    pub refused_outside : HasSameDescriptors v w → (size kind : ℕ) (r : Refusal) → RefusesReserve v w size kind r → IsAloneOutside o header pool start more w shape
    refused_outside described size kind r refuses =
        outside_on (Reserve size kind) (Some (Refused r)) refuses.tells refuses.logs
        (told_borne_out o header pool start v w steps more (Reserve size kind) (Some (Refused r)) c.outside.works works refuses.tells ((λ j. []), (λ j. false)) tt same described c.outside.borne_out)
        (refused_keeps v w size kind r c.outside.reserved refuses)

    pub put_outside : (id : Oid) (off : ℕ) (bytes : List ℕ) → WritesReserved v w id off bytes → IsAloneOutside o header pool start more w shape
    put_outside id off bytes writes =
        outside_on (WriteReserved id off bytes) None writes.tells writes.logs
        (put_borne_out o header pool start v w steps more id off bytes c.outside.works works c.outside.reserved writes same c.outside.borne_out)
        (reserved_write_keeps v w id off bytes c.outside.reserved writes)

    -- a put that is refused needs no room
    refused_put_borne : HasSameDescriptors v w → (id : Oid) (off : ℕ) (bytes : List ℕ) (r : Refusal) → Tells v w (WriteReserved id off bytes) (Some (Refused r)) → IsBorneOut w
    refused_put_borne described id off bytes r tells =
        borne_refused v w (same_heads o header pool start v w steps more c.outside.works works tells.keeps same described) (WriteReserved id off bytes) r tells.keeps.entries tells.call tt c.outside.borne_out

    pub refused_put_outside : (id : Oid) (off : ℕ) (bytes : List ℕ) (r : Refusal) → RefusesPut v w id off bytes r → IsAloneOutside o header pool start more w shape
    refused_put_outside id off bytes r refuses =
        outside_on (WriteReserved id off bytes) (Some (Refused r)) refuses.tells refuses.logs (refused_put_borne (kept_describes o header pool start v steps c.outside.works w refuses.words) id off bytes r refuses.tells) (refused_put_keeps v w id off bytes r c.outside.reserved refuses)

  -- ---- which is all of the call

  pub refuses_outside : (w : View) (size kind : ℕ) (r : Refusal) → RefusesReserve v w size kind r → RefusesReserveOutside w size kind r
  refuses_outside w size kind r refuses = record {
    call = only_one v w (Reserve size kind) (Some (Refused r)) c.untold refuses.tells;
    no_records = refuses.logs.records ∙ c.outside.no_records;
    no_entries = refuses.logs.entries ∙ c.outside.no_entries;
    reason = subst (λ (p : Pending). IsReserveReason p size r) (pending_first v w (Reserve size kind) (Some (Refused r)) c.untold refuses.tells) refuses.reason;
  }

  -- what a put is answered by the view before it is answered by the view behind it
  answer_behind : (w : View) (id : Oid) (off : ℕ) (bytes : List ℕ) (reply : Option Value) (r : Option Refusal) → Tells v w (WriteReserved id off bytes) reply
      → put_refusal v.pool (pending_in v) id off (length bytes) ≡ r → r ≡ put_refusal w.pool (pending_before w) id off (length bytes)
  answer_behind w id off bytes reply r tells is =
      sym is ∙ (λ j. put_refusal (sym tells.keeps.pool j) (pending_first v w (WriteReserved id off bytes) reply c.untold tells j) id off (length bytes))

  pub puts_outside : (w : View) (id : Oid) (off : ℕ) (bytes : List ℕ) → WritesReserved v w id off bytes → PutsOutside w id off bytes None
  puts_outside w id off bytes writes = record {
    call = only_one v w (WriteReserved id off bytes) None c.untold writes.tells;
    no_records = writes.logs.records ∙ c.outside.no_records;
    no_entries = writes.logs.entries ∙ c.outside.no_entries;
    answer = answer_behind w id off bytes None None writes.tells (none_refuses v.pool (pending_in v) id off (length bytes) c.outside.reserved.once writes.has writes.inside);
  }

  pub refuses_put_outside : (w : View) (id : Oid) (off : ℕ) (bytes : List ℕ) (r : Refusal) → RefusesPut v w id off bytes r → PutsOutside w id off bytes (Some r)
  refuses_put_outside w id off bytes r refuses = record {
    call = only_one v w (WriteReserved id off bytes) (Some (Refused r)) c.untold refuses.tells;
    no_records = refuses.logs.records ∙ c.outside.no_records;
    no_entries = refuses.logs.entries ∙ c.outside.no_entries;
    answer = answer_behind w id off bytes (Some (Refused r)) (Some r) refuses.tells refuses.reason;
  }
