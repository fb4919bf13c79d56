-- Bytes are not written into what is reserved: that is told, and the lane is at work with its lists still.
use Rattle.std.proofs.Common.{◌≡◌, ℕ, List, length, map, slice_index, Some, refl, sym, ap, ◌∙◌, subst, ◌++◌}
use Rattle.std.specs.List.{All}
use Rattle.std.proofs.lemmas.List.{append-nil}
use Rattle.std.proofs.lemmas.List.Elements.{All-weaker}
use Rattle.solo_made.specs.Made.{BlockLists}
use Rattle.solo_model.specs.Actions.{Pending}
use Rattle.pm_objects.specs.declared.calls.Operation.{Operation}
use Rattle.pm_objects.specs.declared.calls.Operation.TheVariants.{WriteReserved}
use Rattle.pm_objects.specs.declared.history.Value.TheVariants.{Refused}
use Rattle.pm_objects.specs.declared.ids.Oid.{Oid}
use Rattle.pm_objects.specs.declared.refusal.Refusal.{Refusal}
use Rattle.solo_pending.specs.AllPending.{IsPendingAs}
use Rattle.solo_pending.specs.declared.pending.PendingActions.{PendingActions}
use Rattle.solo_undo.proofs.Begun.{tell_works}
use Rattle.solo_undo.specs.Spans.{IsSpan}
use Rattle.solo_view.proofs.SameLane.{same_lane-after}
use Rattle.solo_view.specs.Steps.Step.{Tell}
use Rattle.solo_view.specs.View.{View}
use Rattle.solo_view.specs.Views.{after}
use Rattle.solo_world.specs.Opening.{Opening}
use Rattle.solo_world.specs.declared.lane.HeldLock.{HeldLock}
use Rattle.solo_world.specs.declared.lane.Lane.{Lane}
use Rattle.solo_crash.proofs.CallBlocks.{agrees_once_more, allocated_once_more, blocks_once_more}
use Rattle.solo_crash.proofs.PendingOn.{pending_once_more, published_once_more}
use Rattle.solo_crash.proofs.PutOn.{refused_put_goes_on, refused_put_keeps}
use Rattle.solo_crash.proofs.StillReserved.{HasSameHeads, reserved_still, free_still}
use Rattle.solo_crash.specs.CallBlocks.{allocated_in, reserved_in, reserved_object, CallBlocks, blocks_in}
use Rattle.solo_crash.specs.Pending.{pending_in, published_in}
use Rattle.solo_crash.specs.Reserved.{IsBorneOut, IsReservedFor, root_in, LiesFree}
use Rattle.solo_crash.specs.Reserving.{RefusesPut, put_refusal}
use Rattle.solo_tx.proofs.GoingOn.{HasSameFields, goes_on}
use Rattle.solo_tx.proofs.NoneMade.{made_none_before}
use Rattle.solo_tx.specs.AtWork.{IsAtWork}
use Rattle.solo_transaction.proofs.GoingWith.{Keeps, keeps_so, kept_of, lies_still, with_lists}
use Rattle.solo_transaction.specs.AtWork.{IsAtWorkWith, LiesInReserved}
use Rattle.solo_transaction.specs.Filling.{HasRefusedPut}

module _ {M : Type 0} (o : Opening) (at : M → View → Type 0) (lane next : Lane M) (blocks : BlockLists) (v : View) (is : IsAtWorkWith o at lane blocks v) (id : Oid) (off : ℕ) (bytes : List ℕ) (r : Refusal)
    (reason : put_refusal v.pool (pending_in v) id off (length bytes) ≡ Some r) (fields : HasSameFields lane next) (records : next.records ≡ lane.records) where
  abbrev op : Operation
  op = WriteReserved id off bytes

  abbrev told : View
  told = after v (Tell op (Some (Refused r)))

  refuses : RefusesPut v told id off bytes r
  refuses = record {
    reason = reason;
    tells = record { keeps = record { lanes = refl; zones = refl; pool = refl; lane = refl; entries = refl; known = λ i there. there }; locks = refl; call = refl };
    logs = record { records = refl; entries = refl };
    words = record { words = λ i outside. refl };
  }

  told_at_work : at next.memory told → IsAtWork o at next told
  told_at_work seen =
      goes_on o at lane next v told is.work fields
      (record { lane = same_lane-after v (Tell op (Some (Refused r))); locks = refl; number = refl; entries = refl; remembers = λ i there. there; seen = λ s there. there; sizes = λ l held. refl })
      seen (ap (λ rs. rs.items) records ∙ is.work.seen.records) (subst (λ rs. All IsSpan rs.items) (sym records) is.work.spans)
      (let f = is.work.opening in record { lane = f.lane; lanes = f.lanes; size = f.size; descriptors = f.descriptors; locks = f.locks })
      (tell_works v op (Some (Refused r)) is.work.working) is.work.no_entries
      (published_once_more v told op (Some (Refused r)) refl refl ∙ append-nil (published_in v))
      (made_none_before v told op (Some (Refused r)) refl refl refl) (refused_put_goes_on v told id off lane.level bytes r is.work.level is.work.under_way refuses)

  heads : HasSameHeads v told
  heads = record { lanes = refl; zones = refl; reserved = refl; described = λ c in_pool. refl; bitmaps = λ c in_pool run. refl; root = refl }

  same_pending : pending_in told ≡ pending_in v
  same_pending = pending_once_more v told op (Some (Refused r)) refl refl

  borne : IsBorneOut told
  borne = record {
    made =
        subst (λ (b : CallBlocks). All (IsReservedFor told) (b.made ++ b.dropped)) (sym (blocks_once_more v told op (Some (Refused r)) refl refl))
        (All-weaker (IsReservedFor v) (IsReservedFor told) (reserved_still v told heads) ((blocks_in v).made ++ (blocks_in v).dropped) is.borne_out.made);
    free =
        subst (All (LiesFree told)) (sym (allocated_once_more v told op (Some (Refused r)) refl refl ∙ append-nil (allocated_in v)))
        (All-weaker (LiesFree v) (LiesFree told) (free_still v told heads) (allocated_in v) is.borne_out.free);
    pending =
        subst (λ (p : Pending). All (IsReservedFor told) (map reserved_object p.reserved)) (sym same_pending)
        (All-weaker (IsReservedFor v) (IsReservedFor told) (reserved_still v told heads) (reserved_in v) is.borne_out.pending);
    root = agrees_once_more v told op (Some (Refused r)) refl refl (root_in (slice_index v.words)) is.borne_out.root tt;
  }

  keeps : Keeps next.locks.items blocks v → Keeps next.locks.items blocks told
  keeps before =
      keeps_so v told heads next.locks.items blocks before refl refl (blocks_once_more v told op (Some (Refused r)) refl refl) borne (refused_put_keeps v told id off bytes r is.has_reserved refuses)
      (subst (λ (p : Pending). All (LiesInReserved told) (map reserved_object p.reserved)) (sym same_pending)
      (All-weaker (LiesInReserved v) (LiesInReserved told) (lies_still v told heads) (reserved_in v) is.reserved_within))
      (subst (λ (p : Pending). All (LiesFree told) (map reserved_object p.reserved)) (sym same_pending)
      (All-weaker (LiesFree v) (LiesFree told) (free_still v told heads) (reserved_in v) is.reserved_free))

  pub put_is_refused : at next.memory told → (pending : PendingActions) → IsPendingAs pending (pending_in v) → HasRefusedPut o at next blocks pending v id off bytes r
  put_is_refused seen pending are = record {
    refuses = refuses;
    told = record {
      works = with_lists o at next blocks told (told_at_work seen) (keeps (subst (λ (ls : List HeldLock). Keeps ls blocks v) (ap (λ ls. ls.items) (sym fields.locks)) (kept_of o at lane blocks v is)));
      listed = subst (IsPendingAs pending) (sym same_pending) are;
    };
  }
