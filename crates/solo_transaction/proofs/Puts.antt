-- A lane at work may write a range of an object that is reserved; it stays at work with its lists, and its call is what the plain model's write makes of it.
use Rattle.std.proofs.Common.{◌≡◌, ℕ, ◌+◌, ◌^◌, ◌<◌, ◌≤◌, List, Contains, length, None, refl, sym, ap, ◌∙◌, subst}
use Rattle.std.proofs.lemmas.List.Elements.{All-contains, All-contains_itself, All-weaker}
use Rattle.pm_words.specs.Words.{AreBytes}
use Rattle.pm_image.proofs.Members.{member_made}
use Rattle.solo_made.specs.Made.{BlockLists}
use Rattle.solo_memory.specs.Runs.{Stops}
use Rattle.solo_model.specs.Actions.{Pending, Reservation, with_put}
use Rattle.pm_objects.specs.declared.calls.Operation.{Operation}
use Rattle.pm_objects.specs.declared.calls.Operation.TheVariants.{WriteReserved}
use Rattle.pm_objects.specs.declared.ids.Oid.{Oid}
use Rattle.solo_pending.specs.AllPending.{AreReservedOnce, IsPendingAs}
use Rattle.solo_pending.specs.declared.pending.PendingActions.{PendingActions}
use Rattle.solo_view.specs.View.{View}
use Rattle.solo_view.specs.Views.{after_all}
use Rattle.solo_world.specs.Opening.{Opening}
use Rattle.solo_world.specs.Sequences.{Ready}
use Rattle.solo_world.specs.declared.lane.HeldLock.{HeldLock}
use Rattle.solo_world.specs.declared.lane.Lane.{Lane}
use Rattle.solo_crash.proofs.BornePuts.{borne_put}
use Rattle.solo_crash.proofs.CallBlocks.{blocks_once_more}
use Rattle.solo_crash.proofs.Includes.{made_member}
use Rattle.solo_crash.proofs.PendingOn.{pending_once_more}
use Rattle.solo_crash.proofs.PutOn.{reserved_write_goes_on}
use Rattle.solo_crash.proofs.ReservedWritten.{reserved_write_keeps, same_object, was}
use Rattle.solo_crash.proofs.StillReserved.{HasSameHeads, free_still}
use Rattle.solo_crash.specs.CallBlocks.{NewObject, reserved_in, reserved_object}
use Rattle.solo_crash.specs.Pending.{pending_in}
use Rattle.solo_crash.specs.Reserving.{IsReservedOne, WritesReserved}
use Rattle.solo_tx.proofs.GoingOn.{HasSameFields}
use Rattle.solo_tx.specs.Ranges.{StopsUndrawn}
use Rattle.solo_tx.specs.Sequences.{writes}
use Rattle.solo_transaction.proofs.GoingWith.{Keeps, keeps_so, kept_of, lies_still, with_lists}
use Rattle.solo_transaction.proofs.OwnRangeWords.{HasOwnRange, range_is_low, works_in_pool}
use Rattle.solo_transaction.proofs.OwnWrites as any
use Rattle.solo_transaction.specs.AtWork.{IsAtWorkWith, LiesInReserved}
use Rattle.solo_transaction.specs.Filling.{HasPut, HasReservedRange, puts_range}
use Rattle.solo_crash.specs.Reserved.{LiesFree}

module _ {M : Type 0} (o : Opening) (at : M → View → Type 0) (lane : Lane M) (blocks : BlockLists) (v : View) (all : IsAtWorkWith o at lane blocks v) (id : Oid) (off : ℕ) (bytes : List ℕ) (range : HasReservedRange v id off (length bytes)) where
  abbrev one : Reservation
  one = range.has.one

  abbrev pub own : HasOwnRange v id off (length bytes)
  own = record {
    new = reserved_object one;
    stands = (all.has_reserved.each one range.has.is_one).made;
    lies = All-contains (LiesInReserved v) (reserved_in v) (reserved_object one) all.reserved_within (made_member reserved_object (pending_in v).reserved one range.has.is_one);
    apart = λ l lines. all.has_reserved.apart_found one l lines range.has.is_one;
    place = range.has.place;
    inside = range.inside;
  }

  abbrev op : Operation
  op = WriteReserved id off bytes

  -- behind the bytes, and behind the write that is told
  abbrev w : View
  w = any.w v (works_in_pool o at lane blocks v all) id off bytes own op

  pub put_is_low : id.off + off + length bytes < 2 ^ 60
  put_is_low = range_is_low v (works_in_pool o at lane blocks v all) id off (length bytes) own

  pub put_may_be_made : Ready v (puts_range id off bytes v)
  unfolding puts_range
  put_may_be_made = any.own_write_may_be_made v (works_in_pool o at lane blocks v all) id off bytes own op

  pub puts_first : Ready v (writes (id.off + off) bytes v)
  puts_first = any.own_writes_first v (works_in_pool o at lane blocks v all) id off bytes own op

  pub put_stops : (new : View → Type 0) → Stops new v (puts_range id off bytes v) → StopsUndrawn new v (puts_range id off bytes)
  unfolding puts_range
  put_stops new stops = any.own_write_stops v (works_in_pool o at lane blocks v all) id off bytes own op new stops

  written : AreBytes bytes → WritesReserved v w id off bytes
  written are = record {
    tells = any.tells_so v (works_in_pool o at lane blocks v all) id off bytes own op;
    logs = any.logs_so v (works_in_pool o at lane blocks v all) id off bytes own op;
    has = range.has;
    inside = range.inside;
    are_bytes = are;
    written = λ i outside. any.words_so v (works_in_pool o at lane blocks v all) id off bytes own op i;
  }

  heads : HasSameHeads v w
  heads = any.heads_so v (works_in_pool o at lane blocks v all) id off bytes own op

  -- each that is reserved then was before, and lies where it lay
  lies_now : WritesReserved v w id off bytes → (n : NewObject) → Contains (reserved_in w) n → LiesInReserved w n
  lies_now told n there =
      let t = member_made reserved_object (pending_in w).reserved n there in
      let s = was v w id off bytes all.has_reserved told t.0 t.1.0 in
      let lay : LiesInReserved v (reserved_object s.0) = All-contains (LiesInReserved v) (reserved_in v) (reserved_object s.0) all.reserved_within (made_member reserved_object (pending_in v).reserved s.0 s.1.0) in
      subst (LiesInReserved w) (sym (same_object v w id off bytes all.has_reserved told s.0 s.1.0) ∙ ap reserved_object s.1.1 ∙ t.1.1) (lies_still v w heads (reserved_object s.0) lay)

  free_now : WritesReserved v w id off bytes → (n : NewObject) → Contains (reserved_in w) n → LiesFree w n
  free_now told n there =
      let t = member_made reserved_object (pending_in w).reserved n there in
      let s = was v w id off bytes all.has_reserved told t.0 t.1.0 in
      let lay : LiesFree v (reserved_object s.0) = All-contains (LiesFree v) (reserved_in v) (reserved_object s.0) all.reserved_free (made_member reserved_object (pending_in v).reserved s.0 s.1.0) in
      subst (LiesFree w) (sym (same_object v w id off bytes all.has_reserved told s.0 s.1.0) ∙ ap reserved_object s.1.1 ∙ t.1.1) (free_still v w heads (reserved_object s.0) lay)

  keeps : (locks : List HeldLock) → Keeps locks blocks v → WritesReserved v w id off bytes → Keeps locks blocks w
  keeps locks before told =
      keeps_so v w heads locks blocks before (any.table_so v (works_in_pool o at lane blocks v all) id off bytes own op) (any.zone_locks_so v (works_in_pool o at lane blocks v all) id off bytes own op)
      (blocks_once_more v w op None told.tells.keeps.entries told.tells.call)
      (borne_put v w id off bytes heads all.has_reserved told all.borne_out) (reserved_write_keeps v w id off bytes all.has_reserved told)
      (All-weaker (Contains (reserved_in w)) (LiesInReserved w) (lies_now told) (reserved_in w) (All-contains_itself (reserved_in w)))
      (All-weaker (Contains (reserved_in w)) (LiesFree w) (free_now told) (reserved_in w) (All-contains_itself (reserved_in w)))

  pub put_is_made : AreBytes bytes → (next : Lane M) → HasSameFields lane next → next.records ≡ lane.records → at next.memory w → HasPut o at next blocks v id off bytes
  unfolding puts_range
  put_is_made are next fields records seen =
      let told : WritesReserved v w id off bytes = written are in
      let sequence = any.sequence v (works_in_pool o at lane blocks v all) id off bytes own op in
      let work = any.own_write_at_work o at lane blocks v all id off bytes own op next fields records seen refl tt (reserved_write_goes_on v w id off lane.level bytes all.work.level all.work.under_way all.has_reserved told) in
      record {
        ready = put_may_be_made;
        draws = any.write_draws v (works_in_pool o at lane blocks v all) id off bytes own op;
        works =
            subst (IsAtWorkWith o at next blocks) (sym sequence.1)
            (with_lists o at next blocks w work (keeps next.locks.items (subst (λ (ls : List HeldLock). Keeps ls blocks v) (ap (λ ls. ls.items) (sym fields.locks)) (kept_of o at lane blocks v all)) told));
        written = subst (λ (z : View). WritesReserved v z id off bytes) (sym sequence.1) told;
      }

  -- what is pending has the bytes, and is listed as it was
  pub put_is_listed : (pending : PendingActions) → IsPendingAs pending (pending_in v) → ((p : Pending) (bs : List ℕ) → IsPendingAs pending p → AreReservedOnce p → length bs ≡ length bytes → IsPendingAs pending (with_put id.off off bs p))
      → IsPendingAs pending (pending_in (after_all v (puts_range id off bytes v)))
  unfolding puts_range
  put_is_listed pending are listed =
      let sequence = any.sequence v (works_in_pool o at lane blocks v all) id off bytes own op in
      let tells = any.tells_so v (works_in_pool o at lane blocks v all) id off bytes own op in
      subst (λ (z : View). IsPendingAs pending (pending_in z)) (sym sequence.1)
      (subst (IsPendingAs pending) (sym (pending_once_more v w op None tells.keeps.entries tells.call)) (listed (pending_in v) bytes are all.has_reserved.once refl))

-- what the lists have reserved at an offset, in the lane's pool, is reserved by its view
pub reserved_range : {M : Type 0} (o : Opening) (at : M → View → Type 0) (lane : Lane M) (blocks : BlockLists) (v : View) → IsAtWorkWith o at lane blocks v → (id : Oid) (off len : ℕ)
    → ((has : IsReservedOne lane.pool (pending_in v) id) × (off + len ≤ length has.one.bytes)) → HasReservedRange v id off len
reserved_range o at lane blocks v is id off len t =
    record { has = record { one = t.0.one; is_one = t.0.is_one; of_pool = t.0.of_pool ∙ sym is.work.seen.pool; place = t.0.place }; inside = t.1 }
