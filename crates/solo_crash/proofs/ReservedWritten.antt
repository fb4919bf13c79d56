-- What a lane has reserved stands where bytes are written into one: that has the bytes then, and the others stay.
use Rattle.std.proofs.Common.{◌≡◌, ◌≢◌, ⊎_elim, ℕ, Bool, true, false, cond, eqb, List, [], ◌∷◌, length, map, slice_index, None, refl, sym, ◌∙◌, ap, subst}
use Rattle.std.specs.Prelude.{nat_eq}
use Rattle.std.specs.List.{Contains, IsDistinct}
use Rattle.std.proofs.lemmas.Bool.{cases_eq, cond-false, cond-true, eq-eqb, ne_eqb}
use Rattle.pm_image.proofs.Members.{member_made}
use Rattle.pm_image.specs.Contents.{bytes_in}
use Rattle.pm_image.specs.declared.block.Block.{Block}
use Rattle.pm_layout.specs.Sizes.{class_of}
use Rattle.pm_objects.specs.declared.calls.Operation.TheVariants.{WriteReserved}
use Rattle.pm_objects.specs.declared.ids.Oid.{Oid}
use Rattle.solo_model.specs.Actions.{Pending, Reservation}
use Rattle.solo_model.specs.Bytes.{is_among, put_bytes}
use Rattle.solo_model.specs.Places.{CanHold}
use Rattle.solo_view.specs.View.{Lock, View}
use Rattle.solo_crash.specs.CallBlocks.{CallBlocks, IsMadeIn, NewObject, block_of, blocks_in, is_freed_in, reserved_object}
use Rattle.solo_crash.specs.HeapChanges.{AreDisjoint}
use Rattle.solo_crash.specs.OpenCall.{block_at_line}
use Rattle.solo_crash.specs.Pending.{pending_in}
use Rattle.solo_crash.specs.Reserving.{HasReserved, StandsReserved, WritesReserved, block_reserved}
use Rattle.solo_crash.proofs.Bytewise.{length-put}
use Rattle.solo_crash.proofs.CallBlocks.{blocks_once_more}
use Rattle.solo_crash.proofs.Continued.{two_same}
use Rattle.solo_crash.proofs.NewStay.{news_in}
use Rattle.solo_crash.proofs.PendingOn.{pending_once_more}
use Rattle.solo_crash.proofs.PutOn.{writes_within}
use Rattle.solo_crash.proofs.ReservedOn.{stands_still}
use Rattle.solo_crash.proofs.ReservedOnce.{one_reserved}
use Rattle.solo_crash.proofs.WritesWithin.{bytes_written, other_same, stands_written}

-- one of them as bytes written at an offset leave it
abbrev pub put_one : ℕ → ℕ → List ℕ → Reservation → Reservation
put_one off at bytes r = cond (eqb r.off off) (record r { bytes = put_bytes at bytes r.bytes }) r

one_offset : (off at : ℕ) (bytes : List ℕ) (r : Reservation) → (put_one off at bytes r).off ≡ r.off
one_offset off at bytes r = go (eqb r.off off) where
  go : (t : Bool) → (cond t (record r { bytes = put_bytes at bytes r.bytes }) r).off ≡ r.off
  go true = refl
  go false = refl

offsets_stay : (off at : ℕ) (bytes : List ℕ) (rs : List Reservation) → map (λ (r : Reservation). r.off) (map (put_one off at bytes) rs) ≡ map (λ (r : Reservation). r.off) rs
offsets_stay off at bytes [] = refl
offsets_stay off at bytes (r ∷ rs) = (λ j. one_offset off at bytes r j ∷ offsets_stay off at bytes rs j)

module _ (v next : View) (id : Oid) (off : ℕ) (bytes : List ℕ) (has : HasReserved v) (writes : WritesReserved v next id off bytes) where
  abbrev rs : List Reservation
  rs = (pending_in v).reserved

  abbrev one : Reservation
  one = writes.has.one

  abbrev put : Reservation → Reservation
  put = put_one id.off off bytes

  abbrev with_them : Reservation
  with_them = record one { bytes = put_bytes off bytes one.bytes }

  pending_now : (pending_in next).reserved ≡ map put rs
  pending_now = ap (λ (p : Pending). p.reserved) (pending_once_more v next (WriteReserved id off bytes) None writes.tells.keeps.entries writes.tells.call)

  blocks_now : blocks_in next ≡ blocks_in v
  blocks_now = blocks_once_more v next (WriteReserved id off bytes) None writes.tells.keeps.entries writes.tells.call

  -- the one that is written into
  is_put : put one ≡ with_them
  is_put = cond-true (eqb one.off id.off) with_them one (eq-eqb one.off id.off (sym writes.has.place))

  -- and another
  is_other : (r : Reservation) → r.off ≢ one.off → put r ≡ r
  is_other r differ = cond-false (eqb r.off id.off) (record r { bytes = put_bytes off bytes r.bytes }) r (ne_eqb r.off id.off (λ same. differ (same ∙ writes.has.place)))

  same_length : length (put_bytes off bytes one.bytes) ≡ length one.bytes
  same_length = length-put off bytes one.bytes writes.inside

  -- it is of its size still, and so is what each of them is to become
  pub same_object : (r : Reservation) → Contains rs r → reserved_object (put r) ≡ reserved_object r
  same_object r there = ⊎_elim
      (λ (same : r.off ≡ one.off).
      let is : r ≡ one = one_reserved rs r one has.once there writes.has.is_one same in
      ap (λ (x : Reservation). reserved_object (put x)) is ∙ ap reserved_object is_put ∙ (λ j. let n : NewObject = record { off = one.off; kind = one.kind; size = same_length j } in n) ∙ ap reserved_object (sym is))
      (λ (differ : r.off ≢ one.off). ap reserved_object (is_other r differ))
      (cases_eq r.off one.off)

  same_block : (r : Reservation) → Contains rs r → block_reserved (put r) ≡ block_reserved r
  same_block r there = ap block_of (same_object r there)

  stands_put : StandsReserved next with_them
  stands_put =
      let before : StandsReserved v one = has.each one writes.has.is_one in
      let object : reserved_object with_them ≡ reserved_object one = ap reserved_object (sym is_put) ∙ same_object one writes.has.is_one in
      record {
        place = two_same (λ (lanes zones : ℕ). CanHold lanes zones (class_of (length with_them.bytes)) one.off) v.lanes next.lanes v.zones next.zones (sym writes.tells.keeps.lanes) (sym writes.tells.keeps.zones)
            (subst (λ (size : ℕ). CanHold v.lanes v.zones (class_of size) one.off) (sym same_length) before.place);
        made = subst (IsMadeIn next) (sym object) (stands_written v next (reserved_object one) off bytes (writes_within v next id off bytes has writes) writes.tells.keeps);
        bytes =
            ap (λ (n : NewObject). bytes_in (slice_index next.words) (block_of n)) object
            ∙ bytes_written v next (reserved_object one) off bytes (writes_within v next id off bytes has writes) writes.tells.keeps
            ∙ ap (put_bytes off bytes) before.bytes;
      }

  stands : (r : Reservation) → Contains rs r → StandsReserved next (put r)
  stands r there = ⊎_elim
      (λ (same : r.off ≡ one.off).
      subst (λ (x : Reservation). StandsReserved next (put x)) (sym (one_reserved rs r one has.once there writes.has.is_one same)) (subst (StandsReserved next) (sym is_put) stands_put))
      (λ (differ : r.off ≢ one.off).
      let before : StandsReserved v r = has.each r there in
      subst (StandsReserved next) (sym (is_other r differ))
      (stands_still v next r writes.tells.keeps
      (other_same v next (reserved_object one) off bytes (writes_within v next id off bytes has writes) (reserved_object r) before.made
      (has.apart one r writes.has.is_one there (λ same. differ (sym same)))) before))
      (cases_eq r.off one.off)

  -- each that is reserved then was before
  pub was : (r : Reservation) → Contains (pending_in next).reserved r → (s : Reservation) × (Contains rs s × (put s ≡ r))
  was r there = member_made put rs r (subst (λ (xs : List Reservation). Contains xs r) pending_now there)

  -- so what holds of each as it is left holds of them all
  each_now : (P : Reservation → Type 0) → ((s : Reservation) → Contains rs s → P (put s)) → (r : Reservation) → Contains (pending_in next).reserved r → P r
  each_now P holds r there = let t = was r there in subst P t.1.1 (holds t.0 t.1.0)

  apart_now : (r s : Reservation) → Contains rs r → Contains rs s → (put r).off ≢ (put s).off → AreDisjoint (block_reserved (put r)) (block_reserved (put s))
  apart_now r s there too differ =
      subst (λ (b : Block). AreDisjoint b (block_reserved (put s))) (sym (same_block r there))
      (subst (AreDisjoint (block_reserved r)) (sym (same_block s too))
      (has.apart r s there too (λ same. differ (one_offset id.off off bytes r ∙ same ∙ sym (one_offset id.off off bytes s)))))

  written_keeps : HasReserved next
  written_keeps = record {
    each = each_now (StandsReserved next) stands;
    once = subst (λ (xs : List Reservation). IsDistinct nat_eq (map (λ (r : Reservation). r.off) xs)) (sym pending_now) (subst (IsDistinct nat_eq) (sym (offsets_stay id.off off bytes rs)) has.once);
    apart = λ r s there too.
        each_now (λ (x : Reservation). x.off ≢ s.off → AreDisjoint (block_reserved x) (block_reserved s))
        (λ x in_it. each_now (λ (y : Reservation). (put x).off ≢ y.off → AreDisjoint (block_reserved (put x)) (block_reserved y)) (λ y in_too. apart_now x y in_it in_too) s too) r there;
    apart_made = λ r m there new.
        each_now (λ (x : Reservation). AreDisjoint (block_reserved x) (block_of m))
        (λ x in_it. subst (λ (b : Block). AreDisjoint b (block_of m)) (sym (same_block x in_it)) (has.apart_made x m in_it (subst (λ (b : CallBlocks). Contains (news_in b) m) blocks_now new))) r there;
    apart_found = λ r l lines there held is.
        each_now (λ (x : Reservation). AreDisjoint (block_reserved x) (block_at_line l.line lines))
        (λ x in_it. subst (λ (b : Block). AreDisjoint b (block_at_line l.line lines)) (sym (same_block x in_it)) (has.apart_found x l lines in_it (subst (λ (ls : List Lock). Contains ls l) writes.tells.locks held) is)) r there;
    unfreed = λ r there.
        ap (λ (b : CallBlocks). is_among b.freed r.off) blocks_now
        ∙ each_now (λ (x : Reservation). is_freed_in v x.off ≡ false) (λ x in_it. ap (is_freed_in v) (one_offset id.off off bytes x) ∙ has.unfreed x in_it) r there;
  }

pub reserved_write_keeps : (v next : View) (id : Oid) (off : ℕ) (bytes : List ℕ) → HasReserved v → WritesReserved v next id off bytes → HasReserved next
reserved_write_keeps v next id off bytes has writes = written_keeps v next id off bytes has writes
