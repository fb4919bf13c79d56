-- What a lane has reserved stands with one more, which lies apart from it.
use Rattle.std.proofs.Common.{◌≡◌, ◌≢◌, ◌⊎◌, ⊎_elim, inl, inr, ℕ, List, [], ◌∷◌, ◌++◌, length, map, replicate, slice_index, Some, refl, sym, ◌∙◌, ap, subst}
use Rattle.std.specs.Prelude.{nat_eq}
use Rattle.std.specs.List.{Contains, IsDistinct}
use Rattle.std.proofs.lemmas.List.{length-replicate}
use Rattle.std.proofs.lemmas.List.Elements.{All-contains, Contains-push_cases}
use Rattle.pm_image.specs.Contents.{bytes_in}
use Rattle.pm_layout.specs.Sizes.{class_of}
use Rattle.pm_objects.specs.declared.calls.Operation.TheVariants.{Reserve}
use Rattle.pm_objects.specs.declared.history.Value.TheVariants.{Offset, Refused}
use Rattle.pm_objects.specs.declared.pool.Object.{Object}
use Rattle.pm_objects.specs.declared.refusal.Refusal.{Refusal}
use Rattle.solo_model.specs.Actions.{Pending, Reservation}
use Rattle.solo_model.specs.Answers.{IsBesideReserved}
use Rattle.solo_model.specs.Places.{CanHold}
use Rattle.solo_view.specs.View.{Lock, View}
use Rattle.solo_crash.specs.CallBlocks.{CallBlocks, IsMadeIn, NewObject, block_of, blocks_in, is_freed_in, reserved_object}
use Rattle.solo_model.specs.Bytes.{is_among}
use Rattle.solo_crash.specs.HeapChanges.{AreDisjoint}
use Rattle.solo_crash.specs.OpenCall.{block_at_line}
use Rattle.solo_crash.specs.Pending.{pending_in}
use Rattle.solo_crash.specs.Reserving.{HasReserved, RefusesReserve, ReservesObject, StandsReserved, block_reserved}
use Rattle.solo_crash.proofs.CallBlocks.{blocks_once_more}
use Rattle.solo_crash.proofs.Continued.{two_same}
use Rattle.solo_crash.proofs.NewPlaces.{apart_offsets}
use Rattle.solo_crash.proofs.NewStay.{news_in}
use Rattle.solo_crash.proofs.PendingOn.{pending_once_more}
use Rattle.solo_crash.proofs.ReservedOnce.{reserved_once_more}
use Rattle.solo_crash.proofs.ReservedOn.{known_same, reserved_told, stands_still, turned}

module _ (v next : View) (n : NewObject) (has : HasReserved v) (reserves : ReservesObject v next n) where
  -- what it reserved
  abbrev new : Reservation
  new = record { off = n.off; kind = n.kind; bytes = replicate n.size 0 }

  pending_now : (pending_in next).reserved ≡ (pending_in v).reserved ++ new ∷ []
  pending_now = ap (λ (p : Pending). p.reserved) (pending_once_more v next (Reserve n.size n.kind) (Some (Offset n.off)) reserves.tells.keeps.entries reserves.tells.call)

  blocks_now : blocks_in next ≡ blocks_in v
  blocks_now = blocks_once_more v next (Reserve n.size n.kind) (Some (Offset n.off)) reserves.tells.keeps.entries reserves.tells.call

  as_long : length new.bytes ≡ n.size
  as_long = length-replicate n.size 0

  is_new : reserved_object new ≡ n
  is_new = (λ j. let m : NewObject = record { off = n.off; kind = n.kind; size = as_long j } in m)

  cases : (r : Reservation) → Contains (pending_in next).reserved r → Contains (pending_in v).reserved r ⊎ (r ≡ new)
  cases r there = ⊎_elim (λ (before : Contains (pending_in v).reserved r). inl before) (λ (same : new ≡ r). inr (sym same))
      (Contains-push_cases (pending_in v).reserved new r (subst (λ (rs : List Reservation). Contains rs r) pending_now there))

  new_before : (m : NewObject) → Contains (news_in (blocks_in next)) m → Contains (news_in (blocks_in v)) m
  new_before m there = subst (λ (b : CallBlocks). Contains (news_in b) m) blocks_now there

  stands_new : StandsReserved next new
  stands_new = record {
    place = two_same (λ (lanes zones : ℕ). CanHold lanes zones (class_of (length new.bytes)) n.off) v.lanes next.lanes v.zones next.zones (sym reserves.tells.keeps.lanes) (sym reserves.tells.keeps.zones)
        (subst (λ (size : ℕ). CanHold v.lanes v.zones (class_of size) n.off) (sym as_long) reserves.place);
    made = subst (IsMadeIn next) (sym is_new) reserves.made;
    bytes = ap (λ (m : NewObject). bytes_in (slice_index next.words) (block_of m)) is_new ∙ ap (λ (o : Object). o.bytes) reserves.zeros;
  }

  apart_new : (r : Reservation) → Contains (pending_in v).reserved r → AreDisjoint (block_of n) (block_reserved r)
  apart_new r there = All-contains (IsBesideReserved n.size n.off) (pending_in v).reserved r reserves.unreserved there

  -- in terms of what is reserved
  apart_it : (r : Reservation) → Contains (pending_in v).reserved r → AreDisjoint (block_reserved new) (block_reserved r)
  apart_it r there = subst (λ (m : NewObject). AreDisjoint (block_of m) (block_reserved r)) (sym is_new) (apart_new r there)

  elsewhere : (r : Reservation) → Contains (pending_in v).reserved r → r.off ≢ n.off
  elsewhere r there = apart_offsets n (reserved_object r) reserves.made.behind (apart_new r there)

  apart_now : (r s : Reservation) → Contains (pending_in next).reserved r → Contains (pending_in next).reserved s → r.off ≢ s.off → AreDisjoint (block_reserved r) (block_reserved s)
  apart_now r s there too differ = ⊎_elim
      (λ (before : Contains (pending_in v).reserved r). ⊎_elim
      (λ (also : Contains (pending_in v).reserved s). has.apart r s before also differ)
      (λ (same : s ≡ new). subst (λ (x : Reservation). AreDisjoint (block_reserved r) (block_reserved x)) (sym same) (turned (block_reserved new) (block_reserved r) (apart_it r before)))
      (cases s too))
      (λ (same : r ≡ new). ⊎_elim
      (λ (before : Contains (pending_in v).reserved s). subst (λ (x : Reservation). AreDisjoint (block_reserved x) (block_reserved s)) (sym same) (apart_it s before))
      (λ (also : s ≡ new). absurd (differ (ap (λ (x : Reservation). x.off) (same ∙ sym also))))
      (cases s too))
      (cases r there)

  pub keeps_reserved : HasReserved next
  keeps_reserved = record {
    each = λ r there. ⊎_elim
        (λ (before : Contains (pending_in v).reserved r).
        let stands : StandsReserved v r = has.each r before in stands_still v next r reserves.tells.keeps (known_same v next r reserves.keeps stands) stands)
        (λ (same : r ≡ new). subst (StandsReserved next) (sym same) stands_new)
        (cases r there);
    once = subst (λ (rs : List Reservation). IsDistinct nat_eq (map (λ (r : Reservation). r.off) rs)) (sym pending_now) (reserved_once_more (pending_in v).reserved new has.once elsewhere);
    apart = apart_now;
    apart_made = λ r m there made. ⊎_elim
        (λ (before : Contains (pending_in v).reserved r). has.apart_made r m before (new_before m made))
        (λ (same : r ≡ new).
        subst (λ (x : Reservation). AreDisjoint (block_reserved x) (block_of m)) (sym same)
        (subst (λ (x : NewObject). AreDisjoint (block_of x) (block_of m)) (sym is_new) (reserves.apart_made m (new_before m made))))
        (cases r there);
    apart_found = λ r l lines there held is.
        let held_before : Contains v.locks l = subst (λ (ls : List Lock). Contains ls l) reserves.tells.locks held in
        ⊎_elim
        (λ (before : Contains (pending_in v).reserved r). has.apart_found r l lines before held_before is)
        (λ (same : r ≡ new).
        subst (λ (x : Reservation). AreDisjoint (block_reserved x) (block_at_line l.line lines)) (sym same)
        (subst (λ (x : NewObject). AreDisjoint (block_of x) (block_at_line l.line lines)) (sym is_new) (reserves.apart_found l lines held_before is)))
        (cases r there);
    unfreed = λ r there. ap (λ (b : CallBlocks). is_among b.freed r.off) blocks_now ∙ ⊎_elim
        (λ (before : Contains (pending_in v).reserved r). has.unfreed r before)
        (λ (same : r ≡ new). ap (λ (x : Reservation). is_freed_in v x.off) same ∙ reserves.unfreed)
        (cases r there);
  }

pub refused_keeps : (v next : View) (size kind : ℕ) (r : Refusal) → HasReserved v → RefusesReserve v next size kind r → HasReserved next
refused_keeps v next size kind r has refuses = reserved_told v next (Reserve size kind) (Some (Refused r)) has refuses.tells refuses.keeps refl refl
