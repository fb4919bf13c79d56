-- What a list has reserved, and what the plain model has of it.
use Rattle.std.proofs.Common.{◌≡◌, ◌≢◌, ℕ, ◌+◌, ◌≤◌, ◌&&◌, ◌||◌, Bool, true, false, not, cond, eqb, ltb, List, [], ◌∷◌, length, map, Option, Some, None, refl, sym, ◌∙◌, ap, subst, arith}
use Rattle.std.specs.Prelude.{find}
use Rattle.std.specs.List.{Contains, list_any}
use Rattle.std.specs.Option.{option_map_or}
use Rattle.std.proofs.lemmas.Bool.{and_from, eq-eqb, eqb-true, ne_eqb}
use Rattle.std.proofs.Math.Bool.{and-false}
use Rattle.std.proofs.lemmas.List.{length-map}
use Rattle.pm_image.proofs.Members.{first_member, later_member}
use Rattle.pm_objects.specs.declared.ids.Oid.{Oid}
use Rattle.pm_objects.specs.declared.refusal.Refusal.TheVariants as refusal
use Rattle.solo_model.specs.Actions.{Pending, Reservation, bytes_reserved, is_reserved, with_put}
use Rattle.solo_model.specs.Bytes.{put_bytes}
use Rattle.solo_crash.specs.Reserving.{IsReservedOne, put_refusal}
use Rattle.solo_crash.proofs.Bytewise.{length-put}
use Rattle.solo_crash.proofs.ReservedOnce.{one_reserved}
use Rattle.solo_pending.specs.declared.pending.PendingActions.{PendingActions}
use Rattle.solo_pending.specs.declared.pending.Reserved.{Reserved}
use Rattle.solo_pending.specs.AllPending.{AreReservedOnce, IsPendingAs, reserved_as}

-- the test of what stands at an offset, of a list's and of the model's
abbrev pub is_at : ℕ → Reserved → Bool
is_at off r = eqb r.off off

abbrev stands_at : ℕ → Reservation → Bool
stands_at off r = eqb r.off off

-- ---- what is found at an offset

-- the first of these that is reserved there is this one of a list's
pub record IsFirstThere (off : ℕ) (ps : List Reservation) (one : Reserved) : Type 0 where
  pub first : Reservation
  pub found : find (stands_at off) ps ≡ Some first
  pub same : reserved_as first ≡ one
  pub member : Contains ps first
  pub place : first.off ≡ off

pub first_there : (off : ℕ) (ps : List Reservation) (one : Reserved) → find (is_at off) (map reserved_as ps) ≡ Some one → IsFirstThere off ps one
first_there off [] one found = absurd cc
first_there off (r ∷ ps) one found = go (eqb r.off off) refl (first_there off ps one) found
  where
    go : (b : Bool) → eqb r.off off ≡ b → (find (is_at off) (map reserved_as ps) ≡ Some one → IsFirstThere off ps one) → cond b (Some (reserved_as r)) (find (is_at off) (map reserved_as ps)) ≡ Some one
        → IsFirstThere off (r ∷ ps) one
    go true here behind found = record {
      first = r;
      found = ap (λ (b : Bool). cond b (Some r) (find (stands_at off) ps)) here;
      same = cc;
      member = first_member r ps;
      place = eqb-true r.off off here;
    }
    go false here behind found =
        let later = behind found in record {
          first = later.first;
          found = ap (λ (b : Bool). cond b (Some r) (find (stands_at off) ps)) here ∙ later.found;
          same = later.same;
          member = later_member r ps later.first later.member;
          place = later.place;
        }

-- nothing is found where none is reserved, and something where one is
none_there : (off : ℕ) (ps : List Reservation) → find (is_at off) (map reserved_as ps) ≡ None → list_any (stands_at off) ps ≡ false
none_there off [] none = refl
none_there off (r ∷ ps) none = go (eqb r.off off) (none_there off ps) none
  where
    go : (b : Bool) → (find (is_at off) (map reserved_as ps) ≡ None → list_any (stands_at off) ps ≡ false) → cond b (Some (reserved_as r)) (find (is_at off) (map reserved_as ps)) ≡ None → (b || list_any (stands_at off) ps) ≡ false
    go true behind found = absurd cc
    go false behind later = behind later

some_there : (off : ℕ) (ps : List Reservation) (r : Reservation) → find (stands_at off) ps ≡ Some r → list_any (stands_at off) ps ≡ true
some_there off [] r found = absurd cc
some_there off (s ∷ ps) r found = go (eqb s.off off) (some_there off ps r) found
  where
    go : (b : Bool) → (find (stands_at off) ps ≡ Some r → list_any (stands_at off) ps ≡ true) → cond b (Some s) (find (stands_at off) ps) ≡ Some r → (b || list_any (stands_at off) ps) ≡ true
    go true behind here = refl
    go false behind later = behind later

-- ---- why bytes are not written into what is reserved

pub put_elsewhere : (pool : ℕ) (p : Pending) (id : Oid) (off len : ℕ) → id.pool ≢ pool → Some refusal.NotReserved ≡ put_refusal pool p id off len
put_elsewhere pool p id off len other =
    ap (λ (b : Bool). cond (not (b && is_reserved p id.off)) (Some refusal.NotReserved) (cond (ltb (length (bytes_reserved p id.off)) (off + len)) (Some refusal.OutOfRange) None))
    (sym (ne_eqb id.pool pool other))

pub put_nowhere : (list : PendingActions) (pool : ℕ) (p : Pending) (id : Oid) (off len : ℕ) → IsPendingAs list p → find (is_at id.off) list.reserved.items ≡ None
    → Some refusal.NotReserved ≡ put_refusal pool p id off len
put_nowhere list pool p id off len lists none =
    let nothing : is_reserved p id.off ≡ false = none_there id.off p.reserved (sym (ap (find (is_at id.off)) lists.reserved) ∙ none) in
    let lacks : (eqb id.pool pool && is_reserved p id.off) ≡ false = ap (λ (b : Bool). eqb id.pool pool && b) nothing ∙ and-false (eqb id.pool pool) in
    ap (λ (b : Bool). cond (not b) (Some refusal.NotReserved) (cond (ltb (length (bytes_reserved p id.off)) (off + len)) (Some refusal.OutOfRange) None)) (sym lacks)

-- what a list has reserved there is so in the model
pub listed_there : (list : PendingActions) (p : Pending) (off : ℕ) (one : Reserved) → IsPendingAs list p → find (is_at off) list.reserved.items ≡ Some one → IsFirstThere off p.reserved one
listed_there list p off one lists found = first_there off p.reserved one (sym (ap (find (is_at off)) lists.reserved) ∙ found)

-- and then bytes are refused only where they pass its end
pub put_there : (list : PendingActions) (pool : ℕ) (p : Pending) (id : Oid) (off len : ℕ) (one : Reserved) (past : Bool) → IsPendingAs list p → id.pool ≡ pool → find (is_at id.off) list.reserved.items ≡ Some one
    → ltb one.size (off + len) ≡ past → cond past (Some refusal.OutOfRange) None ≡ put_refusal pool p id off len
put_there list pool p id off len one past lists of_pool found ends =
    let there = listed_there list p id.off one lists found in
    let has : not (eqb id.pool pool && is_reserved p id.off) ≡ false =
    ap not (and_from (eqb id.pool pool) (is_reserved p id.off) (eq-eqb id.pool pool of_pool) (some_there id.off p.reserved there.first there.found)) in
    let size : length (bytes_reserved p id.off) ≡ one.size =
    ap (λ (o : Option Reservation). length (option_map_or (λ (r : Reservation). r.bytes) o [])) there.found ∙ ap (λ (r : Reserved). r.size) there.same in
    sym (λ j. cond (has j) (Some refusal.NotReserved) (cond ((ap (λ (n : ℕ). ltb n (off + len)) size ∙ ends) j) (Some refusal.OutOfRange) None))

-- bytes that end in it are written into one of those reserved
pub put_inside : (list : PendingActions) (pool : ℕ) (p : Pending) (id : Oid) (off len : ℕ) (one : Reserved) → IsPendingAs list p → id.pool ≡ pool → find (is_at id.off) list.reserved.items ≡ Some one
    → off + len ≤ one.size → (has : IsReservedOne pool p id) × (off + len ≤ length has.one.bytes)
put_inside list pool p id off len one lists of_pool found inside =
    let there = listed_there list p id.off one lists found in
    (record { one = there.first; is_one = there.member; of_pool = of_pool; place = sym there.place }, subst (λ (r : Reserved). off + len ≤ r.size) (sym there.same) inside)

-- ---- bytes that are written leave the list as it is

-- with new bytes that end in the old ones
put_into : ℕ → ℕ → List ℕ → Reservation → Reservation
put_into off at bytes r = cond (eqb r.off off) (record r { bytes = put_bytes at bytes r.bytes }) r

abbrev sized : Reservation → ℕ → Reserved
sized r n = record { off = r.off; kind = r.kind; size = n }

same_listed : (off at : ℕ) (bytes : List ℕ) (ps : List Reservation) → ((r : Reservation) → Contains ps r → r.off ≡ off → at + length bytes ≤ length r.bytes)
    → map reserved_as (map (put_into off at bytes) ps) ≡ map reserved_as ps
unfolding put_into
same_listed off at bytes [] inside = refl
same_listed off at bytes (r ∷ ps) inside =
    (λ j. go (eqb r.off off) (λ here. inside r (first_member r ps) (eqb-true r.off off here)) j ∷ same_listed off at bytes ps (λ s there. inside s (later_member r ps s there)) j)
  where
    go : (b : Bool) → (b ≡ true → at + length bytes ≤ length r.bytes) → reserved_as (cond b (record r { bytes = put_bytes at bytes r.bytes }) r) ≡ reserved_as r
    go true fits = ap (sized r) (length-put at bytes r.bytes (fits refl))
    go false fits = refl

pub put_leaves : (list : PendingActions) (p : Pending) (off at : ℕ) (bytes : List ℕ) (one : Reserved) → IsPendingAs list p → AreReservedOnce p → find (is_at off) list.reserved.items ≡ Some one
    → at + length bytes ≤ one.size → IsPendingAs list (with_put off at bytes p)
unfolding put_into
put_leaves list p off at bytes one lists once found inside = record {
  sets = lists.sets;
  aligned = lists.aligned;
  frees = lists.frees;
  reserved = lists.reserved ∙ sym (same_listed off at bytes p.reserved each);
  late = lists.late;
  few = let many = length-map p.reserved (put_into off at bytes) in let few = lists.few in omega arith;
}
  where
    there : IsFirstThere off p.reserved one
    there = listed_there list p off one lists found

    each : (r : Reservation) → Contains p.reserved r → r.off ≡ off → at + length bytes ≤ length r.bytes
    each r member here =
        let same : there.first ≡ r = one_reserved p.reserved there.first r once there.member member (there.place ∙ sym here) in
        subst (λ (s : Reservation). at + length bytes ≤ length s.bytes) same (subst (λ (s : Reserved). at + length bytes ≤ s.size) (sym there.same) inside)
