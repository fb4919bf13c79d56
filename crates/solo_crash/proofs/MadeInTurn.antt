-- What is reserved comes to be, one after another, once objects were freed: each may stand, the lists of the call follow, and what else the transaction has stays.
use Rattle.std.proofs.Common.{◌≡◌, ◌≢◌, ◌⊎◌, ⊎_elim, inl, inr, ℕ, ◌≤◌, Bool, true, false, not, cond, eqb, List, [], ◌∷◌, ◌++◌, length, map, get_or, Option, Some, None, refl, sym, ◌∙◌, ap, subst}
use Rattle.std.specs.List.{All, Contains, filter, list_any}
use Rattle.std.proofs.lemmas.Bool.{cases_Bool, eq-eqb, eqb-true, false≢true}
use Rattle.std.proofs.lemmas.List.{map-append}
use Rattle.std.proofs.lemmas.List.Elements.{All-append, All-cons, All-nil, Contains-append_left, Contains-append_right, Contains-push_cases}
use Rattle.std.proofs.lemmas.List.Folds.{Any-from_list_any}
use Rattle.std.proofs.lemmas.Option.{same_Some}
use Rattle.pm_layout.specs.Sizes.{class_of}
use Rattle.pm_image.proofs.Members.{first_member, later_member}
use Rattle.pm_objects.specs.Pool.{object_at}
use Rattle.pm_objects.specs.declared.ids.Oid.{Oid}
use Rattle.pm_objects.specs.declared.pool.Object.{Object}
use Rattle.pm_objects.specs.declared.pool.PoolView.{PoolView}
use Rattle.solo_model.specs.Actions.{Reservation, object_reserved}
use Rattle.solo_model.specs.Answers.{IsBeside, IsBesideReserved, IsNewPlace, MayStand}
use Rattle.solo_model.specs.Bytes.{is_among}
use Rattle.solo_model.specs.NewObjects.{pool_without}
use Rattle.solo_model.specs.Places.{CanHold}
use Rattle.solo_model.specs.Transaction.{Transaction, all_made, all_released, made_at, released}
use Rattle.solo_model.proofs.Blocks.{none_beside}
use Rattle.solo_model.proofs.Made.{among_else}
use Rattle.solo_crash.specs.CallBlocks.{CallBlocks, NewObject, block_of, is_at, reserved_object, with_all_freed, with_all_made, with_freed, with_made}
use Rattle.solo_crash.specs.HeapChanges.{AreDisjoint}
use Rattle.solo_crash.proofs.CallBlocks.{any_map}
use Rattle.solo_crash.proofs.Continued.{two_same}
use Rattle.solo_crash.proofs.Following.{Follows, made_follows}
use Rattle.solo_crash.proofs.LyingApart.{LiesApartIn, MayBeMade, may_be_next, more_apart}
use Rattle.solo_crash.proofs.NewPlaces.{all_beside, beside_place, stands_there}
use Rattle.solo_crash.proofs.OnceMade.{member_kept, offsets_without}
use Rattle.solo_crash.proofs.ReservedOnce.{AreOnceReserved, first_alone, tail_once}

-- a reservation stands free: its object may be made, no object of the pool before or of that which the words hold is in its way, and it is as it is to be made
pub record StandsFree (as_made : NewObject → Object) (base start : PoolView) (b : CallBlocks) (r : Reservation) : Type 0 where
  pub may : MayBeMade b (reserved_object r)
  pub beside : (off : ℕ) (object : Object) → object_at base.objects off ≡ Some object → IsBeside (length r.bytes) r.off (off, object)
  pub before : All (IsBeside (length r.bytes) r.off) start.objects
  pub place : CanHold base.lanes base.zones (class_of (length r.bytes)) r.off
  pub some : 1 ≤ length r.bytes
  pub most : length r.bytes ≤ 262080
  pub is_it : as_made (reserved_object r) ≡ object_reserved r

-- so nothing is there
none_when : (o : Option Object) → ((object : Object) → o ≡ Some object → ⊥) → o ≡ None
none_when None never = refl
none_when (Some object) never = absurd (never object refl)

clear_of : (size off : ℕ) (object : Object) → IsBeside size off (off, object) → ⊥
clear_of size off object beside =
    let there : object_at ((off, object) ∷ []) off ≡ Some object = ap (λ (t : Bool). cond t (Some object) None) (eq-eqb off off refl) in
    let none : object_at ((off, object) ∷ []) off ≡ None = none_beside size off ((off, object) ∷ []) (All-cons (IsBeside size off) (off, object) [] beside (All-nil (IsBeside size off))) in
    let clash : Some object ≡ None = sym there ∙ none in absurd cc

pub none_in_base : (as_made : NewObject → Object) (base start : PoolView) (b : CallBlocks) (r : Reservation) → StandsFree as_made base start b r → object_at base.objects r.off ≡ None
none_in_base as_made base start b r free = none_when (object_at base.objects r.off) (λ object is. clear_of (length r.bytes) r.off object (free.beside r.off object is))

free_next : (as_made : NewObject → Object) (base start : PoolView) (b : CallBlocks) (n : NewObject) (r : Reservation) → AreDisjoint (block_of (reserved_object r)) (block_of n) → StandsFree as_made base start b r
    → StandsFree as_made base start (with_made n b) r
free_next as_made base start b n r apart free =
    record { may = may_be_next b n (reserved_object r) apart free.may; beside = free.beside; before = free.before; place = free.place; some = free.some; most = free.most; is_it = free.is_it }

module _ (as_made : NewObject → Object) (base start : PoolView) (tx : Transaction) (b : CallBlocks) (f : Follows as_made base tx b) (r : Reservation) (free : StandsFree as_made base start b r) where
  abbrev n : NewObject
  n = reserved_object r

  -- no object of the transaction's pool is in its way
  beside_now : (off : ℕ) (object : Object) → object_at tx.pool.objects off ≡ Some object → IsBeside n.size n.off (off, object)
  beside_now off object is = ⊎_elim
      (λ (made : list_any (is_at off) b.made ≡ true).
      let t = Any-from_list_any (is_at off) b.made made in
      let there : Contains b.made t.1 = (t.0, t.2, t.3) in
      let at : t.1.off ≡ off = eqb-true t.1.off off t.4 in
      let same : Some (as_made t.1) ≡ Some object = sym (f.new t.1 there) ∙ ap (object_at tx.pool.objects) at ∙ is in
      let is_object : as_made t.1 ≡ object = same_Some (as_made t.1) object same in
      beside_place n t.1 (off, object) (free.may.apart t.1 (Contains-append_left b.made b.dropped t.1 there))
      (λ j. (sym at j, (ap (λ (x : Object). length x.bytes) (sym is_object) ∙ f.long t.1 there) j)))
      (λ (not_made : list_any (is_at off) b.made ≡ false). ⊎_elim
      (λ (freed : is_among b.freed off ≡ true). absurd (let clash : None ≡ Some object = sym (f.gone off freed) ∙ is in cc))
      (λ (kept : is_among b.freed off ≡ false). free.beside off object (sym (f.others off not_made kept) ∙ is))
      (cases_Bool (is_among b.freed off)))
      (cases_Bool (list_any (is_at off) b.made))

  beside_all : All (IsBeside n.size n.off) tx.pool.objects
  beside_all k d inside =
      let e : ℕ × Object = get_or tx.pool.objects k d in
      beside_now e.0 e.1 (stands_there tx.pool.objects k d f.rising inside)

  beside_dropped : All (IsBeside n.size n.off) tx.dropped
  beside_dropped = all_beside n tx.dropped b.dropped f.tracks.dropped (λ m there. free.may.apart m (Contains-append_right b.made b.dropped m there))

  stands_free : tx.before ≡ start → tx.actions.reserved ≡ [] → IsNewPlace tx (length r.bytes) r.off
  stands_free before none = record {
    begins = two_same (λ (lanes zones : ℕ). CanHold lanes zones (class_of n.size) n.off) base.lanes tx.pool.lanes base.zones tx.pool.zones
        (ap (λ (p : PoolView). p.lanes) (sym f.fixed)) (ap (λ (p : PoolView). p.zones) (sym f.fixed)) free.place;
    apart = All-append (IsBeside n.size n.off) (tx.before.objects ++ tx.pool.objects) tx.dropped
        (All-append (IsBeside n.size n.off) tx.before.objects tx.pool.objects (subst (λ (p : PoolView). All (IsBeside n.size n.off) p.objects) (sym before) free.before) beside_all)
        beside_dropped;
    unreserved = subst (All (IsBesideReserved n.size n.off)) (sym none) (All-nil (IsBesideReserved n.size n.off));
  }

-- they come to be one after another
pub record StandInTurn (as_made : NewObject → Object) (base : PoolView) (rs : List Reservation) (tx : Transaction) (b : CallBlocks) : Type 0 where
  pub follows : Follows as_made base (all_made rs tx) (with_all_made rs b)
  pub stand : MayStand rs tx

-- the blocks of those that are reserved at two offsets are apart
abbrev pub LieApartInTurn : List Reservation → Type 0
LieApartInTurn rs = (r s : Reservation) → Contains rs r → Contains rs s → r.off ≢ s.off → AreDisjoint (block_of (reserved_object r)) (block_of (reserved_object s))

pub all_stand_in_turn : (as_made : NewObject → Object) (base start : PoolView) (rs : List Reservation) (tx : Transaction) (b : CallBlocks) → Follows as_made base tx b → tx.before ≡ start → tx.actions.reserved ≡ []
    → ((r : Reservation) → Contains rs r → StandsFree as_made base start b r) → AreOnceReserved rs → LieApartInTurn rs → StandInTurn as_made base rs tx b
all_stand_in_turn as_made base start [] tx b f before none free once apart = record { follows = f; stand = tt }
all_stand_in_turn as_made base start (r ∷ rs) tx b f before none free once apart =
    let here : StandsFree as_made base start b r = free r (first_member r rs) in
    let rest : StandInTurn as_made base rs (made_at r.off (object_reserved r) tx) (with_made (reserved_object r) b) =
    all_stand_in_turn as_made base start rs (made_at r.off (object_reserved r) tx) (with_made (reserved_object r) b)
    (made_follows as_made base tx b f r here.may (none_in_base as_made base start b r here) here.is_it) before none
    (λ s there. free_next as_made base start b (reserved_object r) s (apart s r (later_member r rs s there) (first_member r rs) (first_alone r rs once s there)) (free s (later_member r rs s there)))
    (tail_once r rs once) (λ s t there too. apart s t (later_member r rs s there) (later_member r rs t too)) in
    record { follows = rest.follows; stand = (here.some, here.most, stands_free as_made base start tx b f r here before none, rest.stand) }

-- and what the call made lies apart then
pub all_lie_apart : (rs : List Reservation) (b : CallBlocks) → LiesApartIn b → ((r : Reservation) → Contains rs r → MayBeMade b (reserved_object r)) → AreOnceReserved rs → LieApartInTurn rs → LiesApartIn (with_all_made rs b)
all_lie_apart [] b f may once apart = f
all_lie_apart (r ∷ rs) b f may once apart =
    all_lie_apart rs (with_made (reserved_object r) b) (more_apart b f (reserved_object r) (may r (first_member r rs)))
    (λ s there. may_be_next b (reserved_object r) (reserved_object s) (apart s r (later_member r rs s there) (first_member r rs) (first_alone r rs once s there)) (may s (later_member r rs s there)))
    (tail_once r rs once) (λ s t there too. apart s t (later_member r rs s there) (later_member r rs t too))

-- ---- what else the transaction has stays

-- a transaction with the pool and the lists of blocks of another
abbrev pub with_blocks_of : Transaction → Transaction → Transaction
with_blocks_of other tx = record tx { pool = other.pool; made = other.made; dropped = other.dropped; freed = other.freed }

released_alone : (off : ℕ) (tx : Transaction) → released off tx ≡ with_blocks_of (released off tx) tx
released_alone off tx = by (is_among tx.made off)
    (record tx { pool = pool_without off tx.pool; made = filter (λ other. not (eqb other off)) tx.made; dropped = tx.dropped ++ filter (λ entry. eqb entry.0 off) tx.pool.objects })
    (record tx { pool = pool_without off tx.pool; freed = tx.freed ++ off ∷ [] }) refl refl where
      by : (made : Bool) (t u : Transaction) → t ≡ with_blocks_of t tx → u ≡ with_blocks_of u tx → cond made t u ≡ with_blocks_of (cond made t u) tx
      by true t u same also = same
      by false t u same also = also

all_released_alone : (ids : List Oid) (tx : Transaction) → all_released ids tx ≡ with_blocks_of (all_released ids tx) tx
all_released_alone [] tx = refl
all_released_alone (id ∷ ids) tx =
    all_released_alone ids (released id.off tx)
    ∙ ap (with_blocks_of (all_released ids (released id.off tx))) (released_alone id.off tx)

all_made_alone : (rs : List Reservation) (tx : Transaction) → all_made rs tx ≡ with_blocks_of (all_made rs tx) tx
all_made_alone [] tx = refl
all_made_alone (r ∷ rs) tx = all_made_alone rs (made_at r.off (object_reserved r) tx)

pub blocks_alone : (ids : List Oid) (rs : List Reservation) (tx : Transaction) → all_made rs (all_released ids tx) ≡ with_blocks_of (all_made rs (all_released ids tx)) tx
blocks_alone ids rs tx =
    all_made_alone rs (all_released ids tx)
    ∙ ap (with_blocks_of (all_made rs (all_released ids tx))) (all_released_alone ids tx)

-- ---- how many it lists

-- the transaction lists what the call made and has, and what it freed
pub record ListsAlike (tx : Transaction) (b : CallBlocks) : Type 0 where
  pub made : tx.made ≡ map (λ (n : NewObject). n.off) b.made
  pub freed : tx.freed ≡ b.freed

alike_released : (off : ℕ) (tx : Transaction) (b : CallBlocks) → ListsAlike tx b → ListsAlike (released off tx) (with_freed off b)
alike_released off tx b alike =
    by (is_among tx.made off) (list_any (is_at off) b.made) (ap (λ (xs : List ℕ). is_among xs off) alike.made ∙ any_map (λ other. eqb other off) (λ (n : NewObject). n.off) b.made) where
      by : (m n : Bool) → m ≡ n → ListsAlike
          (cond m (record tx { pool = pool_without off tx.pool; made = filter (λ other. not (eqb other off)) tx.made; dropped = tx.dropped ++ filter (λ entry. eqb entry.0 off) tx.pool.objects }) (record tx { pool = pool_without off tx.pool; freed = tx.freed ++ off ∷ [] }))
          (cond n (record b { made = filter (λ k. not (is_at off k)) b.made; dropped = b.dropped ++ filter (is_at off) b.made }) (record b { freed = b.freed ++ off ∷ [] }))
      by true true same = record { made = ap (filter (λ other. not (eqb other off))) alike.made ∙ offsets_without off b.made; freed = alike.freed }
      by false false same = record { made = alike.made; freed = ap (λ (offs : List ℕ). offs ++ off ∷ []) alike.freed }
      by true false same = absurd (false≢true (sym same))
      by false true same = absurd (false≢true same)

all_alike_released : (ids : List Oid) (tx : Transaction) (b : CallBlocks) → ListsAlike tx b → ListsAlike (all_released ids tx) (with_all_freed ids b)
all_alike_released [] tx b alike = alike
all_alike_released (id ∷ ids) tx b alike = all_alike_released ids (released id.off tx) (with_freed id.off b) (alike_released id.off tx b alike)

all_alike_made : (rs : List Reservation) (tx : Transaction) (b : CallBlocks) → ListsAlike tx b → ListsAlike (all_made rs tx) (with_all_made rs b)
all_alike_made [] tx b alike = alike
all_alike_made (r ∷ rs) tx b alike = all_alike_made rs (made_at r.off (object_reserved r) tx) (with_made (reserved_object r) b) (record {
  made = ap (λ (offs : List ℕ). offs ++ r.off ∷ []) alike.made ∙ sym (map-append (λ (m : NewObject). m.off) b.made (reserved_object r ∷ []));
  freed = alike.freed;
})

pub blocks_alike : (ids : List Oid) (rs : List Reservation) (tx : Transaction) (b : CallBlocks) → ListsAlike tx b → ListsAlike (all_made rs (all_released ids tx)) (with_all_made rs (with_all_freed ids b))
blocks_alike ids rs tx b alike = all_alike_made rs (all_released ids tx) (with_all_freed ids b) (all_alike_released ids tx b alike)

-- ---- what is freed and what is made behind them

-- nothing is freed at an offset at which none of these is
freed_beside_one : (off : ℕ) (b : CallBlocks) (other : ℕ) → other ≢ off → is_among (with_freed off b).freed other ≡ is_among b.freed other
freed_beside_one off b other differ = by (list_any (is_at off) b.made) where
  by : (made : Bool) → is_among (cond made (record b { made = filter (λ k. not (is_at off k)) b.made; dropped = b.dropped ++ filter (is_at off) b.made }) (record b { freed = b.freed ++ off ∷ [] })).freed other ≡ is_among b.freed other
  by true = refl
  by false = among_else b.freed off other differ

pub freed_beside : (ids : List Oid) (b : CallBlocks) (other : ℕ) → ((id : Oid) → Contains ids id → other ≢ id.off) → is_among (with_all_freed ids b).freed other ≡ is_among b.freed other
freed_beside [] b other differ = refl
freed_beside (id ∷ ids) b other differ =
    freed_beside ids (with_freed id.off b) other (λ x there. differ x (later_member id ids x there)) ∙ freed_beside_one id.off b other (differ id (first_member id ids))

-- what it has behind frees it had before
had_before_one : (off : ℕ) (b : CallBlocks) (n : NewObject) → Contains (with_freed off b).made n → Contains b.made n
had_before_one off b n = by (list_any (is_at off) b.made) where
  by : (made : Bool) → Contains (cond made (record b { made = filter (λ k. not (is_at off k)) b.made; dropped = b.dropped ++ filter (is_at off) b.made }) (record b { freed = b.freed ++ off ∷ [] })).made n → Contains b.made n
  by true there = (member_kept (λ k. not (is_at off k)) b.made n there).0
  by false there = there

had_before_frees : (ids : List Oid) (b : CallBlocks) (n : NewObject) → Contains (with_all_freed ids b).made n → Contains b.made n
had_before_frees [] b n there = there
had_before_frees (id ∷ ids) b n there = had_before_one id.off b n (had_before_frees ids (with_freed id.off b) n there)

-- or it was reserved
pub record IsOfReserved (rs : List Reservation) (n : NewObject) : Type 0 where
  pub one : Reservation
  pub is_one : Contains rs one
  pub is_it : reserved_object one ≡ n

later_of : (r : Reservation) (rs : List Reservation) (n : NewObject) → IsOfReserved rs n → IsOfReserved (r ∷ rs) n
later_of r rs n is = record { one = is.one; is_one = later_member r rs is.one is.is_one; is_it = is.is_it }

had_before_made : (rs : List Reservation) (b : CallBlocks) (n : NewObject) → Contains (with_all_made rs b).made n → Contains b.made n ⊎ IsOfReserved rs n
had_before_made [] b n there = inl there
had_before_made (r ∷ rs) b n there = ⊎_elim
    (λ (before : Contains (b.made ++ reserved_object r ∷ []) n). ⊎_elim
    (λ (was : Contains b.made n). inl was)
    (λ (here : reserved_object r ≡ n). inr (record { one = r; is_one = first_member r rs; is_it = here }))
    (Contains-push_cases b.made (reserved_object r) n before))
    (λ (later : IsOfReserved rs n). inr (later_of r rs n later))
    (had_before_made rs (with_made (reserved_object r) b) n there)

pub had_or_reserved : (ids : List Oid) (rs : List Reservation) (b : CallBlocks) (n : NewObject) → Contains (with_all_made rs (with_all_freed ids b)).made n → Contains b.made n ⊎ IsOfReserved rs n
had_or_reserved ids rs b n there = ⊎_elim
    (λ (before : Contains (with_all_freed ids b).made n). inl (had_before_frees ids b n before))
    (λ (reserved : IsOfReserved rs n). inr reserved)
    (had_before_made rs (with_all_freed ids b) n there)
