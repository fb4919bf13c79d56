-- A transaction of the plain model lists each object that it found and freed once, and what it publishes, makes and frees leaves room in its log for the entry
-- that ends the generation: each operation that is not refused keeps that. So it is of what it has pending: an object is to be freed once, or the publish is refused.
use Rattle.std.proofs.Common.{◌≡◌, ℕ, ◌+◌, ◌≤◌, ◌&&◌, ◌||◌, ◌⊎◌, ⊎_elim, inl, inr, Bool, true, false, not, cond, eqb, leb, ltb, List, [], ◌∷◌, ◌++◌, length, map, Option, None, Some, refl, sym, ◌∙◌, ap, subst, arith}
use Rattle.std.specs.Prelude.{nat_eq}
use Rattle.std.specs.List.{AllByRecursion, IsDistinct, filter, find, list_any}
use Rattle.std.proofs.lemmas.Bool.{ltb-false, or_from, or_parts}
use Rattle.std.proofs.lemmas.List.{length-append, map-append}
use Rattle.std.proofs.lemmas.List.Filters.{length-filter_both}
use Rattle.std.proofs.lemmas.List.Folds.{list_any-append}
use Rattle.pm_objects.specs.declared.calls.Operation.{Operation}
use Rattle.pm_objects.specs.declared.calls.Operation.TheVariants.{Abort, AddRange, Alloc, Cancel, Commit, DeferFree, Free, Publish, Reserve, SetValue, WriteReserved}
use Rattle.pm_objects.specs.declared.history.TxErr.{TxErr}
use Rattle.pm_objects.specs.declared.history.TxErr.TheVariants as error
use Rattle.pm_objects.specs.declared.history.Value.{Value}
use Rattle.pm_objects.specs.declared.history.Value.TheVariants.{Offset, Refused}
use Rattle.solo_view.specs.View.{Numbered, Told as Telling}
use Rattle.solo_crash.specs.Pending.{pending_behind, pending_from, pending_told}
use Rattle.pm_objects.specs.declared.ids.Oid.{Oid}
use Rattle.pm_objects.specs.declared.pool.PoolView.{PoolView}
use Rattle.pm_objects.specs.declared.refusal.Refusal.{Refusal}
use Rattle.solo_model.specs.Actions.{Action, Pending, Reservation, is_to_be_freed, max_entries, object_of, object_reserved, only_sets, with_actions, with_free}
use Rattle.solo_model.specs.Answers.{Told, Answers, IsValue, after, after_reply, error_for}
use Rattle.solo_model.specs.Bytes.{covered_words, is_among, new_words, records_of}
use Rattle.solo_model.specs.Checks.{Seen, checks, first_refusal, names_gone, objects_named, passes_actions}
use Rattle.solo_model.specs.NewObjects.{pool_without}
use Rattle.solo_model.specs.Transaction.{Transaction, aborted, all_made, all_released, committed, ended_inner, entries_of, given_over, is_gone, is_new, made_at, published, released, resting}
use Rattle.solo_model.proofs.Asked.{NonePasses, none_passes, unmapped}
use Rattle.solo_model.proofs.Running.{after_cases}
use Rattle.solo_crash.specs.OpenCall.{GoesOn, RunsTo}
use Rattle.solo_crash.proofs.CallBlocks.{any_map}

-- the places of objects, in their order
abbrev places_of : List Oid → List ℕ
places_of ids = map (λ (id : Oid). id.off) ids

-- each object that is to be freed is named once, where nothing was asked for late
abbrev pub AreNamedOnce : Pending → Type 0
AreNamedOnce p = p.late ≡ false → IsDistinct nat_eq (places_of p.frees)

-- it lists what it freed once, and what is to be freed, and has room
pub record HasRoomLeft (tx : Transaction) : Type 0 where
  pub once : IsDistinct nat_eq tx.freed
  pub named : AreNamedOnce tx.actions
  pub room : entries_of tx + 1 ≤ max_entries

-- ---- what an operation passed that is not refused

passed_gone : (seen : Seen) (tx : Transaction) (op : Operation) → first_refusal seen tx op ≡ None → names_gone tx op ≡ false
unfolding first_refusal NonePasses
passed_gone seen tx op none =
    let found : Option (Refusal × Bool) = find (λ (check : Refusal × Bool). check.1) (checks seen tx op) in
    let passed : NonePasses (λ (check : Refusal × Bool). check.1) (checks seen tx op) =
    none_passes (λ (check : Refusal × Bool). check.1) (checks seen tx op) (unmapped (λ (check : Refusal × Bool). check.0) found none) in
    passed.1.1.1.1.1.1.1.1.1.1.1.1.0

passed_room : (seen : Seen) (tx : Transaction) (op : Operation) → first_refusal seen tx op ≡ None → passes_actions tx op ≡ false
unfolding first_refusal NonePasses
passed_room seen tx op none =
    let found : Option (Refusal × Bool) = find (λ (check : Refusal × Bool). check.1) (checks seen tx op) in
    let passed : NonePasses (λ (check : Refusal × Bool). check.1) (checks seen tx op) =
    none_passes (λ (check : Refusal × Bool). check.1) (checks seen tx op) (unmapped (λ (check : Refusal × Bool). check.0) found none) in
    passed.1.1.1.1.1.1.1.1.1.1.1.1.1.1.1.1.1.1.0

-- ---- one more that is not among them

apart_more : (off x : ℕ) (xs : List ℕ) → AllByRecursion (λ y. nat_eq off y ≡ false) xs → eqb off x ≡ false → AllByRecursion (λ y. nat_eq off y ≡ false) (xs ++ x ∷ [])
apart_more off x [] apart other = (other, tt)
apart_more off x (y ∷ xs) apart other = (apart.0, apart_more off x xs apart.1 other)

once_more : (xs : List ℕ) (x : ℕ) → IsDistinct nat_eq xs → is_among xs x ≡ false → IsDistinct nat_eq (xs ++ x ∷ [])
unfolding IsDistinct
once_more [] x once none = (tt, tt)
once_more (y ∷ xs) x once none = let parts = or_parts (eqb y x) (is_among xs x) none in (apart_more y x xs once.0 parts.0, once_more xs x once.1 parts.1)

none_more : (freed : List ℕ) (off : ℕ) (offs : List ℕ) → AllByRecursion (λ y. nat_eq off y ≡ false) offs → list_any (is_among freed) offs ≡ false → list_any (is_among (freed ++ off ∷ [])) offs ≡ false
none_more freed off [] apart none = refl
none_more freed off (x ∷ offs) apart none =
    let parts = or_parts (is_among freed x) (list_any (is_among freed) offs) none in
    or_from (is_among (freed ++ off ∷ []) x) (list_any (is_among (freed ++ off ∷ [])) offs)
    (list_any-append (λ y. eqb y x) freed (off ∷ []) ∙ or_from (is_among freed x) (eqb off x || false) parts.0 (or_from (eqb off x) false apart.0 refl))
    (none_more freed off offs apart.1 parts.1)

-- ---- objects that are freed one after another, and made

-- a free leaves what is pending, and lists the object or drops it
released_pending : (off : ℕ) (tx : Transaction) → (released off tx).actions ≡ tx.actions
released_pending off tx = at (is_among tx.made off) where
  at : (made : Bool)
      → (cond made (record tx { pool = pool_without off tx.pool; made = filter (λ other. not (eqb other off)) tx.made; dropped = tx.dropped ++ filter (λ entry. eqb entry.0 off) tx.pool.objects })
      (record tx { pool = pool_without off tx.pool; freed = tx.freed ++ off ∷ [] })).actions
      ≡ tx.actions
  at true = refl
  at false = refl

released_freed : (off : ℕ) (tx : Transaction) → ((released off tx).freed ≡ tx.freed) ⊎ ((released off tx).freed ≡ tx.freed ++ off ∷ [])
released_freed off tx = at (is_among tx.made off) where
  at : (made : Bool)
      → ((cond made (record tx { pool = pool_without off tx.pool; made = filter (λ other. not (eqb other off)) tx.made; dropped = tx.dropped ++ filter (λ entry. eqb entry.0 off) tx.pool.objects })
      (record tx { pool = pool_without off tx.pool; freed = tx.freed ++ off ∷ [] })).freed
      ≡ tx.freed)
      ⊎ ((cond made (record tx { pool = pool_without off tx.pool; made = filter (λ other. not (eqb other off)) tx.made; dropped = tx.dropped ++ filter (λ entry. eqb entry.0 off) tx.pool.objects })
      (record tx { pool = pool_without off tx.pool; freed = tx.freed ++ off ∷ [] })).freed
      ≡ tx.freed ++ off ∷ [])
  at true = inl refl
  at false = inr refl

all_released_pending : (ids : List Oid) (tx : Transaction) → (all_released ids tx).actions ≡ tx.actions
all_released_pending [] tx = refl
all_released_pending (id ∷ ids) tx = all_released_pending ids (released id.off tx) ∙ released_pending id.off tx

-- objects that are named once, and were not freed before, are listed once
all_released_once : (ids : List Oid) (tx : Transaction) → IsDistinct nat_eq tx.freed → IsDistinct nat_eq (places_of ids) → list_any (is_among tx.freed) (places_of ids) ≡ false
    → IsDistinct nat_eq (all_released ids tx).freed
unfolding IsDistinct
all_released_once [] tx once named none = once
all_released_once (id ∷ ids) tx once named none =
    let next : Transaction = released id.off tx in
    let parts = or_parts (is_among tx.freed id.off) (list_any (is_among tx.freed) (places_of ids)) none in
    ⊎_elim
    (λ (same : next.freed ≡ tx.freed).
    all_released_once ids next (subst (IsDistinct nat_eq) (sym same) once) named.1 (ap (λ (freed : List ℕ). list_any (is_among freed) (places_of ids)) same ∙ parts.1))
    (λ (more : next.freed ≡ tx.freed ++ id.off ∷ []).
    all_released_once ids next (subst (IsDistinct nat_eq) (sym more) (once_more tx.freed id.off once parts.0)) named.1
    (ap (λ (freed : List ℕ). list_any (is_among freed) (places_of ids)) more ∙ none_more tx.freed id.off (places_of ids) named.0 parts.1))
    (released_freed id.off tx)

all_made_keeps : (rs : List Reservation) (tx : Transaction) → ((all_made rs tx).freed ≡ tx.freed) × ((all_made rs tx).actions ≡ tx.actions)
all_made_keeps [] tx = (refl, refl)
all_made_keeps (r ∷ rs) tx = all_made_keeps rs (made_at r.off (object_reserved r) tx)

-- none that is gone was freed
none_freed : (tx : Transaction) (offs : List ℕ) → list_any (is_gone tx) offs ≡ false → list_any (is_among tx.freed) offs ≡ false
none_freed tx [] none = refl
none_freed tx (off ∷ offs) none =
    let parts = or_parts (is_gone tx off) (list_any (is_gone tx) offs) none in
    or_from (is_among tx.freed off) (list_any (is_among tx.freed) offs) (or_parts (is_among tx.freed off) _ parts.0).0 (none_freed tx offs parts.1)

-- ---- what each leaves

-- of set-values none is to be freed
pub sets_named_once : (actions : List Action) → AreNamedOnce (only_sets actions)
unfolding IsDistinct
sets_named_once actions late = tt

freed_named : (p : Pending) (id : Oid) → AreNamedOnce p → AreNamedOnce (with_free id p)
freed_named p id named late =
    let parts = or_parts (is_to_be_freed p id.off) p.late late in
    subst (IsDistinct nat_eq) (sym (map-append (λ (other : Oid). other.off) p.frees (id ∷ [])))
    (once_more (places_of p.frees) id.off (named parts.1) (any_map (λ off. eqb off id.off) (λ (other : Oid). other.off) p.frees ∙ parts.0))

-- so it is of what a lane has pending behind its calls
named_behind : (op : Operation) (reply : Option Value) (p : Pending) → AreNamedOnce p → AreNamedOnce (pending_behind op reply p)
named_behind op (Some (Refused r)) p named = named
named_behind (Reserve size kind) (Some (Offset off)) p named = named
named_behind (WriteReserved id off bytes) reply p named = named
named_behind (DeferFree id) reply p named = freed_named p id named
named_behind (SetValue id off value) reply p named = λ late. named (or_parts (is_to_be_freed p id.off) p.late late).1
named_behind Publish reply p named = sets_named_once []
named_behind Cancel reply p named = sets_named_once []
named_behind op reply p named = named

pub named_told : (p : Pending) (told : List Telling) → AreNamedOnce p → AreNamedOnce (pending_told p told)
unfolding pending_told
named_told p [] named = named
named_told p (t ∷ told) named = named_told (pending_behind t.operation t.reply p) told (named_behind t.operation t.reply p named)

pub named_before : (p : Pending) (calls : List Numbered) → AreNamedOnce p → AreNamedOnce (pending_from p calls)
unfolding pending_from
named_before p [] named = named
named_before p (e ∷ calls) named = named_before (pending_told p e.call) calls (named_told p e.call named)

rest_room : (pool : PoolView) (actions : Pending) → AreNamedOnce actions → HasRoomLeft (resting pool actions)
unfolding IsDistinct
rest_room pool actions named = record { once = tt; named = named; room = omega arith }

aborted_room : (tx : Transaction) (e : TxErr) → AreNamedOnce tx.actions → HasRoomLeft (aborted e tx)
unfolding IsDistinct
aborted_room tx e named = record { once = tt; named = named; room = omega arith }

module _ (tx : Transaction) (has : HasRoomLeft tx) where
  -- one that has the same lists
  listed_room : (other : Transaction) → other.freed ≡ tx.freed → other.moved ≡ tx.moved → length other.made ≤ length tx.made → AreNamedOnce other.actions → HasRoomLeft other
  listed_room other freed moved made named =
      let room = has.room in let m = ap (λ (xs : List Action). length xs) moved in let f = ap (λ (xs : List ℕ). length xs) freed in
      record { once = subst (IsDistinct nat_eq) (sym freed) has.once; named = named; room = omega (arith, room, m, f, made) }

  fewer : (p : ℕ → Bool) (xs : List ℕ) → length (filter p xs) ≤ length xs
  fewer p xs = let both = length-filter_both p (λ x. not (p x)) (λ x. refl) xs in omega (arith, both)

  freed_room : (seen : Seen) (id : _) → first_refusal seen tx (Free id) ≡ None → HasRoomLeft (after_reply (Free id) None tx)
  freed_room seen id none = at (is_among tx.made id.off) refl where
    at : (made : Bool) → is_among tx.made id.off ≡ made
        → HasRoomLeft (cond made
        (record tx { pool = pool_without id.off tx.pool; made = filter (λ other. not (eqb other id.off)) tx.made; dropped = tx.dropped ++ filter (λ entry. eqb entry.0 id.off) tx.pool.objects })
        (record tx { pool = pool_without id.off tx.pool; freed = tx.freed ++ id.off ∷ [] }))
    at true is = listed_room _ refl refl (fewer (λ other. not (eqb other id.off)) tx.made) has.named
    at false is =
        let gone = (or_parts (is_gone tx id.off) false (passed_gone seen tx (Free id) none)).0 in
        let full : (not (is_among tx.made id.off) && ltb max_entries (entries_of tx + 2)) ≡ false = passed_room seen tx (Free id) none in
        let room : entries_of tx + 2 ≤ max_entries = ltb-false max_entries (entries_of tx + 2) (sym (ap (λ (b : Bool). not b && ltb max_entries (entries_of tx + 2)) is) ∙ full) in
        let more = length-append tx.freed (id.off ∷ []) in
        record { once = once_more tx.freed id.off has.once (or_parts (is_among tx.freed id.off) _ gone).0; named = has.named; room = omega (arith, room, more) }

  -- what is pending is published: the objects that are to be freed were not, and are named once
  published_room : (seen : Seen) → first_refusal seen tx Publish ≡ None → HasRoomLeft (published tx)
  published_room seen none =
      let gone = or_parts tx.actions.late (list_any (is_gone tx) (objects_named tx Publish)) (passed_gone seen tx Publish none) in
      let frees : List ℕ = places_of tx.actions.frees in
      let sets : List ℕ = map (λ (a : Action). (object_of a).off) tx.actions.sets in
      let kept = none_freed tx frees (or_parts (list_any (is_gone tx) frees) (list_any (is_gone tx) sets) (sym (list_any-append (is_gone tx) frees sets) ∙ gone.1)).0 in
      let released_all : Transaction = all_released tx.actions.frees (given_over tx) in
      let made = all_made_keeps tx.actions.reserved released_all in
      record {
        once = subst (IsDistinct nat_eq) (sym made.0) (all_released_once tx.actions.frees (given_over tx) has.once (has.named gone.0) kept);
        named = subst AreNamedOnce (sym (made.1 ∙ all_released_pending tx.actions.frees (given_over tx))) (sets_named_once []);
        room = ltb-false max_entries (entries_of (published tx) + 1) (passed_room seen tx Publish none);
      }

  done_room : (op : Operation) (reply : Option Value) (seen : Seen) → first_refusal seen tx op ≡ None → IsValue tx op reply → HasRoomLeft (after_reply op reply tx)
  done_room (Alloc size kind) reply seen none value =
      let room = ltb-false max_entries (entries_of tx + 2) (passed_room seen tx (Alloc size kind) none) in
      let more = length-append tx.made (value.0 ∷ []) in
      subst (λ (r : Option Value). HasRoomLeft (after_reply (Alloc size kind) r tx)) (sym value.2) (record { once = has.once; named = has.named; room = omega (arith, room, more) })
  done_room (Free id) reply seen none value = subst (λ (r : Option Value). HasRoomLeft (after_reply (Free id) r tx)) (sym value) (freed_room seen id none)
  done_room Publish reply seen none value = subst (λ (r : Option Value). HasRoomLeft (after_reply Publish r tx)) (sym value) (published_room seen none)
  done_room (Reserve size kind) reply seen none value =
      subst (λ (r : Option Value). HasRoomLeft (after_reply (Reserve size kind) r tx)) (sym value.2) (listed_room _ refl refl (omega arith) has.named)
  done_room (WriteReserved id off bytes) reply seen none value =
      subst (λ (r : Option Value). HasRoomLeft (after_reply (WriteReserved id off bytes) r tx)) (sym value) (listed_room _ refl refl (omega arith) has.named)
  done_room (DeferFree id) reply seen none value =
      subst (λ (r : Option Value). HasRoomLeft (after_reply (DeferFree id) r tx)) (sym value) (listed_room _ refl refl (omega arith) (freed_named tx.actions id has.named))
  done_room (SetValue id off to) reply seen none value =
      subst (λ (r : Option Value). HasRoomLeft (after_reply (SetValue id off to) r tx)) (sym value)
      (listed_room _ refl refl (omega arith) (λ late. has.named (or_parts (is_to_be_freed tx.actions id.off) tx.actions.late late).1))
  done_room Cancel reply seen none value = subst (λ (r : Option Value). HasRoomLeft (after_reply Cancel r tx)) (sym value) (listed_room _ refl refl (omega arith) (sets_named_once []))
  done_room Commit reply seen none value = subst (λ (r : Option Value). HasRoomLeft (after_reply Commit r tx)) (sym value) (at (leb tx.level 1)) where
    at : (last : Bool) → HasRoomLeft (cond last (resting (with_actions tx.moved tx.pool) tx.actions) (ended_inner (committed tx)))
    at true = rest_room (with_actions tx.moved tx.pool) tx.actions has.named
    at false = listed_room _ refl refl (omega arith) has.named
  done_room (Abort errnum) reply seen none value = subst (λ (r : Option Value). HasRoomLeft (after_reply (Abort errnum) r tx)) (sym value) (aborted_room tx (error_for errnum) has.named)
  done_room (AddRange id off len) reply seen none value = subst (λ (r : Option Value). HasRoomLeft (after_reply (AddRange id off len) r tx)) (sym value) (at (is_new tx id.off)) where
    words : List ℕ
    words = new_words tx.recorded (covered_words (id.off + off) len)

    at : (new : Bool) → HasRoomLeft (cond new tx (record tx { recorded = tx.recorded ++ words; records = tx.records + length (records_of words) }))
    at true = has
    at false = listed_room _ refl refl (omega arith) has.named
  done_room op reply seen none value = subst (λ (r : Option Value). HasRoomLeft (after_reply op r tx)) (sym value) (listed_room _ refl refl (omega arith) has.named)

after_room : (t : Told) (tx : Transaction) → Answers tx t.operation t.reply → HasRoomLeft tx → HasRoomLeft (after t tx)
after_room t tx answers has = after_cases HasRoomLeft t tx answers has (λ seen none done. done_room tx has t.operation t.reply seen none done.value) (λ r. aborted_room tx (error.Refused r) has.named)

goes_room : (told : List Told) (tx now : Transaction) → GoesOn tx told now → HasRoomLeft tx → HasRoomLeft now
unfolding GoesOn
goes_room [] tx now goes has = subst HasRoomLeft (sym goes) has
goes_room (t ∷ told) tx now goes has = goes_room told (after t tx) now goes.2 (after_room t tx goes.1 has)

-- so has one that operations led to, from where none was open
pub runs_room : (told : List Told) (pool : PoolView) (actions : Pending) (now : Transaction) → AreNamedOnce actions → RunsTo pool actions told now → HasRoomLeft now
unfolding RunsTo
runs_room [] pool actions now named runs = subst HasRoomLeft (sym runs) (rest_room pool actions named)
runs_room (t ∷ told) pool actions now named runs = goes_room told (after t (resting pool actions)) now runs.1 (after_room t (resting pool actions) runs.0 (rest_room pool actions named))
