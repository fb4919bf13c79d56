-- What is published is listed one after another: what the lists have so far is what the plain model's have, and there is room for one more.
use Rattle.std.proofs.Common.{◌≡◌, ◌≢◌, ⊎_elim, ℕ, zero, suc, ◌+◌, ◌<◌, ◌≤◌, Bool, true, false, not, cond, All, Contains, List, [], ◌∷◌, ◌++◌, get_or, take, length, map, refl, sym, ap, ◌∙◌, subst, arith}
use Rattle.std.specs.List.{filter, list_any}
use Rattle.std.proofs.lemmas.Bool.{cases_Bool, cond-false, cond-true}
use Rattle.std.proofs.lemmas.List.{get_or-map, length-append, length-map}
use Rattle.std.proofs.lemmas.List.Elements.{All-append, All-cons, All-nil}
use Rattle.pm_image.proofs.Members.{first_member, later_member, member_cases, no_member}
use Rattle.pm_objects.specs.declared.ids.Oid.{Oid}
use Rattle.solo_model.specs.Actions.{Reservation}
use Rattle.solo_crash.specs.CallBlocks.{CallBlocks, NewObject, is_at, reserved_object, with_all_freed, with_all_made, with_freed, with_made}
use Rattle.solo_made.specs.declared.objects.Freed.{Freed}
use Rattle.solo_made.specs.Made.{BlockLists, ListsBlocks, begins_at, new_of}
use Rattle.solo_made.proofs.CallLists.{made_is}
use Rattle.solo_pending.specs.AllPending.{reserved_as}
use Rattle.solo_pending.specs.declared.pending.Reserved.{Reserved}
use Rattle.solo_world.specs.declared.lane.HeldLock.{HeldLock}
use Rattle.solo_transaction.proofs.FreedInTurn.{AreNamedOnce, first_alone, freed_grows, made_before}
use Rattle.solo_transaction.specs.AtWork.{IsHeldFreed}
use Rattle.solo_transaction.specs.PublishedLists.{CanListFreed, IsUnderLockOf, made_of}

-- an element of a list is a member
at_index : {X : Type 0} (xs : List X) (i : ℕ) (d : X) → i < length xs → Contains xs (get_or xs i d)
at_index [] i d low = absurd (omega (arith, low))
at_index (x ∷ xs) zero d low = first_member x xs
at_index (x ∷ xs) (suc i) d low = later_member x xs (get_or xs i d) (at_index xs i d (omega (arith, low)))

-- ---- freed

freed_next : (ids : List Oid) (i : ℕ) (d : Oid) (call : CallBlocks) → i < length ids → with_all_freed (take (suc i) ids) call ≡ with_freed (get_or ids i d).off (with_all_freed (take i ids) call)
freed_next [] i d call low = absurd (omega (arith, low))
freed_next (id ∷ ids) zero d call low = refl
freed_next (id ∷ ids) (suc i) d call low = freed_next ids i d (with_freed id.off call) (omega (arith, low))

-- one more is freed behind the first so many
pub freed_further : (ids : List Oid) (i : ℕ) (d : Oid) (call : CallBlocks) → i < length ids → with_all_freed (take (i + 1) ids) call ≡ with_freed (get_or ids i d).off (with_all_freed (take i ids) call)
freed_further ids i d call low = ap (λ (n : ℕ). with_all_freed (take n ids) call) (let e : i + 1 ≡ suc i = omega arith in e) ∙ freed_next ids i d call low

one_more : (off : ℕ) (call : CallBlocks) → list_any (is_at off) call.made ≡ false → length (with_freed off call).freed ≡ length call.freed + 1
one_more off call none =
    ap (λ (b : CallBlocks). length b.freed) (cond-false (list_any (is_at off) call.made) (record call { made = filter (λ (n : NewObject). not (is_at off n)) call.made; dropped = call.dropped ++ filter (is_at off) call.made }) (record call { freed = call.freed ++ off ∷ [] }) none)
    ∙ length-append call.freed (off ∷ [])

-- where it was not made, all of them are more
room_next : (ids : List Oid) (i : ℕ) (d : Oid) (call : CallBlocks) → i < length ids → list_any (is_at (get_or ids i d).off) (with_all_freed (take i ids) call).made ≡ false
    → length (with_all_freed (take i ids) call).freed + 1 ≤ length (with_all_freed ids call).freed
room_next [] i d call low none = absurd (omega (arith, low))
room_next (id ∷ ids) zero d call low none = let one = one_more id.off call none in let rest = freed_grows ids (with_freed id.off call) in omega (arith, one, rest)
room_next (id ∷ ids) (suc i) d call low none = room_next ids i d (with_freed id.off call) (omega (arith, low)) none

-- none of those before is at its offset
apart_before : (ids : List Oid) (i : ℕ) (d : Oid) → i < length ids → AreNamedOnce ids → (x : Oid) → Contains (take i ids) x → (get_or ids i d).off ≢ x.off
apart_before [] i d low named x there = absurd (omega (arith, low))
apart_before (id ∷ ids) zero d low named x there = absurd (no_member x there)
apart_before (id ∷ ids) (suc i) d low named x there =
    let alone = first_alone id ids named in
    let inside : i < length ids = omega (arith, low) in
    ⊎_elim
    (λ (here : id ≡ x). λ same. alone.0 (get_or ids i d) (at_index ids i d inside) (ap (λ (y : Oid). y.off) here ∙ sym same))
    (λ (later : Contains (take i ids) x). apart_before ids i d inside alone.1 x later)
    (member_cases id (take i ids) x there)

module _ (locks : List HeldLock) (first now : BlockLists) (call : CallBlocks) (ids : List Oid) (can : CanListFreed locks first call ids) (i : ℕ) (d : Oid) (low : i < length ids) (lists : ListsBlocks now (with_all_freed (take i ids) call))
    (none : list_any (begins_at (get_or ids i d).off) now.made ≡ false) where
  unmade : list_any (is_at (get_or ids i d).off) (with_all_freed (take i ids) call).made ≡ false
  unmade = sym (made_is now (with_all_freed (take i ids) call) (get_or ids i d).off lists) ∙ none

  pub room_for_freed : length now.freed < 63
  room_for_freed =
      let more = room_next ids i d call low unmade in
      let few = can.few in
      let same = ap (λ (offs : List ℕ). length offs) lists.freed in let as_many = length-map now.freed (λ (f : Freed). f.off) in
      omega (arith, more, few, same, as_many)

  -- and what the call found lies under a lock
  pub locked_freed : IsUnderLockOf locks (get_or ids i d).off
  locked_freed = can.locked i d low (sym (made_before (take i ids) call (get_or ids i d).off (apart_before ids i d low can.once)) ∙ unmade)

-- what is listed as freed is held
pub held_further : (locks : List HeldLock) (made : Bool) (freed now : List Freed) (f : Freed) → All (IsHeldFreed locks) freed → (made ≡ false → IsHeldFreed locks f) → now ≡ cond made freed (freed ++ f ∷ []) → All (IsHeldFreed locks) now
held_further locks made freed now f held one are = ⊎_elim
    (λ (there : made ≡ true). subst (All (IsHeldFreed locks)) (sym (are ∙ cond-true made freed (freed ++ f ∷ []) there)) held)
    (λ (none : made ≡ false). subst (All (IsHeldFreed locks)) (sym (are ∙ cond-false made freed (freed ++ f ∷ []) none)) (All-append (IsHeldFreed locks) freed (f ∷ []) held (All-cons (IsHeldFreed locks) f [] (one none) (All-nil (IsHeldFreed locks)))))
    (cases_Bool made)

-- ---- made

abbrev pub no_reserved : Reserved
no_reserved = record { off = 0; kind = 0; size = 0 }

made_next : (rs : List Reservation) (i : ℕ) (d : Reservation) (call : CallBlocks) → i < length rs → with_all_made (take (suc i) rs) call ≡ with_made (reserved_object (get_or rs i d)) (with_all_made (take i rs) call)
made_next [] i d call low = absurd (omega (arith, low))
made_next (r ∷ rs) zero d call low = refl
made_next (r ∷ rs) (suc i) d call low = made_next rs i d (with_made (reserved_object r) call) (omega (arith, low))

-- one more is made behind the first so many
pub lists_further : (now next : BlockLists) (call : CallBlocks) (reserved : List Reserved) (rs : List Reservation) (i : ℕ) → reserved ≡ map reserved_as rs → i < length reserved
    → ((b : CallBlocks) → ListsBlocks now b → ListsBlocks next (with_made (new_of (made_of (get_or reserved i no_reserved))) b)) → ListsBlocks now (with_all_made (take i rs) call) → ListsBlocks next (with_all_made (take (i + 1) rs) call)
lists_further now next call reserved rs i are low adds lists =
    let d : Reservation = record { off = 0; kind = 0; bytes = [] } in
    let inside : i < length rs = (let many = ap (λ (xs : List Reserved). length xs) are in let same = length-map rs reserved_as in omega (arith, low, many, same)) in
    let same : get_or reserved i no_reserved ≡ reserved_as (get_or rs i d) = ap (λ (xs : List Reserved). get_or xs i no_reserved) are ∙ get_or-map reserved_as rs i d no_reserved inside in
    subst (ListsBlocks next)
    (sym (ap (λ (n : ℕ). with_all_made (take n rs) call) (let e : i + 1 ≡ suc i = omega arith in e) ∙ made_next rs i d call inside))
    (subst (λ (r : Reserved). ListsBlocks next (with_made (new_of (made_of r)) (with_all_made (take i rs) call))) same (adds (with_all_made (take i rs) call) lists))
