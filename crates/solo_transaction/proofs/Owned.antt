-- Which objects are a call's own: by its lists, and by the locks that it holds.
use Rattle.std.proofs.Common.{◌≡◌, ⊎_elim, ℕ, ◌+◌, ◌*◌, ◌≤◌, ◌&&◌, ◌||◌, Bool, true, false, not, eqb, List, [], ◌∷◌, Contains, length, map, Option, Some, None, refl, sym, ◌∙◌, ap, subst, arith}
use Rattle.std.specs.List.{All, find, list_any}
use Rattle.std.specs.Option.{is_some, option_map}
use Rattle.std.proofs.lemmas.Bool.{and_from, cases_Bool, cond-false, cond-true, eq-eqb, eqb-true, or_cases, or_from, or_left, or_parts, or_right}
use Rattle.std.proofs.lemmas.List.Elements.{All-contains, All-contains_itself, All-weaker}
use Rattle.std.proofs.lemmas.Option.{same_Some}
use Rattle.std.proofs.lemmas.List.Folds.{Any-from_list_any, list_any_at}
use Rattle.pm_image.proofs.Members.{first_member, later_member, member_made}
use Rattle.solo_crash.proofs.CallBlocks.{any_map}
use Rattle.solo_crash.proofs.Includes.{made_member}
use Rattle.solo_crash.specs.CallBlocks.{IsOldIn, NewObject, blocks_in, is_at, is_freed_in, is_gone_in, is_new_in}
use Rattle.solo_crash.specs.OpenCall.{lock_of, locks_of}
use Rattle.solo_crash.specs.Operations.{IsGone, IsLeft, IsMade, entries_so_far, has_at}
use Rattle.solo_made.proofs.CallLists.{freed_is}
use Rattle.solo_made.specs.Made.{BlockLists, new_of}
use Rattle.solo_made.specs.declared.objects.Made.{Made}
use Rattle.solo_crash.specs.Pending.{published_in}
use Rattle.solo_pending.specs.Pending.{entry_of}
use Rattle.pm_record.specs.declared.redo.Redo.{Redo}
use Rattle.std.proofs.lemmas.List.{length-map}
use Rattle.solo_tx.proofs.Objects.{is_found}
use Rattle.solo_made.specs.declared.objects.Freed.{Freed}
use Rattle.solo_model.specs.Transaction.{Lock as Locked, is_locked}
use Rattle.pm_objects.specs.declared.ids.Oid.{Oid}
use Rattle.solo_view.specs.View.{Lock, View}
use Rattle.solo_world.specs.Lanes.{lock_of as view_lock}
use Rattle.solo_world.specs.Opening.{Opening}
use Rattle.solo_world.specs.declared.lane.HeldLock.{HeldLock}
use Rattle.solo_world.specs.declared.lane.Lane.{Lane}
use Rattle.solo_transaction.specs.AtWork.{HasBlock, IsAtWorkWith, IsHeldFreed, IsUnderLock}
use Rattle.solo_transaction.specs.Freeing.{IsOwned}
use Rattle.solo_transaction.specs.declared.freeing.Owned.{Owned}
use Rattle.solo_transaction.specs.declared.freeing.Owned.TheVariants as owned

-- ---- the first element that passes a test

pub find_some : {X : Type 0} (p : X → Bool) (xs : List X) (x : X) → find p xs ≡ Some x → Contains xs x × (p x ≡ true)
find_some p [] x is = absurd cc
find_some p (y ∷ ys) x is = ⊎_elim
    (λ (yes : p y ≡ true). let same : Some y ≡ Some x = sym (cond-true (p y) (Some y) (find p ys) yes) ∙ is in subst (λ z. Contains (y ∷ ys) z × (p z ≡ true)) (same_Some y x same) (first_member y ys, yes))
    (λ (no : p y ≡ false). let t = find_some p ys x (sym (cond-false (p y) (Some y) (find p ys) no) ∙ is) in (later_member y ys x t.0, t.1))
    (cases_Bool (p y))

pub find_none : {X : Type 0} (p : X → Bool) (xs : List X) → find p xs ≡ None → list_any p xs ≡ false
find_none p [] is = refl
find_none p (y ∷ ys) is = ⊎_elim
    (λ (yes : p y ≡ true). absurd (let clash : Some y ≡ None = sym (cond-true (p y) (Some y) (find p ys) yes) ∙ is in cc))
    (λ (no : p y ≡ false). or_from (p y) (list_any p ys) no (find_none p ys (sym (cond-false (p y) (Some y) (find p ys) no) ∙ is)))
    (cases_Bool (p y))

-- what a list answers at an offset, as the model's list has it
pub not_made : (off : ℕ) (news : List NewObject) (found : Option Made) → is_some found ≡ false → option_map new_of found ≡ find (is_at off) news → find (is_at off) news ≡ None
not_made off news None none same = sym same
not_made off news (Some m) none same = absurd cc

-- ---- locks

pub member_passes : {X : Type 0} (p : X → Bool) (xs : List X) (x : X) → Contains xs x → p x ≡ true → list_any p xs ≡ true
member_passes p xs x there passes = list_any_at p xs there.0 x there.1 (ap p there.2 ∙ passes)

-- a lock as the model has it, of the object at the offset and for writing
abbrev guards : ℕ → Locked → Bool
guards off l = eqb l.off off && (l.write || not true)

-- an object under such a lock is locked, for writing too
pub under_lock_locked : (v : View) (off lines : ℕ) → IsUnderLock v off lines → is_locked (locks_of v) off true ≡ true
under_lock_locked v off lines under =
    any_map (guards off) lock_of v.locks
    ∙ member_passes (λ (l : Lock). guards off (lock_of l)) v.locks under.lock under.held
    (and_from (eqb (64 * under.lock.line + 64) off) (under.lock.write || not true) (eq-eqb (64 * under.lock.line + 64) off (sym under.place)) (or_left under.lock.write (not true) under.write))

-- a lock of the lane's list is one of its view
module _ {M : Type 0} (o : Opening) (at : M → View → Type 0) (lane : Lane M) (blocks : BlockLists) (v : View) (is : IsAtWorkWith o at lane blocks v) where
  pub pool_seen : lane.pool ≡ v.pool
  pool_seen = sym is.work.seen.pool

  pub under_its_lock : (off lines : ℕ) → HasBlock lane.locks.items off lines → IsUnderLock v off lines
  under_its_lock off lines has =
      record {
        lock = view_lock has.lock;
        held = subst (λ (ls : List Lock). Contains ls (view_lock has.lock)) is.work.seen.locks (made_member view_lock lane.locks.items has.lock has.held);
        write = has.write;
        block = has.block;
        place = has.place;
      }

  -- its log has an entry for what it listed as published, and will have one for each object that is made or freed
  pub as_many_listed : entries_so_far v ≡ length lane.entries.items + (length (blocks_in v).freed + length (blocks_in v).made)
  as_many_listed =
      let listed = ap (λ (es : List Redo). length es) is.work.published.listed in
      let same = length-map (published_in v) entry_of in
      omega (arith, listed, same)

  -- each lock that the lane lists has a block
  pub blocks_listed : All (λ (l : HeldLock). is_some l.block ≡ true) lane.locks.items
  blocks_listed = All-weaker (Contains lane.locks.items) (λ (l : HeldLock). is_some l.block ≡ true)
      (λ l held. is_found v is.work.objects (view_lock l) (subst (λ (ls : List Lock). Contains ls (view_lock l)) is.work.seen.locks (made_member view_lock lane.locks.items l held))) lane.locks.items (All-contains_itself lane.locks.items)

  pub unlocked_seen : (off : ℕ) → is_locked (map lock_of (map view_lock lane.locks.items)) off true ≡ false → is_locked (locks_of v) off true ≡ false
  unlocked_seen off none = ap (λ (ls : List Lock). is_locked (map lock_of ls) off true) (sym is.work.seen.locks) ∙ none

  pub made_here : (id : Oid) → id.pool ≡ v.pool → (n : NewObject) → find (is_at id.off) (blocks_in v).made ≡ Some n → IsMade v id
  made_here id of_pool n there =
      let t = find_some (is_at id.off) (blocks_in v).made n there in
      record { new = n; has = t.0; of_pool = of_pool; place = sym (eqb-true n.off id.off t.1) }

  pub made_by : (id : Oid) → id.pool ≡ v.pool → (found : Option Made) → is_some found ≡ true → option_map new_of found ≡ find (is_at id.off) (blocks_in v).made → IsMade v id
  made_by id of_pool None some same = absurd cc
  made_by id of_pool (Some m) some same = made_here id of_pool (new_of m) (sym same)

  -- what it freed it holds for writing
  pub freed_locked : (off : ℕ) → is_freed_in v off ≡ true → is_locked (locks_of v) off true ≡ true
  freed_locked off freed =
      let t = Any-from_list_any (λ (f : Freed). eqb f.off off) blocks.freed (freed_is blocks (blocks_in v) off is.lists ∙ freed) in
      let held : IsHeldFreed lane.locks.items t.1 = All-contains (IsHeldFreed lane.locks.items) blocks.freed t.1 is.freed_held (t.0, t.2, t.3) in
      subst (λ k. is_locked (locks_of v) k true ≡ true) (eqb-true t.1.off off t.4) (under_lock_locked v t.1.off t.1.lines (under_its_lock t.1.off t.1.lines held))

  freed_had : (off : ℕ) → is_freed_in v off ≡ true → has_at v off true ≡ true
  freed_had off freed = or_right (is_new_in v off) (is_locked (locks_of v) off true) (freed_locked off freed)

  -- and a lock of its view is of its list
  pub its_block : (off lines : ℕ) → IsUnderLock v off lines → HasBlock lane.locks.items off lines
  its_block off lines under =
      let t = member_made view_lock lane.locks.items under.lock (subst (λ (ls : List Lock). Contains ls under.lock) (sym is.work.seen.locks) under.held) in
      record {
        lock = t.0;
        held = t.1.0;
        write = ap (λ (l : Lock). l.write) t.1.1 ∙ under.write;
        block = ap (λ (l : Lock). l.block) t.1.1 ∙ under.block;
        place = under.place ∙ ap (λ (l : Lock). 64 * l.line + 64) (sym t.1.1);
      }

  pub gone_here : (id : Oid) → id.pool ≡ v.pool → is_gone_in v id.off ≡ true → IsGone v id true
  gone_here id of_pool gone = record {
    of_pool = of_pool;
    has = ⊎_elim (λ (freed : is_freed_in v id.off ≡ true). freed_had id.off freed)
        (λ (dropped : list_any (is_at id.off) (blocks_in v).dropped ≡ true).
        or_left (is_new_in v id.off) (is_locked (locks_of v) id.off true) (or_right (list_any (is_at id.off) (blocks_in v).made) (list_any (is_at id.off) (blocks_in v).dropped) dropped))
        (or_cases (is_freed_in v id.off) (list_any (is_at id.off) (blocks_in v).dropped) gone);
    gone = gone;
  }

  -- what is neither gone nor made here was found, if it is there
  pub old_here : (off : ℕ) → is_gone_in v off ≡ false → find (is_at off) (blocks_in v).made ≡ None → IsOldIn v off
  old_here off left unmade =
      let parts = or_parts (is_freed_in v off) (list_any (is_at off) (blocks_in v).dropped) left in
      record { found = or_from (list_any (is_at off) (blocks_in v).made) (list_any (is_at off) (blocks_in v).dropped) (find_none (is_at off) (blocks_in v).made unmade) parts.1; kept = parts.0 }

  pub had_owned : (id : Oid) (x : Owned) → IsOwned v id x → has_at v id.off true ≡ true
  had_owned id owned.Made made =
      or_left (is_new_in v id.off) (is_locked (locks_of v) id.off true)
      (or_left (list_any (is_at id.off) (blocks_in v).made) (list_any (is_at id.off) (blocks_in v).dropped) (member_passes (is_at id.off) (blocks_in v).made made.new made.has (eq-eqb made.new.off id.off (sym made.place))))
  had_owned id (owned.Found lines) found = or_right (is_new_in v id.off) (is_locked (locks_of v) id.off true) (under_lock_locked v id.off lines found.1)

  pub pool_owned : (id : Oid) (x : Owned) → IsOwned v id x → id.pool ≡ v.pool
  pool_owned id owned.Made made = made.of_pool
  pool_owned id (owned.Found lines) found = found.0

  pub left_owned : (id : Oid) (x : Owned) → IsOwned v id x → is_gone_in v id.off ≡ false
  left_owned id owned.Made made = ap (is_gone_in v) made.place ∙ is.work.under_way.has.kept made.new made.has
  left_owned id (owned.Found lines) found =
      or_from (is_freed_in v id.off) (list_any (is_at id.off) (blocks_in v).dropped) found.2.kept (or_parts (list_any (is_at id.off) (blocks_in v).made) (list_any (is_at id.off) (blocks_in v).dropped) found.2.found).1

  pub behind_owned : (id : Oid) (x : Owned) → IsOwned v id x → 64 ≤ id.off
  behind_owned id owned.Made made = let behind = (is.work.under_way.has.each made.new made.has).behind in let place = made.place in omega (arith, behind, place)
  behind_owned id (owned.Found lines) found = let place = found.1.place in omega (arith, place)

  pub left_here : (id : Oid) (x : Owned) → IsOwned v id x → IsLeft v id true
  left_here id x own = record { of_pool = pool_owned id x own; has = had_owned id x own; left = left_owned id x own }
