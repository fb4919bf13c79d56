-- What the lists of a call say of the object of a range, in the view of its lane.
use Rattle.std.proofs.Common.{◌≡◌, ◌≢◌, ◌⊎◌, ⊎_elim, inl, inr, ℕ, ◌&&◌, ◌||◌, Bool, true, false, not, cond, eqb, Result, Ok, Err, OnErr, OnOk, IfErr, IfOk, List, [], ◌∷◌, Contains, None, Some, refl, sym, ap, ◌∙◌, subst, arith, eq-eqb, ne_eqb}
use Rattle.std.specs.List.{find, list_any}
use Rattle.std.proofs.lemmas.Bool.{and_from, and_parts, eqb-true, false≢true, or_cases, or_left, or_right}
use Rattle.std.proofs.lemmas.List.Elements.{Contains-append_right}
use Rattle.std.proofs.lemmas.List.Folds.{list_any-from_Any}
use Rattle.solo_made.specs.Made.{BlockLists}
use Rattle.solo_model.specs.Checks.{needs_write}
use Rattle.solo_model.specs.Transaction.{Lock as Locked, is_locked}
use Rattle.pm_objects.specs.declared.calls.Operation.{Operation}
use Rattle.pm_objects.specs.declared.ids.Oid.{Oid}
use Rattle.pm_objects.specs.declared.refusal.Refusal.{Refusal}
use Rattle.pm_objects.specs.declared.refusal.Refusal.TheVariants as refusal
use Rattle.solo_view.specs.View.{View}
use Rattle.solo_world.specs.Opening.{Opening}
use Rattle.solo_world.specs.declared.lane.Lane.{Lane}
use Rattle.solo_crash.specs.CallBlocks.{CallBlocks as Call, IsOldIn, NewObject, blocks_in, is_at, is_freed_in, is_gone_in, is_made_in, is_new_in}
use Rattle.solo_crash.specs.OpenCall.{locks_of}
use Rattle.solo_crash.specs.Operations.{HasNewRange, IsMade, has_at}
use Rattle.solo_tx.specs.AtWork.{IsAtWork}
use Rattle.solo_tx.specs.Stages.{is_work, work_refusal}
use Rattle.solo_transaction.specs.AnyRanges.{IsRangeReason, Sorts}
use Rattle.solo_transaction.proofs.Owned.{freed_locked}
use Rattle.solo_transaction.specs.AtWork.{IsAtWorkWith}
use Rattle.solo_transaction.specs.declared.origins.Origin.{Origin}
use Rattle.solo_transaction.specs.declared.origins.Origin.TheVariants as origin

-- ---- results

pub on_ok : {T E : Type 0} (P Q : Type 0) → (P → Q) → (result : Result T E) → OnOk result P → OnOk result Q
on_ok P Q so (Ok t) p = so p
on_ok P Q so (Err e) p = tt

pub both_ok : {T E : Type 0} (P Q : Type 0) (result : Result T E) → OnOk result P → OnOk result Q → OnOk result (P × Q)
both_ok P Q (Ok t) p q = (p, q)
both_ok P Q (Err e) p q = tt

pub on_any_ok : {T E : Type 0} (Q : Type 0) → Q → (result : Result T E) → OnOk result Q
on_any_ok Q q (Ok t) = q
on_any_ok Q q (Err e) = tt

pub on_err : {T E : Type 0} (P Q : E → Type 0) → ((e : E) → P e → Q e) → (result : Result T E) → IfErr result P → IfErr result Q
on_err P Q so (Ok t) p = tt
on_err P Q so (Err e) p = so e p

-- ---- what a search finds

pub found_at : (off : ℕ) (ns : List NewObject) (n : NewObject) → find (is_at off) ns ≡ Some n → Contains ns n × (off ≡ n.off)
found_at off [] n is = absurd cc
found_at off (m ∷ ns) n is = go (eqb m.off off) refl is (found_at off ns n) where
  go : (b : Bool) → eqb m.off off ≡ b → cond b (Some m) (find (is_at off) ns) ≡ Some n → (find (is_at off) ns ≡ Some n → Contains ns n × (off ≡ n.off)) → Contains (m ∷ ns) n × (off ≡ n.off)
  go true at same later =
      let it : m ≡ n = cc in
      ((0, omega arith, it), sym (eqb-true m.off off at) ∙ ap (λ (x : NewObject). x.off) it)
  go false at same later = let t = later same in (Contains-append_right (m ∷ []) ns n t.0, t.1)

pub none_at : (off : ℕ) (ns : List NewObject) → find (is_at off) ns ≡ None → list_any (is_at off) ns ≡ false
none_at off [] is = refl
none_at off (m ∷ ns) is = go (eqb m.off off) refl is (none_at off ns) where
  go : (b : Bool) → eqb m.off off ≡ b → cond b (Some m) (find (is_at off) ns) ≡ None → (find (is_at off) ns ≡ None → list_any (is_at off) ns ≡ false) → (eqb m.off off || list_any (is_at off) ns) ≡ false
  go true at same later = absurd cc
  go false at same later = ap (λ b. b || list_any (is_at off) ns) at ∙ later same

-- ---- of a lane's view

-- a lock for writing is one for reading too
held_so : (locks : List Locked) (off : ℕ) (write : Bool) → is_locked locks off true ≡ true → is_locked locks off write ≡ true
held_so locks off true held = held
held_so [] off false held = absurd (false≢true held)
held_so (l ∷ locks) off false held =
    ⊎_elim
    (λ (here : (eqb l.off off && (l.write || not true)) ≡ true). or_left (eqb l.off off && (l.write || not false)) (is_locked locks off false) (and_from (eqb l.off off) (l.write || not false) (and_parts (eqb l.off off) (l.write || not true) here).0 (or_right l.write true refl)))
    (λ (later : is_locked locks off true ≡ true). or_right (eqb l.off off && (l.write || not false)) (is_locked locks off false) (held_so locks off false later))
    (or_cases (eqb l.off off && (l.write || not true)) (is_locked locks off true) held)

pub work_is_not_refused : {M : Type 0} (o : Opening) (at : M → View → Type 0) (lane : Lane M) (v : View) → IsAtWork o at lane v → work_refusal lane ≡ None
work_is_not_refused o at lane v work =
    let some = work.level in
    (λ j. cond (work.unstopped j) (Some refusal.Stopped) (cond (ne_eqb lane.level 0 (λ none. absurd (omega (arith, none, some))) j) (Some refusal.NoTx) (cond (is_work (work.works j)) None (Some refusal.NotWork))))

module _ {M : Type 0} (o : Opening) (at : M → View → Type 0) (lane : Lane M) (blocks : BlockLists) (v : View) (all : IsAtWorkWith o at lane blocks v) (id : Oid) (off len : ℕ) where
  old_so : Sorts (blocks_in v) lane.pool id off len (Ok origin.Found) → IsOldIn v id.off
  old_so t = record { found = t.1.found; kept = t.1.kept }

  pub old_of : (x : Origin) → x ≡ origin.Found → Sorts (blocks_in v) lane.pool id off len (Ok x) → IsOldIn v id.off
  old_of x is t = old_so (subst (λ (y : Origin). Sorts (blocks_in v) lane.pool id off len (Ok y)) is t)

  new_so : Sorts (blocks_in v) lane.pool id off len (Ok origin.Made) → HasNewRange v id off len
  new_so t = record {
    made = record { new = t.1.new; has = t.1.has; of_pool = t.0 ∙ sym all.work.seen.pool; place = t.1.place };
    inside = t.2;
  }

  pub new_range_of : (x : Origin) → x ≡ origin.Made → Sorts (blocks_in v) lane.pool id off len (Ok x) → HasNewRange v id off len
  new_range_of x is t = new_so (subst (λ (y : Origin). Sorts (blocks_in v) lane.pool id off len (Ok y)) is t)

  is_new : IsMade v id → is_new_in v id.off ≡ true
  is_new made =
      or_left (is_made_in v id.off) (list_any (is_at id.off) (blocks_in v).dropped) (list_any-from_Any (is_at id.off) (blocks_in v).made (made.has.0, made.new, made.has.1, made.has.2, eq-eqb made.new.off id.off (sym made.place)))

  pub old_is_not_made : IsMade v id → IsOldIn v id.off → ⊥
  old_is_not_made made old = false≢true (sym old.found ∙ is_new made)

  -- what is gone it has
  has_gone : (write : Bool) → is_gone_in v id.off ≡ true → has_at v id.off write ≡ true
  has_gone write gone = ⊎_elim
      (λ (freed : is_freed_in v id.off ≡ true). or_right (is_new_in v id.off) (is_locked (locks_of v) id.off write) (held_so (locks_of v) id.off write (freed_locked o at lane blocks v all id.off freed)))
      (λ (dropped : list_any (is_at id.off) (blocks_in v).dropped ≡ true).
      or_left (is_new_in v id.off) (is_locked (locks_of v) id.off write) (or_right (is_made_in v id.off) (list_any (is_at id.off) (blocks_in v).dropped) dropped))
      (or_cases (is_freed_in v id.off) (list_any (is_at id.off) (blocks_in v).dropped) gone)

  pub reason_of : (op : Operation) (r : Refusal) → Sorts (blocks_in v) lane.pool id off len (Err r) → IsRangeReason v op (record { id = id; off = off; len = len }) r
  reason_of op refusal.NoObject t = inr (inl (refl, record { of_pool = t.0 ∙ sym all.work.seen.pool; has = has_gone (needs_write op) t.1; gone = t.1 }))
  reason_of op refusal.OutOfRange t =
      inr (inr (inl (refl, record { made = record { new = t.1.new; has = t.1.has; of_pool = t.0 ∙ sym all.work.seen.pool; place = t.1.place }; outside = t.2 })))
  reason_of op refusal.NotLocked t = inr (inr (inr (refl, λ same. t (same ∙ all.work.seen.pool))))
  reason_of op r t = absurd t

-- why a range is refused before anything is looked at
pub sorted_cause : (call : Call) (pool : ℕ) (id : Oid) (off len : ℕ) (r : Refusal) → Sorts call pool id off len (Err r) → (r ≡ refusal.NotLocked) ⊎ ((r ≡ refusal.NoObject) ⊎ (r ≡ refusal.OutOfRange))
sorted_cause call pool id off len refusal.NotLocked t = inl refl
sorted_cause call pool id off len refusal.NoObject t = inr (inl refl)
sorted_cause call pool id off len refusal.OutOfRange t = inr (inr refl)
sorted_cause call pool id off len r t = absurd t

pub sorted_is_no_stop : (call : Call) (pool : ℕ) (id : Oid) (off len : ℕ) (r : Refusal) → Sorts call pool id off len (Err r) → r ≢ refusal.Stopped
sorted_is_no_stop call pool id off len refusal.NotLocked t e = absurd cc
sorted_is_no_stop call pool id off len refusal.NoObject t e = absurd cc
sorted_is_no_stop call pool id off len refusal.OutOfRange t e = absurd cc
sorted_is_no_stop call pool id off len r t e = absurd t

-- what is answered is the lane's stop, or that
pub stopped_or_cause : (answer r : Refusal) → (answer ≢ refusal.Stopped → answer ≡ r) → (r ≡ refusal.NotLocked) ⊎ ((r ≡ refusal.NoObject) ⊎ (r ≡ refusal.OutOfRange))
    → (answer ≡ refusal.NotLocked) ⊎ ((answer ≡ refusal.NoObject) ⊎ ((answer ≡ refusal.OutOfRange) ⊎ (answer ≡ refusal.Stopped)))
stopped_or_cause answer r is cause = ⊎_elim
    (λ (stopped : answer ≡ refusal.Stopped). inr (inr (inr stopped)))
    (λ (stays : answer ≢ refusal.Stopped).
    ⊎_elim (λ (e : r ≡ refusal.NotLocked). inl (is stays ∙ e))
    (λ (rest : (r ≡ refusal.NoObject) ⊎ (r ≡ refusal.OutOfRange)).
    ⊎_elim (λ (e : r ≡ refusal.NoObject). inr (inl (is stays ∙ e))) (λ (e : r ≡ refusal.OutOfRange). inr (inr (inl (is stays ∙ e)))) rest) cause)
    (stopped_or_not answer) where
      stopped_or_not : (a : Refusal) → (a ≡ refusal.Stopped) ⊎ (a ≢ refusal.Stopped)
      stopped_or_not refusal.Stopped = inl refl
      stopped_or_not a = inr (λ e. absurd cc)

-- or one that comes of an object found alone
pub one_cause_more : {A B C D : Type 0} (E : Type 0) → A ⊎ (B ⊎ (C ⊎ D)) → A ⊎ (B ⊎ (C ⊎ (E ⊎ D)))
one_cause_more E (inl a) = inl a
one_cause_more E (inr (inl b)) = inr (inl b)
one_cause_more E (inr (inr (inl c))) = inr (inr (inl c))
one_cause_more E (inr (inr (inr d))) = inr (inr (inr (inr d)))

pub if_any_ok : {T E : Type 0} (P : T → Type 0) → ((t : T) → P t) → (result : Result T E) → IfOk result P
if_any_ok P p (Ok t) = p t
if_any_ok P p (Err e) = tt

pub if_ok_so : {T E : Type 0} (P Q : T → Type 0) → ((t : T) → P t → Q t) → (result : Result T E) → IfOk result P → IfOk result Q
if_ok_so P Q so (Ok t) p = so t p
if_ok_so P Q so (Err e) p = tt

pub if_err_so : {T E : Type 0} (P : Type 0) (Q : E → Type 0) → ((e : E) → P → Q e) → (result : Result T E) → OnErr result P → IfErr result Q
if_err_so P Q so (Ok t) p = tt
if_err_so P Q so (Err e) p = so e p
