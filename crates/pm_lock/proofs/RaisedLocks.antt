-- LOCKS OF A LANE'S LIST ARE RAISED, one after another.
use Rattle.std.proofs.Common.{◌≡◌, ◌≢◌, ℕ, zero, suc, ◌+◌, ◌<◌, ◌≤◌, Bool, true, false, not, cond, ◌==◌, ◌&&◌, ◌||◌, List, [], ◌∷◌, ◌++◌, length, map, take, drop, get_or, set, refl, sym, ap, ◌∙◌, subst, arith, add-one, ne_eqb}
use Rattle.std.specs.Prelude.{filter}
use Rattle.std.specs.List.{AllByRecursion}
use Rattle.std.proofs.lemmas.Bool.{and_from, and_parts, both_ways, cond-false, cond-true}
use Rattle.std.proofs.lemmas.List.Elements.{filter-append}
use Rattle.std.proofs.lemmas.List.{append-nil, map-append, take_all, take_more}
use Rattle.pm_view.specs.Claims.{reads}
use Rattle.pm_view.specs.Steps.{Step}
use Rattle.pm_view.specs.Steps.Step.{Raise}
use Rattle.pm_view.specs.View.{View}
use Rattle.pm_view.specs.Views.{after, after_all}
use Rattle.pm_world.specs.Lawful.{MayRaise}
use Rattle.pm_world.specs.declared.lane.HeldLock.{HeldLock}
use Rattle.pm_world.specs.declared.lane.Lane.{Lane}
use Rattle.pm_lock.specs.Holding.{AreOnce}
use Rattle.pm_lock.specs.Locking.{Raised, Stands, lock_at, lock_of, no_lock}
use Rattle.pm_lock.specs.Raising.{MayRaiseAll, RaisedAll, RaisedOne, RaisedOneAs, is_raised, raised, raises}
use Rattle.pm_lock.proofs.Waiting.{all_then, once_more}

-- ---- a list whose first items are changed
module _ (f : HeldLock → HeldLock) where
  mixed_at : (L : List HeldLock) (k : ℕ) → k < length L → get_or (map f (take k L) ++ drop k L) k no_lock ≡ get_or L k no_lock
  mixed_at [] k low = absurd (omega (arith, low))
  mixed_at (l ∷ L) zero low = refl
  mixed_at (l ∷ L) (suc k) low = mixed_at L k (omega (arith, low))

  mixed_set : (L : List HeldLock) (k : ℕ) → k < length L → set (map f (take k L) ++ drop k L) k (f (get_or L k no_lock)) ≡ map f (take (suc k) L) ++ drop (suc k) L
  mixed_set [] k low = absurd (omega (arith, low))
  mixed_set (l ∷ L) zero low = refl
  mixed_set (l ∷ L) (suc k) low = ap (λ ls. f l ∷ ls) (mixed_set L k (omega (arith, low)))

  mixed_keep : (L : List HeldLock) (k : ℕ) → k < length L → f (get_or L k no_lock) ≡ get_or L k no_lock → map f (take k L) ++ drop k L ≡ map f (take (suc k) L) ++ drop (suc k) L
  mixed_keep [] k low e = absurd (omega (arith, low))
  mixed_keep (l ∷ L) zero low e = ap (λ x. x ∷ L) (sym e)
  mixed_keep (l ∷ L) (suc k) low e = ap (λ ls. f l ∷ ls) (mixed_keep L k (omega (arith, low)) e)

  mixed_length : (L : List HeldLock) (k : ℕ) → length (map f (take k L) ++ drop k L) ≡ length L
  mixed_length [] zero = refl
  mixed_length [] (suc k) = refl
  mixed_length (l ∷ L) zero = refl
  mixed_length (l ∷ L) (suc k) = ap suc (mixed_length L k)

  mixed_whole : (L : List HeldLock) (k : ℕ) → length L ≤ k → map f (take k L) ++ drop k L ≡ map f L
  mixed_whole [] zero up = refl
  mixed_whole [] (suc k) up = refl
  mixed_whole (l ∷ L) zero up = absurd (omega (arith, up))
  mixed_whole (l ∷ L) (suc k) up = ap (λ ls. f l ∷ ls) (mixed_whole L k (omega (arith, up)))

at_index : (P : HeldLock → Type 0) (xs : List HeldLock) (k : ℕ) → AllByRecursion P xs → k < length xs → P (get_or xs k no_lock)
at_index P [] k all low = absurd (omega (arith, low))
at_index P (x ∷ xs) zero all low = all.0
at_index P (x ∷ xs) (suc k) all low = at_index P xs k all.1 (omega (arith, low))

-- ---- the tries that raise
module _ (writes : ℕ → Bool) where
  raises_end : (xs : List HeldLock) (l : HeldLock) → raises writes (xs ++ l ∷ []) ≡ raises writes xs ++ raises writes (l ∷ [])
  raises_end xs l = ap (map (λ (l : HeldLock). Raise l.line true)) (filter-append (is_raised writes) xs (l ∷ [])) ∙ map-append (λ (l : HeldLock). Raise l.line true) (filter (is_raised writes) xs) (filter (is_raised writes) (l ∷ []))

  raises_one : (l : HeldLock) (b : Bool) → is_raised writes l ≡ b → raises writes (l ∷ []) ≡ cond b (Raise l.line true ∷ []) []
  raises_one l true e = ap (map (λ (l : HeldLock). Raise l.line true)) (cond-true (is_raised writes l) (l ∷ []) [] e)
  raises_one l false e = ap (map (λ (l : HeldLock). Raise l.line true)) (cond-false (is_raised writes l) (l ∷ []) [] e)

  raises_more : (L : List HeldLock) (k : ℕ) → k < length L → (b : Bool) → is_raised writes (lock_at L k) ≡ b → raises writes (take (k + 1) L) ≡ raises writes (take k L) ++ cond b (Raise (lock_at L k).line true ∷ []) []
  raises_more L k low b e = ap (raises writes) (take_more L k no_lock low) ∙ (raises_end (take k L) (lock_at L k) ∙ ap (λ s. raises writes (take k L) ++ s) (raises_one (lock_at L k) b e))

  all_filter : (P : HeldLock → Type 0) (xs : List HeldLock) → AllByRecursion P xs → AllByRecursion P (filter (is_raised writes) xs)
  all_filter P [] all = tt
  all_filter P (x ∷ xs) all = at (all_filter P xs all.1) (is_raised writes x) where
    at : AllByRecursion P (filter (is_raised writes) xs) → (b : Bool) → AllByRecursion P (cond b (x ∷ filter (is_raised writes) xs) (filter (is_raised writes) xs))
    at rest true = (all.0, rest)
    at rest false = rest

once_before : (L : List HeldLock) (k : ℕ) → AreOnce L → k < length L → AllByRecursion (λ (l : HeldLock). l.line ≢ (lock_at L k).line) (take k L)
once_before [] k once low = absurd (omega (arith, low))
once_before (l ∷ L) zero once low = tt
once_before (l ∷ L) (suc k) once low = (at_index (λ (m : HeldLock). l.line ≢ m.line) L k once.0 (omega (arith, low)), once_before L k once.1 (omega (arith, low)))

may_after : (locks : List HeldLock) (v : View) (line : ℕ) → AllByRecursion (λ (l : HeldLock). l.line ≢ line) locks → MayRaise v line → MayRaise (after_all v (map (λ (l : HeldLock). Raise l.line true) locks)) line
unfolding after_all
may_after [] v line apart may = may
may_after (l ∷ locks) v line apart may = may_after locks (after v (Raise l.line true)) line apart.1
    (record { inside = may.inside; held = and_from (not (l.line == line)) (reads v.claims line) (ap not (ne_eqb l.line line apart.0)) may.held; early = may.early })

module _ {M : Type 0} (at : M → View → Type 0) (writes : ℕ → Bool) (old : Lane M) where
  abbrev f : HeldLock → HeldLock
  f l = lock_of l.line (l.write || writes l.line)

  -- the first so many are raised
  abbrev pub HasRaised : ℕ → Lane M → Type 0
  HasRaised k lane = (v : View) → at old.memory v → MayRaiseAll v old.locks.items
      → at lane.memory (after_all v (raises writes (take k old.locks.items))) × (lane ≡ record old { memory = lane.memory; locks = lane.locks })
      × (lane.locks.items ≡ raised writes (take k old.locks.items) ++ drop k old.locks.items)

  pub raised_none : HasRaised 0 old
  unfolding after_all
  raised_none v seen may = (seen, refl, refl)

  pub all_raised : (k : ℕ) (lane : Lane M) → HasRaised k lane → length old.locks.items ≤ k → RaisedAll at writes old lane true
  unfolding RaisedAll
  all_raised k lane has up v seen may = let h = has v seen may in
      (subst (λ ls. at lane.memory (after_all v (raises writes ls))) (take_all k old.locks.items up) h.0, h.1, h.2 ∙ mixed_whole f old.locks.items k up)

  module _ (k : ℕ) (lane : Lane M) (has : HasRaised k lane) (low : k < length old.locks.items) where
    abbrev here : HeldLock
    here = lock_at old.locks.items k

    same : (v : View) → at old.memory v → MayRaiseAll v old.locks.items → lock_at lane.locks.items k ≡ here
    same v seen may = ap (λ ls. lock_at ls k) (has v seen may).2 ∙ mixed_at f old.locks.items k low

    pub room : Stands at old (λ v. MayRaiseAll v old.locks.items) → k < length lane.locks.items
    room s = let e = ap length (has s.0 s.1 s.2).2 in let n = mixed_length f old.locks.items k in omega (arith, low, e, n)

    may_here : (v : View) → at old.memory v → MayRaiseAll v old.locks.items → is_raised writes here ≡ true → MayRaise (after_all v (raises writes (take k old.locks.items))) here.line
    may_here v seen may e = may_after (filter (is_raised writes) (take k old.locks.items)) v here.line
        (all_filter writes (λ (l : HeldLock). l.line ≢ here.line) (take k old.locks.items) (once_before old.locks.items k may.once low))
        (at_index (λ (l : HeldLock). l.write ≡ false → MayRaise v l.line) old.locks.items k may.each low (reader here.write (and_parts (not here.write) (writes here.line) e).0))
      where
        reader : (b : Bool) → not b ≡ true → b ≡ false
        reader true e = sym e
        reader false e = refl

    may_there : (v : View) → at old.memory v → MayRaiseAll v old.locks.items → is_raised writes (lock_at lane.locks.items k) ≡ true → MayRaise (after_all v (raises writes (take k old.locks.items))) (lock_at lane.locks.items k).line
    may_there v seen may = subst (λ (l : HeldLock). is_raised writes l ≡ true → MayRaise (after_all v (raises writes (take k old.locks.items))) l.line) (sym (same v seen may)) (may_here v seen may)

    pub raise_next : Stands at old (λ v. MayRaiseAll v old.locks.items) → Stands at lane (λ v. is_raised writes (lock_at lane.locks.items k) ≡ true → MayRaise v (lock_at lane.locks.items k).line)
    raise_next s = (after_all s.0 (raises writes (take k old.locks.items)), (has s.0 s.1 s.2).0, may_there s.0 s.1 s.2)

    step : (new : Lane M) (won : Bool) → RaisedOne at writes k lane new won → (v : View) → at old.memory v → MayRaiseAll v old.locks.items
        → RaisedOneAs at (is_raised writes (lock_at lane.locks.items k)) k (after_all v (raises writes (take k old.locks.items))) lane new won
    unfolding RaisedOne
    step new won one v seen may = one (after_all v (raises writes (take k old.locks.items))) (has v seen may).0 (may_there v seen may)

    joined : (v : View) (s : Step) → after_all v (raises writes (take k old.locks.items) ++ s ∷ []) ≡ after (after_all v (raises writes (take k old.locks.items))) s
    joined v s = all_then v (raises writes (take k old.locks.items)) (s ∷ []) ∙ once_more (after_all v (raises writes (take k old.locks.items))) s

    raised_by : (v : View) (seen : at old.memory v) (may : MayRaiseAll v old.locks.items) (new : Lane M) (b : Bool) → is_raised writes (lock_at lane.locks.items k) ≡ b
        → RaisedOneAs at b k (after_all v (raises writes (take k old.locks.items))) lane new true
        → at new.memory (after_all v (raises writes (take (k + 1) old.locks.items))) × (new ≡ record old { memory = new.memory; locks = new.locks }) × (new.locks.items ≡ raised writes (take (k + 1) old.locks.items) ++ drop (k + 1) old.locks.items)
    raised_by v seen may new true e r =
        let h = has v seen may in let s = same v seen may in let is : is_raised writes here ≡ true = ap (is_raised writes) (sym s) ∙ e in (
          subst (at new.memory) (sym (ap (after_all v) (raises_more writes old.locks.items k low true is) ∙ joined v (Raise here.line true))) (subst (λ (l : HeldLock). at new.memory (after (after_all v (raises writes (take k old.locks.items))) (Raise l.line true))) s r.0),
          r.2 ∙ ap (λ (l : Lane M). record l { memory = new.memory; locks = new.locks }) h.1,
          r.3 ∙ (ap (λ (l : HeldLock). set lane.locks.items k (lock_of l.line true)) s ∙ (ap (λ ls. set ls k (lock_of here.line true)) h.2 ∙ (ap (λ b. set (raised writes (take k old.locks.items) ++ drop k old.locks.items) k (lock_of here.line b)) (sym (wrote here.write (writes here.line) (and_parts (not here.write) (writes here.line) is).1))
              ∙ (mixed_set f old.locks.items k low ∙ ap (λ n. raised writes (take n old.locks.items) ++ drop n old.locks.items) (sym (add-one k)))))),
        )
      where
        wrote : (a b : Bool) → b ≡ true → (a || b) ≡ true
        wrote true b e = refl
        wrote false b e = e
    raised_by v seen may new false e r =
        let h = has v seen may in let s = same v seen may in let is : is_raised writes here ≡ false = ap (is_raised writes) (sym s) ∙ e in (
          subst (λ (l : Lane M). at l.memory (after_all v (raises writes (take (k + 1) old.locks.items)))) (sym r.1) (subst (at lane.memory) (ap (after_all v) (sym (append-nil (raises writes (take k old.locks.items))) ∙ sym (raises_more writes old.locks.items k low false is))) h.0),
          subst (λ (l : Lane M). l ≡ record old { memory = l.memory; locks = l.locks }) (sym r.1) h.1,
          ap (λ (l : Lane M). l.locks.items) r.1 ∙ (h.2 ∙ (mixed_keep f old.locks.items k low (ap (lock_of here.line) (kept here.write (writes here.line) is)) ∙ ap (λ n. raised writes (take n old.locks.items) ++ drop n old.locks.items) (sym (add-one k)))),
        )
      where
        kept : (a b : Bool) → (not a && b) ≡ false → (a || b) ≡ a
        kept true b e = refl
        kept false b e = e

    pub raised_more : (new : Lane M) (won : Bool) → won ≡ true → RaisedOne at writes k lane new won → HasRaised (k + 1) new
    raised_more new false e one v seen may = absurd (both_ways false refl e)
    raised_more new true e one v seen may = raised_by v seen may new (is_raised writes (lock_at lane.locks.items k)) refl (step new true one v seen may)

    refused_by : (v : View) (seen : at old.memory v) (may : MayRaiseAll v old.locks.items) (new : Lane M) (b : Bool) → is_raised writes (lock_at lane.locks.items k) ≡ b
        → RaisedOneAs at b k (after_all v (raises writes (take k old.locks.items))) lane new false
        → (is_raised writes here ≡ true) × at new.memory (after_all v (raises writes (take k old.locks.items) ++ Raise here.line false ∷ []))
        × (new ≡ record old { memory = new.memory; locks = new.locks }) × (new.locks.items ≡ raised writes (take k old.locks.items) ++ drop k old.locks.items)
    refused_by v seen may new false e r = absurd (both_ways true (sym r.0) refl)
    refused_by v seen may new true e r =
        let h = has v seen may in let s = same v seen may in (
          ap (is_raised writes) (sym s) ∙ e,
          subst (at new.memory) (sym (joined v (Raise here.line false))) (subst (λ (l : HeldLock). at new.memory (after (after_all v (raises writes (take k old.locks.items))) (Raise l.line false))) s r.0),
          r.2 ∙ (ap (λ (l : Lane M). record l { memory = new.memory }) h.1 ∙ ap (λ locks. record old { memory = new.memory; locks = locks }) (sym (ap (λ (l : Lane M). l.locks) r.2))),
          ap (λ (l : Lane M). l.locks.items) r.2 ∙ h.2,
        )

    pub raised_up : (new : Lane M) (won : Bool) → won ≡ false → RaisedOne at writes k lane new won → RaisedAll at writes old new false
    unfolding RaisedAll
    raised_up new true e one v seen may = absurd (both_ways true e refl)
    raised_up new false e one v seen may = let r = refused_by v seen may new (is_raised writes (lock_at lane.locks.items k)) refl (step new false one v seen may) in (k, low, r.0, r.1, r.2, r.3)

-- ---- one lock
module _ {M : Type 0} (at : M → View → Type 0) (writes : ℕ → Bool) (old : Lane M) (i : ℕ) where
  pub raised_so : (now : List HeldLock) (r b : Bool) → now ≡ old.locks.items → r ≡ is_raised writes (lock_at now i) → r ≡ b → is_raised writes (lock_at old.locks.items i) ≡ b
  raised_so now r b e is q = sym (is ∙ ap (λ ls. is_raised writes (lock_at ls i)) e) ∙ q

  pub raised_here : (new : Lane M) (won : Bool) → is_raised writes (lock_at old.locks.items i) ≡ true → Raised at i old new won → RaisedOne at writes i old new won
  unfolding Raised RaisedOne
  raised_here new won is r v seen may = subst (λ b. RaisedOneAs at b i v old new won) (sym is) (r v seen (may is))

  pub left_here : is_raised writes (lock_at old.locks.items i) ≡ false → RaisedOne at writes i old old true
  unfolding RaisedOne
  left_here is v seen may = subst (λ b. RaisedOneAs at b i v old old true) (sym is) (refl, refl)
