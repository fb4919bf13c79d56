-- Words of stray slots, and the end of a log: whole words are stored.
use Rattle.std.proofs.Common.{◌≡◌, ◌≢◌, ◌⊎◌, ⊎_elim, inl, inr, ℕ, zero, suc, ◌+◌, ◌*◌, ◌/◌, ◌<◌, ◌≤◌, ◌||◌, Bool, true, false, cond, eqb, All, List, [], ◌∷◌, map, take, refl, sym, ◌∙◌, ap, subst, arith}
use Rattle.std.specs.List.{filter, list_any, range_with_len}
use Rattle.std.proofs.lemmas.Bool.{cases_Bool, cases_eq, cases_lt, eq-eqb, eqb-true, false≢true, ne_eqb, or_left, or_right}
use Rattle.std.proofs.lemmas.List.Elements.{All-append, All-cons, All-head, All-nil, All-tail}
use Rattle.std.proofs.lemmas.List.Folds.{list_any-append}
use Rattle.pm_record.specs.Redo.{applied, outcome}
use Rattle.pm_record.specs.declared.redo.Op.{Op}
use Rattle.pm_record.specs.declared.redo.Op.TheVariants as op
use Rattle.pm_record.specs.declared.redo.Redo.{Redo}
use Rattle.pm_image.specs.Logs.{all_applied, slot_line, undo_slot}
use Rattle.pm_recover.specs.Recovery.{IsOfSlot, generation_after, is_stray}
use Rattle.pm_reopen.specs.Plan.{store_of, strays, zeros}
use Rattle.pm_reopen.proofs.Phase2.{IsStraySlot}
use Rattle.pm_reopen.proofs.Segments.{clears}
use Rattle.pm_reopen.proofs.Surviving.{for_word}

-- ---- stores of one value in a word

-- the change, if it is of word w, stores v
abbrev pub Stores : ℕ → ℕ → Redo → Type 0
Stores w v e = e.place / 8 ≡ w → (e.op ≡ op.Set) × (e.value ≡ v)

stored : (e : Redo) (v x : ℕ) → (e.op ≡ op.Set) × (e.value ≡ v) → applied e x ≡ v
stored e v x facts = ap (λ (o : Op). outcome o e.value x) facts.0 ∙ facts.1

pub as_it_was_or : (es : List Redo) (w v n x : ℕ) → All (Stores w v) es → (all_applied (take n (for_word w es)) x ≡ x) ⊎ (all_applied (take n (for_word w es)) x ≡ v)
as_it_was_or [] w v zero x all = inl refl
as_it_was_or [] w v (suc n) x all = inl refl
as_it_was_or (e ∷ es) w v n x all = ⊎_elim
    (λ (own : e.place / 8 ≡ w).
    let is : for_word w (e ∷ es) ≡ e ∷ for_word w es = ap (λ (b : Bool). cond b (e ∷ for_word w es) (for_word w es)) (eq-eqb (e.place / 8) w own) in
    subst (λ (fs : List Redo). (all_applied (take n fs) x ≡ x) ⊎ (all_applied (take n fs) x ≡ v)) (sym is)
    (kept (λ m y. as_it_was_or es w v m y (All-tail (Stores w v) e es all)) n (All-head (Stores w v) e es all own)))
    (λ (other : e.place / 8 ≢ w).
    let is : for_word w (e ∷ es) ≡ for_word w es = ap (λ (b : Bool). cond b (e ∷ for_word w es) (for_word w es)) (ne_eqb (e.place / 8) w other) in
    subst (λ (fs : List Redo). (all_applied (take n fs) x ≡ x) ⊎ (all_applied (take n fs) x ≡ v)) (sym is) (as_it_was_or es w v n x (All-tail (Stores w v) e es all)))
    (cases_eq (e.place / 8) w) where
      kept : ((m y : ℕ) → (all_applied (take m (for_word w es)) y ≡ y) ⊎ (all_applied (take m (for_word w es)) y ≡ v)) → (m : ℕ) → (e.op ≡ op.Set) × (e.value ≡ v)
          → (all_applied (take m (e ∷ for_word w es)) x ≡ x) ⊎ (all_applied (take m (e ∷ for_word w es)) x ≡ v)
      kept later zero facts = inl refl
      kept later (suc m) facts = inr (⊎_elim
          (λ (same : all_applied (take m (for_word w es)) (applied e x) ≡ applied e x). same ∙ stored e v x facts)
          (λ (last : all_applied (take m (for_word w es)) (applied e x) ≡ v). last)
          (later m (applied e x)))

-- all of them
pub stays_stored : (es : List Redo) (w v : ℕ) → All (Stores w v) es → all_applied (for_word w es) v ≡ v
stays_stored [] w v all = refl
stays_stored (e ∷ es) w v all = ⊎_elim
    (λ (own : e.place / 8 ≡ w).
    ap (λ (b : Bool). all_applied (cond b (e ∷ for_word w es) (for_word w es)) v) (eq-eqb (e.place / 8) w own)
    ∙ ap (all_applied (for_word w es)) (stored e v v (All-head (Stores w v) e es all own)) ∙ stays_stored es w v (All-tail (Stores w v) e es all))
    (λ (other : e.place / 8 ≢ w).
    ap (λ (b : Bool). all_applied (cond b (e ∷ for_word w es) (for_word w es)) v) (ne_eqb (e.place / 8) w other) ∙ stays_stored es w v (All-tail (Stores w v) e es all))
    (cases_eq (e.place / 8) w)

abbrev pub touches : ℕ → List Redo → Bool
touches w es = list_any (λ (e : Redo). eqb (e.place / 8) w) es

pub is_stored : (es : List Redo) (w v x : ℕ) → All (Stores w v) es → touches w es ≡ true → all_applied (for_word w es) x ≡ v
is_stored [] w v x all some = absurd cc
is_stored (e ∷ es) w v x all some = ⊎_elim
    (λ (own : e.place / 8 ≡ w).
    ap (λ (b : Bool). all_applied (cond b (e ∷ for_word w es) (for_word w es)) x) (eq-eqb (e.place / 8) w own)
    ∙ ap (all_applied (for_word w es)) (stored e v x (All-head (Stores w v) e es all own)) ∙ stays_stored es w v (All-tail (Stores w v) e es all))
    (λ (other : e.place / 8 ≢ w).
    let none : eqb (e.place / 8) w ≡ false = ne_eqb (e.place / 8) w other in
    ap (λ (b : Bool). all_applied (cond b (e ∷ for_word w es) (for_word w es)) x) none
    ∙ is_stored es w v x (All-tail (Stores w v) e es all) (sym (ap (λ (b : Bool). b || touches w es) none) ∙ some))
    (cases_eq (e.place / 8) w)

pub not_touched : (es : List Redo) (w : ℕ) → touches w es ≡ false → for_word w es ≡ []
not_touched [] w none = refl
not_touched (e ∷ es) w none =
    let parts = Rattle.std.proofs.lemmas.Bool.or_parts (eqb (e.place / 8) w) (touches w es) none in
    ap (λ (b : Bool). cond b (e ∷ for_word w es) (for_word w es)) parts.0 ∙ not_touched es w parts.1

-- ---- cleared slots

zeros_store : (line w a n : ℕ) → All (Stores w 0) (map (λ k. store_of (8 * line + k) 0) (range_with_len a n))
zeros_store line w a zero = All-nil (Stores w 0)
zeros_store line w a (suc n) = All-cons (Stores w 0) (store_of (8 * line + a) 0) (map (λ k. store_of (8 * line + k) 0) (range_with_len (a + 1) n)) (λ at. (refl, refl)) (zeros_store line w (a + 1) n)

pub clears_store : (k : ℕ) (slots : List ℕ) (w : ℕ) → All (Stores w 0) (clears k slots)
clears_store k [] w = All-nil (Stores w 0)
clears_store k (slot ∷ slots) w = All-append (Stores w 0) (zeros (slot_line k slot)) (clears k slots) (zeros_store (slot_line k slot) w 0 8) (clears_store k slots w)

zeros_touch : (line w a n : ℕ) → 8 * line + a ≤ w → w < 8 * line + a + n → touches w (map (λ k. store_of (8 * line + k) 0) (range_with_len a n)) ≡ true
zeros_touch line w a zero from to = absurd (omega (arith, from, to))
zeros_touch line w a (suc n) from to = ⊎_elim
    (λ (here : w ≡ 8 * line + a). or_left (eqb (8 * (8 * line + a) / 8) w) (touches w (map (λ k. store_of (8 * line + k) 0) (range_with_len (a + 1) n))) (eq-eqb (8 * (8 * line + a) / 8) w (omega (arith, here))))
    (λ (later : w ≢ 8 * line + a). or_right (eqb (8 * (8 * line + a) / 8) w) (touches w (map (λ k. store_of (8 * line + k) 0) (range_with_len (a + 1) n))) (zeros_touch line w (a + 1) n (omega (arith, from, later)) (omega (arith, to))))
    (cases_eq w (8 * line + a))

zeros_miss : (line w a n : ℕ) → (w < 8 * line + a) ⊎ (8 * line + a + n ≤ w) → touches w (map (λ k. store_of (8 * line + k) 0) (range_with_len a n)) ≡ false
zeros_miss line w a zero out = refl
zeros_miss line w a (suc n) out =
    let apart : 8 * (8 * line + a) / 8 ≢ w = λ same. ⊎_elim (λ (low : w < 8 * line + a). omega (arith, same, low)) (λ (high : 8 * line + a + suc n ≤ w). omega (arith, same, high)) out in
    ap (λ (b : Bool). b || touches w (map (λ k. store_of (8 * line + k) 0) (range_with_len (a + 1) n))) (ne_eqb (8 * (8 * line + a) / 8) w apart)
    ∙ zeros_miss line w (a + 1) n (⊎_elim (λ (low : w < 8 * line + a). inl (omega (arith, low))) (λ (high : 8 * line + a + suc n ≤ w). inr (omega (arith, high))) out)

-- a word is cleared exactly where it is of one of the slots
pub clears_touch : (k : ℕ) (p : ℕ → Bool) (w slot a n : ℕ) → a ≤ slot → slot < a + n → p slot ≡ true → IsOfSlot k slot w → touches w (clears k (filter p (range_with_len a n))) ≡ true
clears_touch k p w slot a zero from to passes of = absurd (omega (arith, from, to))
clears_touch k p w slot a (suc n) from to passes of = ⊎_elim
    (λ (here : slot ≡ a).
    let low = of.0 in let high = of.1 in
    ap (λ (b : Bool). touches w (clears k (cond b (a ∷ filter p (range_with_len (a + 1) n)) (filter p (range_with_len (a + 1) n))))) (ap p (sym here) ∙ passes)
    ∙ list_any-append (λ (e : Redo). eqb (e.place / 8) w) (zeros (slot_line k a)) (clears k (filter p (range_with_len (a + 1) n)))
    ∙ or_left (touches w (zeros (slot_line k a))) (touches w (clears k (filter p (range_with_len (a + 1) n)))) (zeros_touch (slot_line k a) w 0 8 (omega (arith, low, here)) (omega (arith, high, here))))
    (λ (later : slot ≢ a).
    let rest = clears_touch k p w slot (a + 1) n (omega (arith, from, later)) (omega (arith, to)) passes of in
    more (p a) rest)
    (cases_eq slot a) where
      more : (b : Bool) → touches w (clears k (filter p (range_with_len (a + 1) n))) ≡ true → touches w (clears k (cond b (a ∷ filter p (range_with_len (a + 1) n)) (filter p (range_with_len (a + 1) n)))) ≡ true
      more true rest = list_any-append (λ (e : Redo). eqb (e.place / 8) w) (zeros (slot_line k a)) (clears k (filter p (range_with_len (a + 1) n))) ∙ or_right (touches w (zeros (slot_line k a))) (touches w (clears k (filter p (range_with_len (a + 1) n)))) rest
      more false rest = rest

pub clears_miss : (k : ℕ) (p : ℕ → Bool) (w a n : ℕ) → ((slot : ℕ) → a ≤ slot → slot < a + n → p slot ≡ true → IsOfSlot k slot w → ⊥) → touches w (clears k (filter p (range_with_len a n))) ≡ false
clears_miss k p w a zero none = refl
clears_miss k p w a (suc n) none = one (p a) refl (clears_miss k p w (a + 1) n (λ slot from to. none slot (omega (arith, from)) (omega (arith, to)))) where
  one : (b : Bool) → p a ≡ b → touches w (clears k (filter p (range_with_len (a + 1) n))) ≡ false → touches w (clears k (cond (p a) (a ∷ filter p (range_with_len (a + 1) n)) (filter p (range_with_len (a + 1) n)))) ≡ false
  one true is rest =
      let out : (w < 8 * slot_line k a + 0) ⊎ (8 * slot_line k a + 0 + 8 ≤ w) = ⊎_elim
      (λ (low : w < 8 * slot_line k a). inl (omega (arith, low)))
      (λ (from : 8 * slot_line k a ≤ w). ⊎_elim (λ (to : w < 8 * slot_line k a + 8). absurd (none a (omega arith) (omega arith) is (from, to))) (λ (high : 8 * slot_line k a + 8 ≤ w). inr (omega (arith, high))) (cases_lt w (8 * slot_line k a + 8)))
      (cases_lt w (8 * slot_line k a)) in
      ap (λ (b : Bool). touches w (clears k (cond b (a ∷ filter p (range_with_len (a + 1) n)) (filter p (range_with_len (a + 1) n))))) is
      ∙ list_any-append (λ (e : Redo). eqb (e.place / 8) w) (zeros (slot_line k a)) (clears k (filter p (range_with_len (a + 1) n)))
      ∙ (λ j. zeros_miss (slot_line k a) w 0 8 out j || rest j)
  one false is rest = ap (λ (b : Bool). touches w (clears k (cond b (a ∷ filter p (range_with_len (a + 1) n)) (filter p (range_with_len (a + 1) n))))) is ∙ rest

-- of the lane's stray slots
pub stray_touched : (X : List ℕ) (k w slot : ℕ) → slot < 64 → IsStraySlot X k slot → IsOfSlot k slot w → touches w (clears k (strays X k)) ≡ true
unfolding strays
stray_touched X k w slot few stray of = clears_touch k (λ s. is_stray (generation_after X k) (undo_slot X k s)) w slot 0 64 (omega arith) (omega (arith, few)) stray of

pub others_missed : (X : List ℕ) (k w : ℕ) → ((slot : ℕ) → slot < 64 → IsStraySlot X k slot → IsOfSlot k slot w → ⊥) → touches w (clears k (strays X k)) ≡ false
unfolding strays
others_missed X k w none = clears_miss k (λ s. is_stray (generation_after X k) (undo_slot X k s)) w 0 64 (λ slot from to. none slot (omega (arith, to)))
