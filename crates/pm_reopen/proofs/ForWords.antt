-- What a lane's log makes of one word: the old word of the record that covers it, or its entries.
use Rattle.std.proofs.Common.{◌≡◌, ◌≢◌, ◌⊎◌, ⊎_elim, inl, inr, ℕ, zero, suc, ◌+◌, ◌-◌, ◌*◌, ◌/◌, ◌%◌, ◌<◌, ◌≤◌, ◌&&◌, Bool, true, false, cond, eqb, leb, ltb, eq-eqb, ne_eqb, All, List, [], ◌∷◌, ◌++◌, map, slice_index, Option, Some, None, refl, sym, ◌∙◌, ap, subst, arith}
use Rattle.std.specs.List.{filter, flat_map, range_with_len}
use Rattle.std.specs.Option.{option_map, option_to_list}
use Rattle.std.proofs.lemmas.Bool.{and_from, and_left, and_right, cases_Bool, cases_eq, cases_lt, le-leb, le-ltb, lt-leb, lt-ltb}
use Rattle.std.proofs.lemmas.List.{map-append}
use Rattle.std.proofs.lemmas.List.Elements.{All-cons, All-head, All-nil, All-tail, filter-append}
use Rattle.pm_record.specs.Redo.{op_of, redo_of}
use Rattle.pm_record.specs.declared.redo.Op.{Op}
use Rattle.pm_record.specs.declared.redo.Redo.{Redo}
use Rattle.pm_record.specs.declared.undo.Undo.{Undo}
use Rattle.pm_image.specs.Logs.{covers, entries, entry_pair, is_sealed, old_word, records, seal_word}
use Rattle.pm_image.proofs.Gathering.{entries_by_number, entry_at}
use Rattle.pm_image.proofs.Redoing.{entries_unsealed}
use Rattle.pm_reopen.specs.Plan.{restores, store_of, writes}
use Rattle.pm_reopen.proofs.Inside.{all_parts}
use Rattle.pm_reopen.proofs.Surviving.{for_word}

-- the record is of words that are whole, 4 at most
pub record IsWhole (u : Undo) : Type 0 where
  pub aligned : u.place % 8 ≡ 0
  pub few : u.count ≤ 4

module _ (u : Undo) (i : ℕ) where
  abbrev p : ℕ
  p = u.place / 8

  abbrev each : ℕ → Redo
  each k = store_of (p + k) (slice_index u.old k)

  outside : (a n : ℕ) → (i < p + a) ⊎ (p + a + n ≤ i) → for_word i (map each (range_with_len a n)) ≡ []
  outside a zero out = refl
  outside a (suc n) out =
      let apart : 8 * (p + a) / 8 ≢ i = λ same. ⊎_elim (λ (low : i < p + a). omega (arith, same, low)) (λ (high : p + a + suc n ≤ i). omega (arith, same, high)) out in
      ap (λ (b : Bool). cond b (each a ∷ for_word i (map each (range_with_len (a + 1) n))) (for_word i (map each (range_with_len (a + 1) n)))) (ne_eqb (8 * (p + a) / 8) i apart)
      ∙ outside (a + 1) n (⊎_elim (λ (low : i < p + a). inl (omega (arith, low))) (λ (high : p + a + suc n ≤ i). inr (omega (arith, high))) out)

  inside : (a n : ℕ) → p + a ≤ i → i < p + a + n → for_word i (map each (range_with_len a n)) ≡ each (i - p) ∷ []
  inside a zero from to = absurd (omega (arith, from, to))
  inside a (suc n) from to = ⊎_elim
      (λ (here : i ≡ p + a).
      let number : a ≡ i - p = omega (arith, here) in
      ap (λ (b : Bool). cond b (each a ∷ for_word i (map each (range_with_len (a + 1) n))) (for_word i (map each (range_with_len (a + 1) n)))) (eq-eqb (8 * (p + a) / 8) i (omega (arith, here)))
      ∙ ap (λ (es : List Redo). each a ∷ es) (outside (a + 1) n (inl (omega (arith, here)))) ∙ ap (λ (k : ℕ). each k ∷ []) number)
      (λ (apart : i ≢ p + a).
      ap (λ (b : Bool). cond b (each a ∷ for_word i (map each (range_with_len (a + 1) n))) (for_word i (map each (range_with_len (a + 1) n)))) (ne_eqb (8 * (p + a) / 8) i (λ same. apart (omega (arith, same))))
      ∙ inside (a + 1) n (omega (arith, from, apart)) (omega (arith, to)))
      (cases_eq i (p + a))

  covers_inside : IsWhole u → p ≤ i → i < p + u.count → covers u (8 * i) ≡ true
  covers_inside whole from to =
      let aligned = whole.aligned in let few = whole.few in
      and_from (leb u.place (8 * i) && ltb ((8 * i - u.place) / 8) u.count && ltb ((8 * i - u.place) / 8) 4) (eqb ((8 * i - u.place) % 8) 0)
      (and_from (leb u.place (8 * i) && ltb ((8 * i - u.place) / 8) u.count) (ltb ((8 * i - u.place) / 8) 4)
      (and_from (leb u.place (8 * i)) (ltb ((8 * i - u.place) / 8) u.count) (le-leb u.place (8 * i) (omega (arith, aligned, from))) (lt-ltb ((8 * i - u.place) / 8) u.count (omega (arith, aligned, from, to))))
      (lt-ltb ((8 * i - u.place) / 8) 4 (omega (arith, aligned, from, to, few))))
      (eq-eqb ((8 * i - u.place) % 8) 0 (omega (arith, aligned, from)))

  covers_below : IsWhole u → i < p → covers u (8 * i) ≡ false
  covers_below whole low =
      let aligned = whole.aligned in
      and_left (leb u.place (8 * i) && ltb ((8 * i - u.place) / 8) u.count && ltb ((8 * i - u.place) / 8) 4) (eqb ((8 * i - u.place) % 8) 0)
      (and_left (leb u.place (8 * i) && ltb ((8 * i - u.place) / 8) u.count) (ltb ((8 * i - u.place) / 8) 4)
      (and_left (leb u.place (8 * i)) (ltb ((8 * i - u.place) / 8) u.count) (lt-leb u.place (8 * i) (omega (arith, aligned, low)))))

  covers_above : IsWhole u → p + u.count ≤ i → covers u (8 * i) ≡ false
  covers_above whole high =
      let aligned = whole.aligned in
      and_left (leb u.place (8 * i) && ltb ((8 * i - u.place) / 8) u.count && ltb ((8 * i - u.place) / 8) 4) (eqb ((8 * i - u.place) % 8) 0)
      (and_left (leb u.place (8 * i) && ltb ((8 * i - u.place) / 8) u.count) (ltb ((8 * i - u.place) / 8) 4)
      (and_right (leb u.place (8 * i)) (ltb ((8 * i - u.place) / 8) u.count) (le-ltb ((8 * i - u.place) / 8) u.count (omega (arith, aligned, high)))))

  -- what the record stores in the word
  pub one_for : IsWhole u → for_word i (restores u) ≡ map (λ (v : Undo). store_of i (old_word v (8 * i))) (filter (λ (v : Undo). covers v (8 * i)) (u ∷ []))
  one_for whole = ⊎_elim
      (λ (low : i < p). outside 0 u.count (inl (omega (arith, low))) ∙ sym (none (covers_below whole low)))
      (λ (from : p ≤ i). ⊎_elim
      (λ (to : i < p + u.count).
      let aligned = whole.aligned in
      let word : p + (i - p) ≡ i = omega (arith, from) in
      let number : i - p ≡ (8 * i - u.place) / 8 = omega (arith, aligned, from) in
      inside 0 u.count (omega (arith, from)) (omega (arith, to)) ∙ (λ j. store_of (word j) (slice_index u.old (number j)) ∷ []) ∙ sym (some (covers_inside whole from to)))
      (λ (high : p + u.count ≤ i). outside 0 u.count (inr (omega (arith, high))) ∙ sym (none (covers_above whole high)))
      (cases_lt i (p + u.count)))
      (cases_lt i p) where
        none : covers u (8 * i) ≡ false → map (λ (v : Undo). store_of i (old_word v (8 * i))) (filter (λ (v : Undo). covers v (8 * i)) (u ∷ [])) ≡ []
        none is = ap (λ (b : Bool). map (λ (v : Undo). store_of i (old_word v (8 * i))) (cond b (u ∷ []) [])) is

        some : covers u (8 * i) ≡ true → map (λ (v : Undo). store_of i (old_word v (8 * i))) (filter (λ (v : Undo). covers v (8 * i)) (u ∷ [])) ≡ store_of i (old_word u (8 * i)) ∷ []
        some is = ap (λ (b : Bool). map (λ (v : Undo). store_of i (old_word v (8 * i))) (cond b (u ∷ []) [])) is

-- and records: the old words of those that cover it
pub all_for : (us : List Undo) (i : ℕ) → All IsWhole us → for_word i (flat_map restores us) ≡ map (λ (v : Undo). store_of i (old_word v (8 * i))) (filter (λ (v : Undo). covers v (8 * i)) us)
all_for [] i all = refl
all_for (u ∷ us) i all =
    let stores : Undo → Redo = λ v. store_of i (old_word v (8 * i)) in
    let test : Undo → Bool = λ v. covers v (8 * i) in
    filter-append (λ (e : Redo). eqb (e.place / 8) i) (restores u) (flat_map restores us)
    ∙ (λ j. one_for u i (All-head IsWhole u us all) j ++ all_for us i (All-tail IsWhole u us all) j)
    ∙ sym (map-append stores (filter test (u ∷ [])) (filter test us))
    ∙ ap (map stores) (sym (filter-append test (u ∷ []) us))

-- ---- entries

-- the entry's place is a word's
pub aligned_entry : (pair : List ℕ) (e : Redo) → redo_of pair ≡ Some e → e.place % 8 ≡ 0
aligned_entry pair e is = go (op_of (slice_index pair 0 % 8)) is where
  go : (o : Option Op) → option_map (λ op. record { place = slice_index pair 0 / 8 * 8; op = op; value = slice_index pair 1 }) o ≡ Some e → e.place % 8 ≡ 0
  go None none = absurd cc
  go (Some op) some = let same : slice_index pair 0 / 8 * 8 ≡ e.place = cc in omega (arith, same)

entries_aligned : (image : List ℕ) (lane : ℕ) → All (λ (e : Redo). e.place % 8 ≡ 0) (entries image lane)
entries_aligned image lane = ⊎_elim
    (λ (sealed : is_sealed image lane ≡ true).
    subst (All (λ (e : Redo). e.place % 8 ≡ 0)) (sym (entries_by_number image lane sealed))
    (all_parts (λ (e : Redo). e.place % 8 ≡ 0) (entry_at image lane) 0 (seal_word image lane) (λ i from to. one (redo_of (entry_pair image lane i)) (λ e is. aligned_entry (entry_pair image lane i) e is))))
    (λ (unsealed : is_sealed image lane ≡ false). subst (All (λ (e : Redo). e.place % 8 ≡ 0)) (sym (entries_unsealed image lane unsealed)) (All-nil (λ (e : Redo). e.place % 8 ≡ 0)))
    (cases_Bool (is_sealed image lane)) where
      one : (o : Option Redo) → ((e : Redo) → o ≡ Some e → e.place % 8 ≡ 0) → All (λ (e : Redo). e.place % 8 ≡ 0) (option_to_list o)
      one None aligned = All-nil (λ (e : Redo). e.place % 8 ≡ 0)
      one (Some e) aligned = All-cons (λ (f : Redo). f.place % 8 ≡ 0) e [] (aligned e refl) (All-nil (λ (f : Redo). f.place % 8 ≡ 0))

same_test : (place i : ℕ) → place % 8 ≡ 0 → eqb (place / 8) i ≡ eqb place (8 * i)
same_test place i aligned = ⊎_elim
    (λ (same : place ≡ 8 * i). eq-eqb (place / 8) i (omega (arith, same)) ∙ sym (eq-eqb place (8 * i) same))
    (λ (apart : place ≢ 8 * i). ne_eqb (place / 8) i (λ same. apart (omega (arith, same, aligned))) ∙ sym (ne_eqb place (8 * i) apart))
    (cases_eq place (8 * i))

by_place : (es : List Redo) (i : ℕ) → All (λ (e : Redo). e.place % 8 ≡ 0) es → for_word i es ≡ filter (λ (e : Redo). eqb e.place (8 * i)) es
by_place [] i all = refl
by_place (e ∷ es) i all =
    let rest = by_place es i (All-tail (λ (f : Redo). f.place % 8 ≡ 0) e es all) in
    let here = same_test e.place i (All-head (λ (f : Redo). f.place % 8 ≡ 0) e es all) in
    (λ j. cond (here j) (e ∷ rest j) (rest j))

pub entries_for_word : (image : List ℕ) (lane i : ℕ) → for_word i (entries image lane) ≡ filter (λ (e : Redo). eqb e.place (8 * i)) (entries image lane)
entries_for_word image lane i = by_place (entries image lane) i (entries_aligned image lane)

-- a lane's log: what its records store in the word, then its entries for it
pub writes_for : (image : List ℕ) (lane i : ℕ) → All IsWhole (records image lane)
    → for_word i (writes image lane) ≡ map (λ (v : Undo). store_of i (old_word v (8 * i))) (filter (λ (v : Undo). covers v (8 * i)) (records image lane)) ++ filter (λ (e : Redo). eqb e.place (8 * i)) (entries image lane)
unfolding writes
writes_for image lane i whole =
    filter-append (λ (e : Redo). eqb (e.place / 8) i) (flat_map restores (records image lane)) (entries image lane)
    ∙ (λ j. all_for (records image lane) i whole j ++ entries_for_word image lane i j)
