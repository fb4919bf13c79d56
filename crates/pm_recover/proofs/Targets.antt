-- What the entries of sealed lanes change, where none of them has a fault.
use Rattle.std.proofs.Common.{◌≡◌, ◌≢◌, ◌⊎◌, ⊎_elim, inl, inr, ℕ, zero, suc, ◌+◌, ◌-◌, ◌*◌, ◌/◌, ◌%◌, ◌<◌, ◌≤◌, ◌&&◌, ◌||◌, Bool, true, false, not, cond, eqb, leb, ltb, List, [], ◌∷◌, ◌++◌, slice_index, Option, None, Some, refl, sym, ◌∙◌, ap, arith}
use Rattle.std.specs.List.{cons_option, filter, filter_map, flat_map, range_with_len}
use Rattle.std.specs.Option.{option_map}
use Rattle.std.proofs.lemmas.Bool.{and_left, and_parts, cases_eq, cases_lt, eq-eqb, eqb-true, false≢true, leb-true, lt-leb, lt-ltb, ne_eqb, not-false, or_from}
use Rattle.std.proofs.lemmas.List.Elements.{filter-append}
use Rattle.pm_record.specs.Redo.{op_of, redo_of}
use Rattle.pm_record.specs.declared.redo.Redo.{Redo}
use Rattle.pm_record.specs.declared.redo.Op.{Op}
use Rattle.pm_image.specs.Logs.{area_word, entries, entries_for, entry_pair, generation, generation_word, is_sealed, seal_word}
use Rattle.pm_image.specs.LogFaults.{bad_entry, ends_log, good_entry, in_chunk, in_descriptors, is_set, is_target, zones_word}
use Rattle.pm_image.proofs.Redoing.{entries_sealed, entries_unsealed, sealed_few}
use Rattle.pm_recover.proofs.Slots.{generation_sealed}

-- no entry of so many lanes has a fault
abbrev pub NoBadEntry : List ℕ → ℕ → ℕ → Type 0
NoBadEntry image lanes zones = (n : ℕ) → n < 64 * lanes → bad_entry image lanes zones (n / 64) (n % 64) ≡ false

-- an entry below the seal is a good one
entry_good : (image : List ℕ) (lanes zones lane i : ℕ) → NoBadEntry image lanes zones → lane < lanes → is_sealed image lane ≡ true → i < seal_word image lane
    → good_entry image lanes zones lane i (redo_of (entry_pair image lane i)) ≡ true
entry_good image lanes zones lane i none inside sealed below =
    let few : seal_word image lane ≤ 64 = sealed_few image lane sealed in
    let n : ℕ = 64 * lane + i in
    let is_lane : lane ≡ (64 * lane + i) / 64 = omega arith in
    let is_entry : i ≡ (64 * lane + i) % 64 = omega arith in
    let good : Bool = good_entry image lanes zones lane i (redo_of (entry_pair image lane i)) in
    let passes : bad_entry image lanes zones lane i ≡ false = (λ j. bad_entry image lanes zones (is_lane j) (is_entry j)) ∙ none (64 * lane + i) (omega arith) in
    not-false good (sym (λ j. (sealed j && lt-ltb i (seal_word image lane) below j) && not good) ∙ passes)

-- what the last entry sets
ends_parts : (image : List ℕ) (lane : ℕ) (e : Redo) → ends_log image lane e ≡ true → (2 ≤ e.value) × (e.value ≤ 4611686018427387904) × (e.place ≡ 8 * area_word lane)
ends_parts image lane e ends =
    let near : Bool = eqb (generation_word image lane) e.value || eqb (generation_word image lane + 1) e.value in
    let first = and_parts (is_set e.op && eqb e.place (8 * area_word lane) && leb 2 e.value && leb e.value 4611686018427387904) near ends in
    let second = and_parts (is_set e.op && eqb e.place (8 * area_word lane) && leb 2 e.value) (leb e.value 4611686018427387904) first.0 in
    let third = and_parts (is_set e.op && eqb e.place (8 * area_word lane)) (leb 2 e.value) second.0 in
    let fourth = and_parts (is_set e.op) (eqb e.place (8 * area_word lane)) third.0 in
    (leb-true 2 e.value third.1, leb-true e.value 4611686018427387904 second.1, eqb-true e.place (8 * area_word lane) fourth.1)

value_in : Option Redo → ℕ
value_in None = 0
value_in (Some e) = e.value

value_of : (pair : List ℕ) (e : Redo) → redo_of pair ≡ Some e → e.value ≡ slice_index pair 1
unfolding value_in
value_of pair e is = go (op_of (slice_index pair 0 % 8)) is where
  go : (o : Option Op) → option_map (λ op. record { place = slice_index pair 0 / 8 * 8; op = op; value = slice_index pair 1 }) o ≡ Some e → e.value ≡ slice_index pair 1
  go None none = absurd cc
  go (Some op) some = ap value_in (sym some)

last_good : (image : List ℕ) (lanes zones lane i : ℕ) (o : Option Redo) → i + 1 ≡ seal_word image lane → good_entry image lanes zones lane i o ≡ true → (e : Redo) × ((o ≡ Some e) × (ends_log image lane e ≡ true))
last_good image lanes zones lane i None last good = absurd cc
last_good image lanes zones lane i (Some e) last good =
    (e, (refl, sym (ap (λ (b : Bool). cond b (ends_log image lane e) (is_target lanes zones (e.place / 8))) (eq-eqb (i + 1) (seal_word image lane) last)) ∙ good))

-- a sealed lane's generation is 2 to 2^62
pub last_sets : (image : List ℕ) (lanes zones lane : ℕ) → NoBadEntry image lanes zones → lane < lanes → is_sealed image lane ≡ true → (2 ≤ generation image lane) × (generation image lane ≤ 4611686018427387904)
last_sets image lanes zones lane none inside sealed =
    let s : ℕ = seal_word image lane in
    let some : 1 ≤ seal_word image lane = leb-true 1 s (and_parts (leb 1 s) (leb s 64) sealed).0 in
    let last : seal_word image lane - 1 + 1 ≡ seal_word image lane = omega arith in
    let good = last_good image lanes zones lane (seal_word image lane - 1) (redo_of (entry_pair image lane (seal_word image lane - 1))) last (entry_good image lanes zones lane (seal_word image lane - 1) none inside sealed (omega arith)) in
    let ends = ends_parts image lane good.0 good.1.1 in
    let place : area_word lane + 7 + 2 * seal_word image lane ≡ area_word lane + 9 + 2 * (seal_word image lane - 1) = omega arith in
    let is : generation image lane ≡ good.0.value = generation_sealed image lane sealed ∙ ap (slice_index image) place ∙ sym (value_of (entry_pair image lane (seal_word image lane - 1)) good.0 good.1.0) in
    (omega (arith, is, ends.0), omega (arith, is, ends.1))

-- a target is the root's word, or behind the lanes
target_parts : (lanes zones word : ℕ) → is_target lanes zones word ≡ true → (word ≡ 64) ⊎ (zones_word lanes ≤ word)
target_parts lanes zones word is = ⊎_elim
    (λ (early : word < zones_word lanes). ⊎_elim
    (λ (root : word ≡ 64). inl root)
    (λ (other : word ≢ 64). absurd (false≢true (sym (or_from (eqb word 64 || in_descriptors lanes zones word) (in_chunk lanes zones word)
    (or_from (eqb word 64) (in_descriptors lanes zones word) (ne_eqb word 64 other) (before_descriptors early)) (before_chunk early)) ∙ is)))
    (cases_eq word 64))
    (λ (behind : zones_word lanes ≤ word). inr behind)
    (cases_lt word (zones_word lanes)) where
      before_descriptors : word < zones_word lanes → in_descriptors lanes zones word ≡ false
      before_descriptors early =
          and_left (leb (zones_word lanes) word && ltb ((word - zones_word lanes) / 33280) zones) (ltb ((word - zones_word lanes) % 33280) 64)
          (and_left (leb (zones_word lanes) word) (ltb ((word - zones_word lanes) / 33280) zones) (lt-leb (zones_word lanes) word early))

      before_chunk : word < zones_word lanes → in_chunk lanes zones word ≡ false
      before_chunk early =
          and_left (leb (zones_word lanes) word && ltb ((word - zones_word lanes) / 33280) zones) (leb 512 ((word - zones_word lanes) % 33280))
          (and_left (leb (zones_word lanes) word) (ltb ((word - zones_word lanes) / 33280) zones) (lt-leb (zones_word lanes) word early))

-- so a good entry is for no other word of the header page
good_elsewhere : (image : List ℕ) (lanes zones lane k i : ℕ) (e : Redo) → good_entry image lanes zones lane k (Some e) ≡ true → i < 512 → i ≢ 64 → eqb e.place (8 * i) ≡ false
good_elsewhere image lanes zones lane k i e good low other = go (eqb (k + 1) (seal_word image lane)) refl where
  go : (b : Bool) → eqb (k + 1) (seal_word image lane) ≡ b → eqb e.place (8 * i) ≡ false
  go true last =
      let ends = ends_parts image lane e (sym (ap (λ (b : Bool). cond b (ends_log image lane e) (is_target lanes zones (e.place / 8))) last) ∙ good) in
      ne_eqb e.place (8 * i) (λ same. omega (arith, same, ends.2))
  go false before =
      let target = target_parts lanes zones (e.place / 8) (sym (ap (λ (b : Bool). cond b (ends_log image lane e) (is_target lanes zones (e.place / 8))) before) ∙ good) in
      ne_eqb e.place (8 * i) (λ same. ⊎_elim (λ (root : e.place / 8 ≡ 64). omega (arith, same, root, other)) (λ (behind : zones_word lanes ≤ e.place / 8). omega (arith, same, behind)) target)

nothing_first : (p : Redo → Bool) (o : Option Redo) (es : List Redo) → ((e : Redo) → o ≡ Some e → p e ≡ false) → filter p es ≡ [] → filter p (cons_option o es) ≡ []
nothing_first p None es fails rest = rest
nothing_first p (Some e) es fails rest = ap (λ (b : Bool). cond b (e ∷ filter p es) (filter p es)) (fails e refl) ∙ rest

nothing_mapped : (p : Redo → Bool) (h : ℕ → Option Redo) (a n : ℕ) → ((k : ℕ) (e : Redo) → a ≤ k → k < a + n → h k ≡ Some e → p e ≡ false) → filter p (filter_map h (range_with_len a n)) ≡ []
nothing_mapped p h a zero fails = refl
nothing_mapped p h a (suc n) fails =
    nothing_first p (h a) (filter_map h (range_with_len (a + 1) n)) (λ e is. fails a e (omega arith) (omega arith) is) (nothing_mapped p h (a + 1) n (λ k e from to. fails k e (omega arith) (omega arith)))

nothing_gathered : (p : Redo → Bool) (f : ℕ → List Redo) (a n : ℕ) → ((k : ℕ) → a ≤ k → k < a + n → filter p (f k) ≡ []) → filter p (flat_map f (range_with_len a n)) ≡ []
nothing_gathered p f a zero none = refl
nothing_gathered p f a (suc n) none =
    filter-append p (f a) (flat_map f (range_with_len (a + 1) n))
    ∙ (λ j. none a (omega arith) (omega arith) j ++ nothing_gathered p f (a + 1) n (λ k from to. none k (omega arith) (omega arith)) j)

none_in_lane : (image : List ℕ) (lanes zones lane i : ℕ) → NoBadEntry image lanes zones → lane < lanes → i < 512 → i ≢ 64 → filter (λ (e : Redo). eqb e.place (8 * i)) (entries image lane) ≡ []
none_in_lane image lanes zones lane i none inside low other = go (is_sealed image lane) refl where
  go : (b : Bool) → is_sealed image lane ≡ b → filter (λ (e : Redo). eqb e.place (8 * i)) (entries image lane) ≡ []
  go true sealed =
      ap (filter (λ (e : Redo). eqb e.place (8 * i))) (sym (entries_sealed image lane sealed))
      ∙ nothing_mapped (λ e. eqb e.place (8 * i)) (λ k. redo_of (entry_pair image lane k)) 0 (seal_word image lane) (λ k e from to is.
      good_elsewhere image lanes zones lane k i e (sym (ap (good_entry image lanes zones lane k) is) ∙ entry_good image lanes zones lane k none inside sealed (omega arith)) low other)
  go false unsealed = ap (filter (λ (e : Redo). eqb e.place (8 * i))) (entries_unsealed image lane unsealed)

-- no entry is for a word of the header page but the root's
pub record HasHeaderKept (image : List ℕ) (lanes : ℕ) : Type 0 where
  pub kept : (i : ℕ) → i < 512 → i ≢ 64 → entries_for image lanes (8 * i) ≡ []

none_for : (image : List ℕ) (lanes zones i : ℕ) → NoBadEntry image lanes zones → i < 512 → i ≢ 64 → entries_for image lanes (8 * i) ≡ []
unfolding entries_for
none_for image lanes zones i none low other =
    nothing_gathered (λ (e : Redo). eqb e.place (8 * i)) (entries image) 0 lanes (λ lane from to. none_in_lane image lanes zones lane i none (omega arith) low other)

pub header_kept : (image : List ℕ) (lanes zones : ℕ) → NoBadEntry image lanes zones → HasHeaderKept image lanes
header_kept image lanes zones none = record { kept = λ i low other. none_for image lanes zones i none low other }
