-- An image whose logs say the same as another's, or less, has no fault in them where that has none,
-- and means the same, where the recovered words are the same.
use Rattle.std.proofs.Common.{◌≡◌, ◌≢◌, ◌⊎◌, ⊎_elim, inl, inr, ℕ, zero, suc, ◌+◌, ◌*◌, ◌/◌, ◌%◌, ◌<◌, ◌≤◌, ◌&&◌, ◌||◌, Bool, true, false, cond, not, eqb, leb, ltb, List, [], ◌∷◌, ◌++◌, length, length-append, take, drop, slice_index, bit_and, Option, Some, None, refl, sym, ◌∙◌, ap, subst, arith}
use Rattle.std.specs.List.{filter, filter_map, find, flat_map, list_any, range_with_len}
use Rattle.std.specs.Option.{option_map, option_map_or, option_or, option_to_list}
use Rattle.std.specs.Int.Bits.{and_zero_l, and_zero_r}
use Rattle.std.proofs.lemmas.Bool.{and_from, and_left, and_parts, cases_Bool, cases_eq, cases_lt, eq-eqb, false≢true, lt-ltb, ltb-false, not_from_true, or_from, or_parts, le-ltb}
use Rattle.std.proofs.lemmas.List.{ext_get_or, get_or-drop, get_or-take, length-drop, length-take}
use Rattle.std.proofs.lemmas.List.Elements.{filter-append}
use Rattle.pm_record.specs.Redo.{redo_of}
use Rattle.pm_record.specs.declared.redo.Redo.{Redo}
use Rattle.pm_record.specs.declared.undo.Undo.{Undo}
use Rattle.pm_objects.specs.declared.pool.PoolView.{PoolView}
use Rattle.pm_image.specs.declared.fault.ImageFault.{ImageFault}
use Rattle.pm_image.specs.declared.fault.ImageFault.TheVariants as fault
use Rattle.pm_image.specs.Logs.{area_word, covers, entries, entries_for, entry_pair, is_sealed, recovered, recovered_at, records, seal_word}
use Rattle.pm_image.specs.LogFaults.{bad_entry, bad_slot, bits_of, clash_fault, clashes, good_entry, good_lane, good_record, lane_fault, lane_mask, lanes_clash, log_fault, records_for, redo_fault, undo_fault}
use Rattle.pm_image.specs.HeapFaults.{heap_fault}
use Rattle.pm_image.specs.Means.{HasShape, IsMeaning, page}
use Rattle.pm_image.specs.Reads.{AgreeInMeaning, IsHeapWord}
use Rattle.pm_image.specs.Steps.{valid_record}
use Rattle.pm_image.proofs.FaultFree.{neither}
use Rattle.pm_image.proofs.Finding.{found_nothing}
use Rattle.pm_image.proofs.Firsts.{fails_at_each, none_passes}
use Rattle.pm_image.proofs.Gathering.{record_at, records_by_number}
use Rattle.pm_image.proofs.HeapWords.{reads_heap}
use Rattle.pm_image.proofs.InPlace.{recovered_in_place}
use Rattle.pm_image.proofs.LocalMeaning.{meaning_local}
use Rattle.pm_image.proofs.Redoing.{entries_sealed, entries_unsealed, sealed_few}
use Rattle.pm_recover.proofs.Areas.{SameLane, same_records, same_sealed, same_valid}
use Rattle.pm_recover.proofs.Sound.{logs_of_meaning}

-- ---- the rows

pub record HasNoLogFault (image : List ℕ) (lanes zones : ℕ) : Type 0 where
  pub lane_row : (lane : ℕ) → lane < lanes → good_lane image lane ≡ true
  pub entry_row : (n : ℕ) → n < 64 * lanes → bad_entry image lanes zones (n / 64) (n % 64) ≡ false
  pub slot_row : (n : ℕ) → n < 64 * lanes → bad_slot image lanes zones (n / 64) (n % 64) ≡ false
  pub clash_row : (i : ℕ) → i < length image → clashes image lanes (8 * i) ≡ false

true_from_not : (b : Bool) → not b ≡ false → b ≡ true
true_from_not true is = refl
true_from_not false is = absurd cc

pub rows_of : (image : List ℕ) (lanes zones : ℕ) → log_fault image lanes zones ≡ None → HasNoLogFault image lanes zones
unfolding log_fault lane_fault redo_fault undo_fault clash_fault
rows_of image lanes zones none =
    let third : Option ImageFault = option_or (undo_fault image lanes zones) (clash_fault image lanes) in
    let one = neither (lane_fault image lanes) (option_or (redo_fault image lanes zones) third) none in
    let two = neither (redo_fault image lanes zones) third one.1 in
    let three = neither (undo_fault image lanes zones) (clash_fault image lanes) two.1 in
    record {
      lane_row = λ lane inside. true_from_not (good_lane image lane) (fails_at_each (λ k. not (good_lane image k)) lanes (found_nothing fault.Lane (find (λ k. not (good_lane image k)) (range_with_len 0 lanes)) one.0) lane inside);
      entry_row = fails_at_each (λ n. bad_entry image lanes zones (n / 64) (n % 64)) (64 * lanes) (found_nothing (λ n. fault.Redo (n / 64) (n % 64)) (find (λ n. bad_entry image lanes zones (n / 64) (n % 64)) (range_with_len 0 (64 * lanes))) two.0);
      slot_row = fails_at_each (λ n. bad_slot image lanes zones (n / 64) (n % 64)) (64 * lanes) (found_nothing (λ n. fault.Undo (n / 64) (n % 64)) (find (λ n. bad_slot image lanes zones (n / 64) (n % 64)) (range_with_len 0 (64 * lanes))) three.0);
      clash_row = fails_at_each (λ i. clashes image lanes (8 * i)) (length image) (found_nothing (λ i. fault.Clash (8 * i)) (find (λ i. clashes image lanes (8 * i)) (range_with_len 0 (length image))) three.1);
    }

pub none_from_rows : (image : List ℕ) (lanes zones : ℕ) → HasNoLogFault image lanes zones → log_fault image lanes zones ≡ None
unfolding log_fault lane_fault redo_fault undo_fault clash_fault
none_from_rows image lanes zones rows =
    let one = none_passes (λ k. not (good_lane image k)) lanes (λ lane inside. not_from_true (good_lane image lane) (rows.lane_row lane inside)) in
    let two = none_passes (λ n. bad_entry image lanes zones (n / 64) (n % 64)) (64 * lanes) rows.entry_row in
    let three = none_passes (λ n. bad_slot image lanes zones (n / 64) (n % 64)) (64 * lanes) rows.slot_row in
    let four = none_passes (λ i. clashes image lanes (8 * i)) (length image) rows.clash_row in
    (λ j. option_or (option_map fault.Lane (one j)) (option_or (option_map (λ n. fault.Redo (n / 64) (n % 64)) (two j)) (option_or (option_map (λ n. fault.Undo (n / 64) (n % 64)) (three j)) (option_map (λ i. fault.Clash (8 * i)) (four j)))))

-- ---- a lane that is the same

pub same_entries : (X J : List ℕ) (lane : ℕ) → SameLane X J lane → entries X lane ≡ entries J lane
unfolding entries
same_entries X J lane same = go (is_sealed X lane) refl where
  pair_same : (i : ℕ) → i < seal_word X lane → is_sealed X lane ≡ true → entry_pair X lane i ≡ entry_pair J lane i
  pair_same i below sealed =
      let few = sealed_few X lane sealed in
      let one = same.log.same (area_word lane + 8 + 2 * i) (omega arith) (omega (arith, below, few)) in
      let two = same.log.same (area_word lane + 9 + 2 * i) (omega arith) (omega (arith, below, few)) in
      (λ j. one j ∷ two j ∷ [])

  read : List ℕ → ℕ → List Redo
  read image n = filter_map (λ i. redo_of (entry_pair image lane i)) (range_with_len 0 n)

  mapped : (f g : ℕ → Option Redo) (a n : ℕ) → ((i : ℕ) → a ≤ i → i < a + n → f i ≡ g i) → filter_map f (range_with_len a n) ≡ filter_map g (range_with_len a n)
  mapped f g a zero each = refl
  mapped f g a (suc n) each =
      let here = each a (omega arith) (omega arith) in
      let rest = mapped f g (a + 1) n (λ i from to. each i (omega (arith, from)) (omega (arith, to))) in
      (λ j. Rattle.std.specs.List.cons_option (here j) (rest j))

  go : (b : Bool) → is_sealed X lane ≡ b → entries X lane ≡ entries J lane
  go true sealed =
      sym (entries_sealed X lane sealed)
      ∙ mapped (λ i. redo_of (entry_pair X lane i)) (λ i. redo_of (entry_pair J lane i)) 0 (seal_word X lane) (λ i from to. ap redo_of (pair_same i (omega (arith, to)) sealed))
      ∙ ap (read J) same.seal
      ∙ entries_sealed J lane (sym (same_sealed X J lane same) ∙ sealed)
  go false unsealed = entries_unsealed X lane unsealed ∙ sym (entries_unsealed J lane (sym (same_sealed X J lane same) ∙ unsealed))

same_good : (X J : List ℕ) (lane : ℕ) → SameLane X J lane → good_lane X lane ≡ good_lane J lane
unfolding good_lane
same_good X J lane same = (λ j. leb 1 (same.generation j) && leb (same.generation j) 4611686018427387904 && leb (same.seal j) 64)

same_bad : (X J : List ℕ) (lanes zones lane i : ℕ) → SameLane X J lane → bad_entry X lanes zones lane i ≡ false → bad_entry J lanes zones lane i ≡ false
same_bad X J lanes zones lane i same none = ⊎_elim
    (λ (sealed : is_sealed X lane ≡ true). ⊎_elim
    (λ (below : i < seal_word X lane).
    let few = sealed_few X lane sealed in
    let one = same.log.same (area_word lane + 8 + 2 * i) (omega arith) (omega (arith, below, few)) in
    let two = same.log.same (area_word lane + 9 + 2 * i) (omega arith) (omega (arith, below, few)) in
    let pair : entry_pair X lane i ≡ entry_pair J lane i = (λ j. one j ∷ two j ∷ []) in
    sym (whole pair) ∙ none)
    (λ (past : seal_word X lane ≤ i).
    let seal = same.seal in
    and_left (is_sealed J lane && ltb i (seal_word J lane)) (not (good_entry J lanes zones lane i (redo_of (entry_pair J lane i))))
    (Rattle.std.proofs.lemmas.Bool.and_right (is_sealed J lane) (ltb i (seal_word J lane)) (le-ltb i (seal_word J lane) (omega (arith, past, seal)))))
    (cases_lt i (seal_word X lane)))
    (λ (unsealed : is_sealed X lane ≡ false).
    and_left (is_sealed J lane && ltb i (seal_word J lane)) (not (good_entry J lanes zones lane i (redo_of (entry_pair J lane i))))
    (and_left (is_sealed J lane) (ltb i (seal_word J lane)) (sym (same_sealed X J lane same) ∙ unsealed)))
    (cases_Bool (is_sealed X lane)) where
      whole : entry_pair X lane i ≡ entry_pair J lane i → bad_entry X lanes zones lane i ≡ bad_entry J lanes zones lane i
      whole pair = (λ j. same_sealed X J lane same j && ltb i (same.seal j) && not (judged (redo_of (pair j)) j)) where
        judged : (o : Option Redo) → good_entry X lanes zones lane i o ≡ good_entry J lanes zones lane i o
        judged None = refl
        judged (Some e) = (λ j. cond (eqb (i + 1) (same.seal j)) (Rattle.pm_image.specs.LogFaults.is_set e.op && eqb e.place (8 * area_word lane) && leb 2 e.value && leb e.value 4611686018427387904 && (eqb (same.generation j) e.value || eqb (same.generation j + 1) e.value)) (Rattle.pm_image.specs.LogFaults.is_target lanes zones (e.place / 8)))

-- ---- lanes that say the same, and one that says less

pub record IsLess (X J : List ℕ) (lanes zones k : ℕ) : Type 0 where
  pub as_long : length J ≡ length X
  pub page_is : (i : ℕ) → i < 512 → i ≢ 64 → slice_index J i ≡ slice_index X i
  pub others : (lane : ℕ) → lane < lanes → lane ≢ k → SameLane X J lane
  pub entries_less : (entries J k ≡ entries X k) ⊎ (entries J k ≡ [])
  pub slots_less : (slot : ℕ) → slot < 64 → (valid_record J k slot ≡ valid_record X k slot) ⊎ (valid_record J k slot ≡ None)
  pub lane_good : good_lane J k ≡ true
  pub entries_good : (i : ℕ) → i < 64 → bad_entry J lanes zones k i ≡ false

less_parts : (p : Undo → Bool) (f g : ℕ → List Undo) (a n : ℕ) → ((s : ℕ) → a ≤ s → s < a + n → (g s ≡ f s) ⊎ (g s ≡ [])) → length (filter p (flat_map f (range_with_len a n))) ≤ 1
    → (filter p (flat_map g (range_with_len a n)) ≡ filter p (flat_map f (range_with_len a n))) ⊎ (filter p (flat_map g (range_with_len a n)) ≡ [])
less_parts p f g a zero each few = inl refl
less_parts p f g a (suc n) each few =
    let rest_f : List Undo = flat_map f (range_with_len (a + 1) n) in
    let rest_g : List Undo = flat_map g (range_with_len (a + 1) n) in
    let split_f : filter p (f a ++ rest_f) ≡ filter p (f a) ++ filter p rest_f = filter-append p (f a) rest_f in
    let split_g : filter p (g a ++ rest_g) ≡ filter p (g a) ++ filter p rest_g = filter-append p (g a) rest_g in
    let both = ap (λ (us : List Undo). length us) split_f ∙ length-append (filter p (f a)) (filter p rest_f) in
    let later = less_parts p f g (a + 1) n (λ s from to. each s (omega (arith, from)) (omega (arith, to))) (omega (arith, few, both)) in
    go (filter p (f a)) refl later (each a (omega arith) (omega arith)) split_f split_g where
      go : (xs : List Undo) → filter p (f a) ≡ xs → (filter p (flat_map g (range_with_len (a + 1) n)) ≡ filter p (flat_map f (range_with_len (a + 1) n))) ⊎ (filter p (flat_map g (range_with_len (a + 1) n)) ≡ []) → (g a ≡ f a) ⊎ (g a ≡ [])
          → filter p (f a ++ flat_map f (range_with_len (a + 1) n)) ≡ filter p (f a) ++ filter p (flat_map f (range_with_len (a + 1) n)) → filter p (g a ++ flat_map g (range_with_len (a + 1) n)) ≡ filter p (g a) ++ filter p (flat_map g (range_with_len (a + 1) n))
          → (filter p (flat_map g (range_with_len a (suc n))) ≡ filter p (flat_map f (range_with_len a (suc n)))) ⊎ (filter p (flat_map g (range_with_len a (suc n))) ≡ [])
      go [] none later here split_f split_g =
          let nothing : filter p (g a) ≡ [] = ⊎_elim (λ (same : g a ≡ f a). ap (filter p) same ∙ none) (λ (gone : g a ≡ []). ap (filter p) gone) here in
          ⊎_elim
          (λ (same : filter p (flat_map g (range_with_len (a + 1) n)) ≡ filter p (flat_map f (range_with_len (a + 1) n))). inl (split_g ∙ (λ j. nothing j ++ same j) ∙ sym (split_f ∙ ap (λ (us : List Undo). us ++ filter p (flat_map f (range_with_len (a + 1) n))) none)))
          (λ (gone : filter p (flat_map g (range_with_len (a + 1) n)) ≡ []). inr (split_g ∙ (λ j. nothing j ++ gone j)))
          later
      go (u ∷ xs) some later here split_f split_g =
          let long = ap (λ (us : List Undo). length us) (split_f ∙ ap (λ (us : List Undo). us ++ filter p (flat_map f (range_with_len (a + 1) n))) some) ∙ length-append (u ∷ xs) (filter p (flat_map f (range_with_len (a + 1) n))) in
          let none_f : filter p (flat_map f (range_with_len (a + 1) n)) ≡ [] = Rattle.std.proofs.lemmas.List.nil_from_length (filter p (flat_map f (range_with_len (a + 1) n))) (omega (arith, long, few)) in
          let none_g : filter p (flat_map g (range_with_len (a + 1) n)) ≡ [] = ⊎_elim (λ (same : filter p (flat_map g (range_with_len (a + 1) n)) ≡ filter p (flat_map f (range_with_len (a + 1) n))). same ∙ none_f) (λ (gone : filter p (flat_map g (range_with_len (a + 1) n)) ≡ []). gone) later in
          ⊎_elim
          (λ (same : g a ≡ f a). inl (split_g ∙ (λ j. filter p (same j) ++ none_g j) ∙ sym (split_f ∙ ap (λ (us : List Undo). filter p (f a) ++ us) none_f)))
          (λ (gone : g a ≡ []). inr (split_g ∙ (λ j. filter p (gone j) ++ none_g j)))
          here

-- the valid records of the lane that cover a word
pub record_less : (X J : List ℕ) (lanes zones k place : ℕ) → IsLess X J lanes zones k → length (filter (λ (u : Undo). covers u place) (records X k)) ≤ 1
    → (filter (λ (u : Undo). covers u place) (records J k) ≡ filter (λ (u : Undo). covers u place) (records X k)) ⊎ (filter (λ (u : Undo). covers u place) (records J k) ≡ [])
record_less X J lanes zones k place less few =
    let over : Undo → Bool = λ u. covers u place in
    let own_X = ap (filter over) (records_by_number X k) in
    let own_J = ap (filter over) (records_by_number J k) in
    let long = ap (λ (us : List Undo). length us) own_X in
    ⊎_elim
    (λ (same : filter over (flat_map (record_at J k) (range_with_len 0 64)) ≡ filter over (flat_map (record_at X k) (range_with_len 0 64))). inl (own_J ∙ same ∙ sym own_X))
    (λ (gone : filter over (flat_map (record_at J k) (range_with_len 0 64)) ≡ []). inr (own_J ∙ gone))
    (less_parts over (record_at X k) (record_at J k) 0 64
    (λ slot from to. ⊎_elim
    (λ (same : valid_record J k slot ≡ valid_record X k slot). inl (ap option_to_list same))
    (λ (gone : valid_record J k slot ≡ None). inr (ap option_to_list gone))
    (less.slots_less slot (omega (arith, to))))
    (omega (arith, few, long)))

-- ---- clashes

any_less : (p q : ℕ → Bool) (a n : ℕ) → ((k : ℕ) → a ≤ k → k < a + n → p k ≡ false → q k ≡ false) → list_any p (range_with_len a n) ≡ false → list_any q (range_with_len a n) ≡ false
any_less p q a zero each none = refl
any_less p q a (suc n) each none =
    let parts = or_parts (p a) (list_any p (range_with_len (a + 1) n)) none in
    or_from (q a) (list_any q (range_with_len (a + 1) n)) (each a (omega arith) (omega arith) parts.0)
    (any_less p q (a + 1) n (λ k from to. each k (omega (arith, from)) (omega (arith, to))) parts.1)

mask_less : (X J : List ℕ) (lanes zones k place lane : ℕ) → IsLess X J lanes zones k → lane < lanes → (lane_mask J place lane ≡ lane_mask X place lane) ⊎ (lane_mask J place lane ≡ 0)
unfolding lane_mask
mask_less X J lanes zones k place lane less inside = ⊎_elim
    (λ (own : lane ≡ k). ⊎_elim
    (λ (same : entries J k ≡ entries X k). inl (ap (mask_in J) own ∙ ap masked same ∙ sym (ap (mask_in X) own)))
    (λ (gone : entries J k ≡ []). inr (ap (mask_in J) own ∙ ap masked gone))
    less.entries_less)
    (λ (other : lane ≢ k). inl (ap masked (sym (same_entries X J lane (less.others lane inside other)))))
    (cases_eq lane k) where
      masked : List Redo → ℕ
      masked es = bits_of (filter (λ (e : Redo). eqb e.place place) es)

      mask_in : List ℕ → ℕ → ℕ
      mask_in image l = masked (entries image l)

apart_less : (a b c d : ℕ) → (c ≡ a) ⊎ (c ≡ 0) → (d ≡ b) ⊎ (d ≡ 0) → not (eqb (bit_and a b) 0) ≡ false → not (eqb (bit_and c d) 0) ≡ false
apart_less a b c d (inl one) (inl two) none = (λ j. not (eqb (bit_and (one j) (two j)) 0)) ∙ none
apart_less a b c d (inr one) two none = ap (λ (n : ℕ). not (eqb n 0)) (ap (λ (n : ℕ). bit_and n d) one ∙ and_zero_l d)
apart_less a b c d (inl one) (inr two) none = ap (λ (n : ℕ). not (eqb n 0)) (ap (bit_and c) two ∙ and_zero_r c)

lanes_less : (X J : List ℕ) (lanes zones k place : ℕ) → IsLess X J lanes zones k → lanes_clash X lanes place ≡ false → lanes_clash J lanes place ≡ false
unfolding lanes_clash
lanes_less X J lanes zones k place less none =
    any_less (λ b. list_any (λ a. not (eqb (bit_and (lane_mask X place a) (lane_mask X place b)) 0)) (range_with_len 0 b)) (λ b. list_any (λ a. not (eqb (bit_and (lane_mask J place a) (lane_mask J place b)) 0)) (range_with_len 0 b)) 0 lanes
    (λ b from to none_b. any_less (λ a. not (eqb (bit_and (lane_mask X place a) (lane_mask X place b)) 0)) (λ a. not (eqb (bit_and (lane_mask J place a) (lane_mask J place b)) 0)) 0 b
    (λ a low high. apart_less (lane_mask X place a) (lane_mask X place b) (lane_mask J place a) (lane_mask J place b) (mask_less X J lanes zones k place a less (omega (arith, high, to))) (mask_less X J lanes zones k place b less (omega (arith, to)))) none_b) none

-- so many at most, of records and of entries for a word
long_part : {A : Type 0} (p : A → Bool) (f : ℕ → List A) (lanes k : ℕ) → k < lanes → length (filter p (f k)) ≤ length (filter p (flat_map f (range_with_len 0 lanes)))
long_part p f lanes k inside = from 0 lanes (omega arith) (omega (arith, inside)) where
  from : (a n : ℕ) → a ≤ k → k < a + n → length (filter p (f k)) ≤ length (filter p (flat_map f (range_with_len a n)))
  from a zero low high = absurd (omega (arith, low, high))
  from a (suc n) low high =
      let both = ap (λ us. length us) (filter-append p (f a) (flat_map f (range_with_len (a + 1) n))) ∙ length-append (filter p (f a)) (filter p (flat_map f (range_with_len (a + 1) n))) in
      ⊎_elim
      (λ (later : a < k). let rest = from (a + 1) n (omega (arith, later)) (omega (arith, high)) in omega (arith, rest, both))
      (λ (here : k ≤ a). let same : a ≡ k = omega (arith, here, low) in let own = ap (λ (l : ℕ). length (filter p (f l))) same in omega (arith, own, both))
      (cases_lt a k)

shorter : {A : Type 0} (p : A → Bool) (f g : ℕ → List A) (a n : ℕ) → ((s : ℕ) → a ≤ s → s < a + n → length (filter p (g s)) ≤ length (filter p (f s))) → length (filter p (flat_map g (range_with_len a n))) ≤ length (filter p (flat_map f (range_with_len a n)))
shorter p f g a zero each = omega arith
shorter p f g a (suc n) each =
    let one = ap (λ us. length us) (filter-append p (f a) (flat_map f (range_with_len (a + 1) n))) ∙ length-append (filter p (f a)) (filter p (flat_map f (range_with_len (a + 1) n))) in
    let two = ap (λ us. length us) (filter-append p (g a) (flat_map g (range_with_len (a + 1) n))) ∙ length-append (filter p (g a)) (filter p (flat_map g (range_with_len (a + 1) n))) in
    let here = each a (omega arith) (omega arith) in
    let rest = shorter p f g (a + 1) n (λ s from to. each s (omega (arith, from)) (omega (arith, to))) in
    omega (arith, one, two, here, rest)

pub few_records : (X : List ℕ) (lanes place : ℕ) → clashes X lanes place ≡ false → length (records_for X lanes place) ≤ 1
unfolding clashes
few_records X lanes place none =
    let n : ℕ = length (records_for X lanes place) in
    let first = or_parts (ltb 1 n || (ltb 0 n && ltb 0 (length (entries_for X lanes place)))) (lanes_clash X lanes place) none in
    ltb-false 1 n (or_parts (ltb 1 n) (ltb 0 n && ltb 0 (length (entries_for X lanes place))) first.0).0

pub few_of_lane : (X : List ℕ) (lanes k place : ℕ) → k < lanes → length (records_for X lanes place) ≤ 1 → length (filter (λ (u : Undo). covers u place) (records X k)) ≤ 1
unfolding records_for
few_of_lane X lanes k place inside few = let part = long_part (λ (u : Undo). covers u place) (records X) lanes k inside in omega (arith, part, few)

clash_less : (X J : List ℕ) (lanes zones k place : ℕ) → IsLess X J lanes zones k → k < lanes → clashes X lanes place ≡ false → clashes J lanes place ≡ false
unfolding clashes records_for entries_for
clash_less X J lanes zones k place less near none =
    let over : Undo → Bool = λ (u : Undo). covers u place in
    let at : Redo → Bool = λ (e : Redo). eqb e.place place in
    let n : ℕ = length (filter over (flat_map (records X) (range_with_len 0 lanes))) in
    let m : ℕ = length (filter over (flat_map (records J) (range_with_len 0 lanes))) in
    let e : ℕ = length (filter at (flat_map (entries X) (range_with_len 0 lanes))) in
    let f : ℕ = length (filter at (flat_map (entries J) (range_with_len 0 lanes))) in
    let first = or_parts (ltb 1 n || (ltb 0 n && ltb 0 e)) (lanes_clash X lanes place) none in
    let second = or_parts (ltb 1 n) (ltb 0 n && ltb 0 e) first.0 in
    let few : n ≤ 1 = ltb-false 1 n second.0 in
    let own_few : length (filter over (records X k)) ≤ 1 = (let part = long_part over (records X) lanes k near in omega (arith, part, few)) in
    let records_m : m ≤ n = shorter over (records X) (records J) 0 lanes (λ lane from to. ⊎_elim
    (λ (own : lane ≡ k). subst (λ (l : ℕ). length (filter over (records J l)) ≤ length (filter over (records X l))) (sym own)
    (⊎_elim (λ (same : filter over (records J k) ≡ filter over (records X k)). let s = ap (λ (us : List Undo). length us) same in omega (arith, s)) (λ (gone : filter over (records J k) ≡ []). let s = ap (λ (us : List Undo). length us) gone in omega (arith, s)) (record_less X J lanes zones k place less own_few)))
    (λ (other : lane ≢ k). let s = ap (λ (us : List Undo). length (filter over us)) (same_records X J lane (less.others lane (omega (arith, to)) other)) in omega (arith, s))
    (cases_eq lane k)) in
    let entries_f : f ≤ e = shorter at (entries X) (entries J) 0 lanes (λ lane from to. ⊎_elim
    (λ (own : lane ≡ k). subst (λ (l : ℕ). length (filter at (entries J l)) ≤ length (filter at (entries X l))) (sym own)
    (⊎_elim (λ (same : entries J k ≡ entries X k). let s = ap (λ (es : List Redo). length (filter at es)) same in omega (arith, s)) (λ (gone : entries J k ≡ []). let s = ap (λ (es : List Redo). length (filter at es)) gone in omega (arith, s)) less.entries_less))
    (λ (other : lane ≢ k). let s = ap (λ (es : List Redo). length (filter at es)) (same_entries X J lane (less.others lane (omega (arith, to)) other)) in omega (arith, s))
    (cases_eq lane k)) in
    or_from (ltb 1 m || (ltb 0 m && ltb 0 f)) (lanes_clash J lanes place)
    (or_from (ltb 1 m) (ltb 0 m && ltb 0 f) (le-ltb 1 m (omega (arith, records_m, few)))
    (⊎_elim
    (λ (some : 0 < n).
    let empty : e ≤ 0 = ltb-false 0 e (right_false (ltb 0 n) (ltb 0 e) (lt-ltb 0 n some) second.1) in
    Rattle.std.proofs.lemmas.Bool.and_right (ltb 0 m) (ltb 0 f) (le-ltb 0 f (omega (arith, empty, entries_f))))
    (λ (none_n : n ≤ 0). and_left (ltb 0 m) (ltb 0 f) (le-ltb 0 m (omega (arith, none_n, records_m))))
    (cases_lt 0 n)))
    (lanes_less X J lanes zones k place less first.1) where
      right_false : (a b : Bool) → a ≡ true → (a && b) ≡ false → b ≡ false
      right_false true b is none = none
      right_false false b is none = absurd (false≢true is)

-- ---- no fault

slot_less : (X J : List ℕ) (lanes zones k lane slot : ℕ) → IsLess X J lanes zones k → lane < lanes → slot < 64 → bad_slot X lanes zones lane slot ≡ false → bad_slot J lanes zones lane slot ≡ false
unfolding bad_slot
slot_less X J lanes zones k lane slot less inside few none = ⊎_elim
    (λ (own : lane ≡ k). ⊎_elim
    (λ (same : valid_record J k slot ≡ valid_record X k slot). ap judged (moved J own ∙ same ∙ sym (moved X own)) ∙ none)
    (λ (gone : valid_record J k slot ≡ None). ap judged (moved J own ∙ gone))
    (less.slots_less slot few))
    (λ (other : lane ≢ k). ap judged (sym (same_valid X J lane slot (less.others lane inside other) few)) ∙ none)
    (cases_eq lane k) where
      judged : Option Undo → Bool
      judged o = option_map_or (λ u. not (good_record lanes zones u)) o false

      moved : (image : List ℕ) → lane ≡ k → valid_record image lane slot ≡ valid_record image k slot
      moved image own = ap (λ (l : ℕ). valid_record image l slot) own

pub no_fault_less : (X J : List ℕ) (lanes zones k : ℕ) → IsLess X J lanes zones k → k < lanes → log_fault X lanes zones ≡ None → log_fault J lanes zones ≡ None
no_fault_less X J lanes zones k less near none =
    let rows : HasNoLogFault X lanes zones = rows_of X lanes zones none in
    let long = less.as_long in
    none_from_rows J lanes zones (record {
      lane_row = λ lane inside. ⊎_elim
          (λ (own : lane ≡ k). ap (good_lane J) own ∙ less.lane_good)
          (λ (other : lane ≢ k). sym (same_good X J lane (less.others lane inside other)) ∙ rows.lane_row lane inside)
          (cases_eq lane k);
      entry_row = λ n inside. ⊎_elim
          (λ (own : n / 64 ≡ k). ap (λ (l : ℕ). bad_entry J lanes zones l (n % 64)) own ∙ less.entries_good (n % 64) (omega arith))
          (λ (other : n / 64 ≢ k). same_bad X J lanes zones (n / 64) (n % 64) (less.others (n / 64) (omega (arith, inside)) other) (rows.entry_row n inside))
          (cases_eq (n / 64) k);
      slot_row = λ n inside. slot_less X J lanes zones k (n / 64) (n % 64) less (omega (arith, inside)) (omega arith) (rows.slot_row n inside);
      clash_row = λ i inside. clash_less X J lanes zones k (8 * i) less near (rows.clash_row i (omega (arith, inside, long)));
    })

-- ---- the meaning

page_words : (X J : List ℕ) (lanes zones k from n : ℕ) → IsLess X J lanes zones k → 512 ≤ length X → from + n ≤ 512 → (from + n ≤ 64) ⊎ (64 < from) → take n (drop from (page J)) ≡ take n (drop from (page X))
page_words X J lanes zones k from n less long low apart =
    let count : (xs : List ℕ) → 512 ≤ length xs → length (take n (drop from (take 512 xs))) ≡ n = λ xs h.
    let first = length-take 512 xs in let dropped = length-drop from (take 512 xs) in let taken = length-take n (drop from (take 512 xs)) in omega (arith, first, dropped, taken) in
    let at : (xs : List ℕ) (i : ℕ) → i < n → slice_index (take n (drop from (take 512 xs))) i ≡ slice_index xs (from + i) = λ xs i near.
    get_or-take n (drop from (take 512 xs)) i 0 near ∙ get_or-drop from (take 512 xs) i 0 ∙ get_or-take 512 xs (from + i) 0 (omega arith) in
    let same = less.as_long in
    ext_get_or 0 (take n (drop from (take 512 J))) (take n (drop from (take 512 X))) (count J (omega arith) ∙ sym (count X (omega arith)))
    (λ i h.
    let near : i < n = omega (arith, count J (omega arith)) in
    let other : from + i ≢ 64 = λ root. ⊎_elim (λ (before_it : from + n ≤ 64). omega (arith, root, near, before_it)) (λ (behind : 64 < from). omega (arith, root, behind)) apart in
    at J i near ∙ less.page_is (from + i) (omega (arith, near, low)) other ∙ sym (at X i near))

-- the words that a meaning reads have the same recovered words
abbrev pub SameHeapWords : List ℕ → List ℕ → ℕ → ℕ → Type 0
SameHeapWords X J lanes zones = (i : ℕ) → i < length X → IsHeapWord lanes zones i → recovered J lanes i ≡ recovered X lanes i

pub meaning_less : (X J : List ℕ) (pool : PoolView) (k : ℕ) → (is : IsMeaning X pool) → k < is.lanes → IsLess X J is.lanes is.zones k → SameHeapWords X J is.lanes is.zones → IsMeaning J pool
meaning_less X J pool k is near less words =
    let lanes : ℕ = is.lanes in
    let zones : ℕ = is.zones in
    let shape : HasShape X lanes zones = is.has_header.has_shape in
    let size : 4096 + 8192 * lanes + 266240 * zones ≡ 8 * length X = shape.size in
    let logs : log_fault X lanes zones ≡ None = logs_of_meaning X pool is in
    let heap : heap_fault (recovered_at X lanes) lanes zones ≡ None = (neither (log_fault X lanes zones) (heap_fault (recovered_at X lanes) lanes zones) is.no_fault).1 in
    let long = less.as_long in
    let agree : AgreeInMeaning X J lanes zones = record {
      shape = shape;
      other_shape = record { shape = shape.shape; size = shape.size ∙ ap (λ (n : ℕ). 8 * n) (sym less.as_long) };
      main = page_words X J lanes zones k 0 16 less (omega (arith, size)) (omega arith) (inl (omega arith));
      copy = page_words X J lanes zones k 256 16 less (omega (arith, size)) (omega arith) (inr (omega arith));
      logs = logs;
      other_logs = no_fault_less X J lanes zones k less near logs;
      words = record {
        same = λ i read.
            let heap_word : IsHeapWord lanes zones i = reads_heap (recovered_at X lanes) lanes zones i heap read in
            let inside : i < length X = ⊎_elim (λ (root : i ≡ 64). omega (arith, root, size)) (λ (zone : (512 + 1024 * lanes ≤ i) × (i < Rattle.pm_image.specs.Blocks.pool_words lanes zones)). let high = zone.1 in omega (arith, high, size)) heap_word in
            recovered_in_place X lanes i inside ∙ sym (words i inside heap_word) ∙ sym (recovered_in_place J lanes i (omega (arith, inside, long)));
      };
    } in
    (meaning_local X J lanes zones agree).pools pool is
