-- What the logs of an image say depends on the lanes' areas alone.
use Rattle.std.proofs.Common.{◌≡◌, ℕ, zero, suc, ◌+◌, ◌-◌, ◌*◌, ◌<◌, ◌≤◌, ◌&&◌, Bool, true, false, cond, eqb, leb, List, [], ◌∷◌, ◌++◌, length, take, drop, slice_index, get_or, Option, refl, sym, ◌∙◌, ap, arith}
use Rattle.std.specs.List.{filter, filter_map, cons_option, flat_map, find, range_with_len, slice_range}
use Rattle.std.proofs.lemmas.List.{ext_get_or, get_or-take, get_or-drop, length-take, length-drop}
use Rattle.pm_record.specs.Redo.{redo_of}
use Rattle.pm_record.specs.Undo.{undo_of}
use Rattle.pm_record.specs.declared.redo.Redo.{Redo}
use Rattle.pm_image.specs.Logs.{area_word, generation_word, seal_word, is_sealed, entry_pair, slot_line, undo_slot, generation, entries, records, covers, entries_for, record_for, recovered_by, recovered}
use Rattle.pm_image.specs.Locality.{AgreeFor}
use Rattle.pm_image.proofs.Redoing.{sealed_few, entries_sealed, entries_unsealed}

-- two functions that agree on the numbers of a range give the same there
filter_map_same : {X : Type 0} (f g : ℕ → Option X) (a n : ℕ) → ((i : ℕ) → a ≤ i → i < a + n → f i ≡ g i) → filter_map f (range_with_len a n) ≡ filter_map g (range_with_len a n)
filter_map_same f g a zero same = refl
filter_map_same {X = X} f g a (suc n) same =
    (λ k. cons_option (same a (omega arith) (omega arith) k) (filter_map_same f g (a + 1) n (λ i from to. same i (omega arith) (omega arith)) k))

pub flat_map_same : {X : Type 0} (f g : ℕ → List X) (a n : ℕ) → ((i : ℕ) → a ≤ i → i < a + n → f i ≡ g i) → flat_map f (range_with_len a n) ≡ flat_map g (range_with_len a n)
flat_map_same f g a zero same = refl
flat_map_same {X = X} f g a (suc n) same =
    (λ k. same a (omega arith) (omega arith) k ++ flat_map_same f g (a + 1) n (λ i from to. same i (omega arith) (omega arith)) k)

-- eight words that agree one by one
pub slot_same : (one other : List ℕ) (a : ℕ) → a + 8 ≤ length one → a + 8 ≤ length other → ((i : ℕ) → a ≤ i → i < a + 8 → slice_index one i ≡ slice_index other i)
    → slice_range one a (a + 8) ≡ slice_range other a (a + 8)
slot_same one other a long as_long same =
    let eight : a + 8 - a ≡ 8 = omega arith in
    let count : (xs : List ℕ) → a + 8 ≤ length xs → length (take 8 (drop a xs)) ≡ 8 = λ xs h. let dropped = length-drop a xs in let taken = length-take 8 (drop a xs) in omega (arith, dropped, taken) in
    let at : (xs : List ℕ) (i : ℕ) → i < 8 → get_or (take 8 (drop a xs)) i 0 ≡ get_or xs (a + i) 0 = λ xs i h. get_or-take 8 (drop a xs) i 0 h ∙ get_or-drop a xs i 0 in
    ap (λ (n : ℕ). take n (drop a one)) eight
    ∙ ext_get_or 0 (take 8 (drop a one)) (take 8 (drop a other)) (count one long ∙ sym (count other as_long))
    (λ i h. let inside : i < 8 = omega (arith, count one long) in at one i inside ∙ same (a + i) (omega arith) (omega arith) ∙ sym (at other i inside))
    ∙ sym (ap (λ (n : ℕ). take n (drop a other)) eight)

-- word i of a lane's area
area_same : (one other : List ℕ) (lanes word lane i : ℕ) → AgreeFor one other lanes word → lane < lanes → i < 1024 → slice_index one (area_word lane + i) ≡ slice_index other (area_word lane + i)
area_same one other lanes word lane i agree inside within = agree.areas (area_word lane + i) (omega arith) (omega arith)

generation_word_same : (one other : List ℕ) (lanes word lane : ℕ) → AgreeFor one other lanes word → lane < lanes → generation_word one lane ≡ generation_word other lane
generation_word_same one other lanes word lane agree inside = agree.areas (area_word lane) (omega arith) (omega arith)

seal_same : (one other : List ℕ) (lanes word lane : ℕ) → AgreeFor one other lanes word → lane < lanes → seal_word one lane ≡ seal_word other lane
seal_same one other lanes word lane agree inside = area_same one other lanes word lane 1 agree inside (omega arith)

sealed_same : (one other : List ℕ) (lanes word lane : ℕ) → AgreeFor one other lanes word → lane < lanes → is_sealed one lane ≡ is_sealed other lane
sealed_same one other lanes word lane agree inside = ap (λ (n : ℕ). leb 1 n && leb n 64) (seal_same one other lanes word lane agree inside)

last_same : (one other : List ℕ) (lanes word lane : ℕ) → AgreeFor one other lanes word → lane < lanes → is_sealed one lane ≡ true
    → slice_index one (area_word lane + 7 + 2 * seal_word one lane) ≡ slice_index other (area_word lane + 7 + 2 * seal_word other lane)
last_same one other lanes word lane agree inside sealed =
    let few : seal_word one lane ≤ 64 = sealed_few one lane sealed in
    let place : area_word lane + 7 + 2 * seal_word one lane ≡ area_word lane + (7 + 2 * seal_word one lane) = omega arith in
    ap (slice_index one) place ∙ area_same one other lanes word lane (7 + 2 * seal_word one lane) agree inside (omega arith)
    ∙ ap (slice_index other) (sym place) ∙ ap (λ (n : ℕ). slice_index other (area_word lane + 7 + 2 * n)) (seal_same one other lanes word lane agree inside)

generation_same : (one other : List ℕ) (lanes word lane : ℕ) → AgreeFor one other lanes word → lane < lanes → generation one lane ≡ generation other lane
generation_same one other lanes word lane agree inside = go (is_sealed one lane) refl where
  go : (b : Bool) → is_sealed one lane ≡ b → generation one lane ≡ generation other lane
  go true sealed =
      ap (λ (b : Bool). cond b (slice_index one (area_word lane + 7 + 2 * seal_word one lane)) (generation_word one lane)) sealed
      ∙ last_same one other lanes word lane agree inside sealed
      ∙ sym (ap (λ (b : Bool). cond b (slice_index other (area_word lane + 7 + 2 * seal_word other lane)) (generation_word other lane)) (sym (sealed_same one other lanes word lane agree inside) ∙ sealed))
  go false unsealed =
      ap (λ (b : Bool). cond b (slice_index one (area_word lane + 7 + 2 * seal_word one lane)) (generation_word one lane)) unsealed
      ∙ generation_word_same one other lanes word lane agree inside
      ∙ sym (ap (λ (b : Bool). cond b (slice_index other (area_word lane + 7 + 2 * seal_word other lane)) (generation_word other lane)) (sym (sealed_same one other lanes word lane agree inside) ∙ unsealed))

pair_same : (one other : List ℕ) (lanes word lane i : ℕ) → AgreeFor one other lanes word → lane < lanes → i < 64 → entry_pair one lane i ≡ entry_pair other lane i
pair_same one other lanes word lane i agree inside within =
    (λ k. agree.areas (area_word lane + 8 + 2 * i) (omega arith) (omega arith) k ∷ agree.areas (area_word lane + 9 + 2 * i) (omega arith) (omega arith) k ∷ [])

sealed_entries : List ℕ → ℕ → ℕ → List Redo
sealed_entries image lane n = filter_map (λ i. redo_of (entry_pair image lane i)) (range_with_len 0 n)

entries_same : (one other : List ℕ) (lanes word lane : ℕ) → AgreeFor one other lanes word → lane < lanes → entries one lane ≡ entries other lane
entries_same one other lanes word lane agree inside = go (is_sealed one lane) refl where
  go : (b : Bool) → is_sealed one lane ≡ b → entries one lane ≡ entries other lane
  go true sealed =
      let few : seal_word one lane ≤ 64 = sealed_few one lane sealed in
      sym (entries_sealed one lane sealed)
      ∙ filter_map_same (λ i. redo_of (entry_pair one lane i)) (λ i. redo_of (entry_pair other lane i)) 0 (seal_word one lane) (λ i from to. ap redo_of (pair_same one other lanes word lane i agree inside (omega arith)))
      ∙ ap (λ (n : ℕ). filter_map (λ i. redo_of (entry_pair other lane i)) (range_with_len 0 n)) (seal_same one other lanes word lane agree inside)
      ∙ entries_sealed other lane (sym (sealed_same one other lanes word lane agree inside) ∙ sealed)
  go false unsealed = entries_unsealed one lane unsealed ∙ sym (entries_unsealed other lane (sym (sealed_same one other lanes word lane agree inside) ∙ unsealed))

undo_slot_same : (one other : List ℕ) (lanes word lane i : ℕ) → AgreeFor one other lanes word → lane < lanes → i < 64 → undo_slot one lane i ≡ undo_slot other lane i
undo_slot_same one other lanes word lane i agree inside within =
    let long : 512 + 1024 * lanes ≤ length one = agree.long in
    let as_long : 512 + 1024 * lanes ≤ length other = agree.as_long in
    slot_same one other (8 * slot_line lane i) (omega arith) (omega arith) (λ k from to. agree.areas k (omega arith) (omega arith))

records_same : (one other : List ℕ) (lanes word lane : ℕ) → AgreeFor one other lanes word → lane < lanes → records one lane ≡ records other lane
unfolding records
records_same one other lanes word lane agree inside =
    ap (filter (λ u. eqb u.generation (generation one lane)))
    (filter_map_same (λ i. undo_of (undo_slot one lane i)) (λ i. undo_of (undo_slot other lane i)) 0 64 (λ i from to. ap undo_of (undo_slot_same one other lanes word lane i agree inside (omega arith))))
    ∙ ap (λ (g : ℕ). filter (λ u. eqb u.generation g) (filter_map (λ i. undo_of (undo_slot other lane i)) (range_with_len 0 64))) (generation_same one other lanes word lane agree inside)

entries_for_same : (one other : List ℕ) (lanes word place : ℕ) → AgreeFor one other lanes word → entries_for one lanes place ≡ entries_for other lanes place
unfolding entries_for
entries_for_same one other lanes word place agree =
    ap (filter (λ e. eqb e.place place)) (flat_map_same (entries one) (entries other) 0 lanes (λ lane from to. entries_same one other lanes word lane agree (omega arith)))

record_for_same : (one other : List ℕ) (lanes word place : ℕ) → AgreeFor one other lanes word → record_for one lanes place ≡ record_for other lanes place
unfolding record_for
record_for_same one other lanes word place agree =
    ap (find (λ u. covers u place)) (flat_map_same (records one) (records other) 0 lanes (λ lane from to. records_same one other lanes word lane agree (omega arith)))

pub recovered_local : (one other : List ℕ) (lanes word : ℕ) → AgreeFor one other lanes word → recovered one lanes word ≡ recovered other lanes word
unfolding recovered
recovered_local one other lanes word agree =
    (λ k. recovered_by (entries_for_same one other lanes word (8 * word) agree k) (record_for_same one other lanes word (8 * word) agree k) (8 * word) (agree.here k))
