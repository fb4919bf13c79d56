-- While the words of a lane are restored and its entries applied, the image means what it meant.
use Rattle.std.proofs.Common.{◌≡◌, ◌≢◌, ◌⊎◌, ⊎_elim, inl, inr, ℕ, ◌+◌, ◌*◌, ◌/◌, ◌%◌, ◌^◌, ◌<◌, ◌≤◌, ◌&&◌, ◌||◌, Bool, true, false, cond, not, eqb, leb, ltb, All, List, [], ◌∷◌, length, take, slice_index, Option, Some, None, refl, sym, ◌∙◌, ap, subst, arith}
use Rattle.std.specs.List.{flat_map, range_with_len}
use Rattle.std.specs.Option.{option_to_list}
use Rattle.std.proofs.lemmas.Bool.{and_from, and_left, and_parts, and_right, cases_Bool, cases_eq, cases_lt, eq-eqb, false≢true, le-leb, leb-true, not-false, not_from_true}
use Rattle.std.proofs.lemmas.List.{take_all}
use Rattle.std.proofs.lemmas.List.Elements.{All-cons, All-nil}
use Rattle.pm_record.specs.Redo.{redo_of}
use Rattle.pm_record.specs.Undo.{undo_of}
use Rattle.pm_record.specs.declared.redo.Redo.{Redo}
use Rattle.pm_record.specs.declared.undo.Undo.{Undo}
use Rattle.pm_objects.specs.declared.pool.PoolView.{PoolView}
use Rattle.pm_image.specs.Logs.{all_applied, area_word, entries, entry_pair, generation, generation_word, is_sealed, records, seal_word, undo_slot}
use Rattle.pm_image.specs.LogFaults.{bad_entry, ends_log, good_entry, good_lane, is_set, is_target, log_fault}
use Rattle.pm_image.specs.Means.{IsMeaning}
use Rattle.pm_image.specs.Reads.{IsHeapWord}
use Rattle.pm_image.specs.Steps.{valid_record}
use Rattle.pm_image.proofs.Gathering.{entries_by_number, entry_at, record_at, records_by_number}
use Rattle.pm_image.proofs.Redoing.{entries_unsealed, sealed_few}
use Rattle.pm_recover.specs.Steps.{HasSoundLogs}
use Rattle.pm_recover.proofs.Areas.{SameLog, same_slot}
use Rattle.pm_recover.proofs.Slots.{generation_sealed, generation_unsealed, of_generation}
use Rattle.pm_recover.proofs.Sound.{logs_apart, logs_of_meaning, logs_sound}
use Rattle.pm_reopen.specs.Plan.{writes}
use Rattle.pm_reopen.specs.Premise.{HasWords}
use Rattle.pm_reopen.proofs.Again.{IsWord}
use Rattle.pm_reopen.proofs.Beside.{IsBeside, IsPerformed, lanes_stay, logs_stay, page_stays}
use Rattle.pm_reopen.proofs.ForWords.{IsWhole}
use Rattle.pm_reopen.proofs.Inside.{all_parts}
use Rattle.pm_reopen.proofs.Less.{HasNoLogFault, IsLess, SameHeapWords, few_records, meaning_less, rows_of}
use Rattle.pm_reopen.proofs.SameWords.{IsBefore, same_while}
use Rattle.pm_reopen.proofs.Surviving.{IsPartlyWritten, for_word}
use Rattle.pm_reopen.proofs.Targets.{size_of_shape}
use Rattle.pm_reopen.proofs.While.{IsTarget, own_word, untouched, value_in, writes_targets}

-- ---- what is known of an image that means a pool

module _ (X : List ℕ) (pool : PoolView) (is : IsMeaning X pool) (k : ℕ) (near : k < is.lanes) where
  abbrev pub lanes : ℕ
  lanes = is.lanes

  abbrev pub zones : ℕ
  zones = is.zones

  pub logs : log_fault X lanes zones ≡ None
  logs = logs_of_meaning X pool is

  pub size : 512 + 1024 * lanes + 33280 * zones ≡ length X
  size = size_of_shape X lanes zones is.has_header.has_shape

  pub sound : HasSoundLogs X lanes
  sound = logs_sound X lanes zones is.has_header.has_shape logs

  pub rows : HasNoLogFault X lanes zones
  rows = rows_of X lanes zones logs

  pub entry_row : (i : ℕ) → i < 64 → bad_entry X lanes zones k i ≡ false
  entry_row i few =
      let of_lane : (64 * k + i) / 64 ≡ k = omega (arith, few) in
      let of_entry : (64 * k + i) % 64 ≡ i = omega (arith, few) in
      (λ j. bad_entry X lanes zones (sym of_lane j) (sym of_entry j)) ∙ rows.entry_row (64 * k + i) (omega (arith, few, near))

  pub targets : All (IsTarget X lanes k) (writes X k)
  targets = writes_targets X lanes zones k sound near entry_row

  pub whole_records : All IsWhole (records X k)
  whole_records =
      subst (All IsWhole) (sym (records_by_number X k))
      (all_parts IsWhole (record_at X k) 0 64 (λ slot from to. one slot (omega (arith, to)) (valid_record X k slot) refl)) where
        one : (slot : ℕ) → slot < 64 → (o : Option Undo) → valid_record X k slot ≡ o → All IsWhole (option_to_list o)
        one slot few None reads = All-nil IsWhole
        one slot few (Some u) reads =
            let r = sound.restorable k slot u near few reads in
            All-cons IsWhole u [] (record { aligned = r.aligned; few = r.few }) (All-nil IsWhole)

  pub entry_words : HasWords X → All IsWord (entries X k)
  entry_words words = ⊎_elim
      (λ (sealed : is_sealed X k ≡ true).
      subst (All IsWord) (sym (entries_by_number X k sealed)) (all_parts IsWord (entry_at X k) 0 (seal_word X k) (λ i from to. one i (redo_of (entry_pair X k i)) refl)))
      (λ (unsealed : is_sealed X k ≡ false). subst (All IsWord) (sym (entries_unsealed X k unsealed)) (All-nil IsWord))
      (cases_Bool (is_sealed X k)) where
        one : (i : ℕ) → (o : Option Redo) → redo_of (entry_pair X k i) ≡ o → All IsWord (option_to_list o)
        one i None reads = All-nil IsWord
        one i (Some e) reads = All-cons IsWord e [] (subst (λ (n : ℕ). n < 2 ^ 64) (sym (value_in (entry_pair X k i) e reads)) (words (area_word k + 9 + 2 * i))) (All-nil IsWord)

  pub before_word : HasWords X → ((lane : ℕ) → lane < k → is_sealed X lane ≡ false) → (i : ℕ) → i < length X → IsBefore X lanes k i
  before_word words unsealed i inside =
      let few = few_records X lanes (8 * i) (rows.clash_row i inside) in
      record {
        near = near;
        inside = inside;
        small = words i;
        whole = whole_records;
        values = entry_words words;
        unsealed = λ lane low. entries_unsealed X lane (unsealed lane low);
        few = few;
        apart = (logs_apart X lanes zones logs).apart i inside;
      }

-- ---- the lane's log stays readable where its generation is as it was or as its log ends

pub record HasLogOf (X J : List ℕ) (k : ℕ) : Type 0 where
  pub entries_are : (i : ℕ) → area_word k + 1 < i → i < area_word k + 136 → slice_index X i ≡ slice_index J i
  pub seal : seal_word J k ≡ seal_word X k
  pub generation_is : (generation_word J k ≡ generation_word X k) ⊎ (generation_word J k ≡ generation X k)

module _ (X J : List ℕ) (k : ℕ) (h : HasLogOf X J k) where
  pub still_sealed : is_sealed J k ≡ is_sealed X k
  still_sealed = ap (λ (n : ℕ). leb 1 n && leb n 64) h.seal

  pub still_generation : generation J k ≡ generation X k
  still_generation = ⊎_elim
      (λ (sealed : is_sealed X k ≡ true).
      let few : seal_word X k ≤ 64 = sealed_few X k sealed in
      generation_sealed J k (still_sealed ∙ sealed)
      ∙ ap (λ (n : ℕ). slice_index J (area_word k + 7 + 2 * n)) h.seal
      ∙ sym (h.entries_are (area_word k + 7 + 2 * seal_word X k) (omega arith) (omega (arith, few)))
      ∙ sym (generation_sealed X k sealed))
      (λ (unsealed : is_sealed X k ≡ false).
      generation_unsealed J k (still_sealed ∙ unsealed)
      ∙ ⊎_elim (λ (same : generation_word J k ≡ generation_word X k). same ∙ sym (generation_unsealed X k unsealed)) (λ (last : generation_word J k ≡ generation X k). last) h.generation_is)
      (cases_Bool (is_sealed X k))

  pub still_valid : (slot : ℕ) → undo_slot J k slot ≡ undo_slot X k slot → valid_record J k slot ≡ valid_record X k slot
  still_valid slot same = (λ j. of_generation (still_generation j) (undo_of (same j)))

  pair_same : (i : ℕ) → i < 64 → entry_pair J k i ≡ entry_pair X k i
  pair_same i few =
      let one = h.entries_are (area_word k + 8 + 2 * i) (omega arith) (omega (arith, few)) in
      let two = h.entries_are (area_word k + 9 + 2 * i) (omega arith) (omega (arith, few)) in
      (λ j. sym one j ∷ sym two j ∷ [])

  pub still_entries : entries J k ≡ entries X k
  still_entries = ⊎_elim
      (λ (sealed : is_sealed X k ≡ true).
      let few : seal_word X k ≤ 64 = sealed_few X k sealed in
      entries_by_number J k (still_sealed ∙ sealed)
      ∙ ap (λ (n : ℕ). flat_map (entry_at J k) (range_with_len 0 n)) h.seal
      ∙ Rattle.pm_image.proofs.Local.flat_map_same (entry_at J k) (entry_at X k) 0 (seal_word X k) (λ i from to. ap (λ (pair : List ℕ). option_to_list (redo_of pair)) (pair_same i (omega (arith, to, few))))
      ∙ sym (entries_by_number X k sealed))
      (λ (unsealed : is_sealed X k ≡ false). entries_unsealed J k (still_sealed ∙ unsealed) ∙ sym (entries_unsealed X k unsealed))
      (cases_Bool (is_sealed X k))

-- the lane's row
good_lane_parts : (image : List ℕ) (lane : ℕ) → good_lane image lane ≡ true → (1 ≤ generation_word image lane) × (generation_word image lane ≤ 4611686018427387904) × (seal_word image lane ≤ 64)
unfolding good_lane
good_lane_parts image lane good =
    let first = and_parts (leb 1 (generation_word image lane) && leb (generation_word image lane) 4611686018427387904) (leb (seal_word image lane) 64) good in
    let second = and_parts (leb 1 (generation_word image lane)) (leb (generation_word image lane) 4611686018427387904) first.0 in
    (leb-true 1 (generation_word image lane) second.0, leb-true (generation_word image lane) 4611686018427387904 second.1, leb-true (seal_word image lane) 64 first.1)

pub good_lane_from : (image : List ℕ) (lane : ℕ) → 1 ≤ generation_word image lane → generation_word image lane ≤ 4611686018427387904 → seal_word image lane ≤ 64 → good_lane image lane ≡ true
unfolding good_lane
good_lane_from image lane low high few =
    and_from (leb 1 (generation_word image lane) && leb (generation_word image lane) 4611686018427387904) (leb (seal_word image lane) 64)
    (and_from (leb 1 (generation_word image lane)) (leb (generation_word image lane) 4611686018427387904) (le-leb 1 (generation_word image lane) low) (le-leb (generation_word image lane) 4611686018427387904 high))
    (le-leb (seal_word image lane) 64 few)

module _ (X J : List ℕ) (pool : PoolView) (is : IsMeaning X pool) (k : ℕ) (near : k < is.lanes) (h : HasLogOf X J k) where
  pub still_good : good_lane J k ≡ true
  still_good =
      let parts = good_lane_parts X k ((rows X pool is k near).lane_row k near) in
      let seal = h.seal in
      let first = (sound X pool is k near).first_generation k near in
      let last = (sound X pool is k near).last_generation k near in
      ⊎_elim
      (λ (same : generation_word J k ≡ generation_word X k). good_lane_from J k (omega (arith, same, parts.0)) (omega (arith, same, parts.1)) (omega (arith, seal, parts.2)))
      (λ (ends : generation_word J k ≡ generation X k). good_lane_from J k (omega (arith, ends, first)) (omega (arith, ends, last)) (omega (arith, seal, parts.2)))
      h.generation_is

  ends_still : (e : Redo) → e.value ≡ generation X k → ends_log X k e ≡ true → ends_log J k e ≡ true
  ends_still e value ends =
      let front : Bool = is_set e.op && eqb e.place (8 * area_word k) && leb 2 e.value && leb e.value 4611686018427387904 in
      let parts = and_parts front (eqb (generation_word X k) e.value || eqb (generation_word X k + 1) e.value) ends in
      and_from front (eqb (generation_word J k) e.value || eqb (generation_word J k + 1) e.value) parts.0
      (⊎_elim
      (λ (same : generation_word J k ≡ generation_word X k). ap (λ (g : ℕ). eqb g e.value || eqb (g + 1) e.value) same ∙ parts.1)
      (λ (last : generation_word J k ≡ generation X k). ap (λ (b : Bool). b || eqb (generation_word J k + 1) e.value) (eq-eqb (generation_word J k) e.value (last ∙ sym value)))
      h.generation_is)

  entry_still : (i : ℕ) (o : Option Redo) → i < 64 → is_sealed X k ≡ true → redo_of (entry_pair X k i) ≡ o → good_entry X (lanes X pool is k near) (zones X pool is k near) k i o ≡ true → good_entry J (lanes X pool is k near) (zones X pool is k near) k i o ≡ true
  entry_still i None few sealed reads good = good
  entry_still i (Some e) few sealed reads good = go (eqb (i + 1) (seal_word X k)) refl where
    go : (b : Bool) → eqb (i + 1) (seal_word X k) ≡ b → good_entry J (lanes X pool is k near) (zones X pool is k near) k i (Some e) ≡ true
    go true last =
        let number : i + 1 ≡ seal_word X k = Rattle.std.proofs.lemmas.Bool.eqb-true (i + 1) (seal_word X k) last in
        let word : area_word k + 9 + 2 * i ≡ area_word k + 7 + 2 * seal_word X k = omega (arith, number) in
        let value : e.value ≡ generation X k = value_in (entry_pair X k i) e reads ∙ ap (slice_index X) word ∙ sym (generation_sealed X k sealed) in
        let ends : ends_log X k e ≡ true = sym (ap (λ (b : Bool). cond b (ends_log X k e) (is_target (lanes X pool is k near) (zones X pool is k near) (e.place / 8))) last) ∙ good in
        ap (λ (n : ℕ). cond (eqb (i + 1) n) (ends_log J k e) (is_target (lanes X pool is k near) (zones X pool is k near) (e.place / 8))) h.seal
        ∙ ap (λ (b : Bool). cond b (ends_log J k e) (is_target (lanes X pool is k near) (zones X pool is k near) (e.place / 8))) last ∙ ends_still e value ends
    go false before =
        ap (λ (n : ℕ). cond (eqb (i + 1) n) (ends_log J k e) (is_target (lanes X pool is k near) (zones X pool is k near) (e.place / 8))) h.seal
        ∙ ap (λ (b : Bool). cond b (ends_log J k e) (is_target (lanes X pool is k near) (zones X pool is k near) (e.place / 8))) before
        ∙ sym (ap (λ (b : Bool). cond b (ends_log X k e) (is_target (lanes X pool is k near) (zones X pool is k near) (e.place / 8))) before) ∙ good

  pub still_rows : (i : ℕ) → i < 64 → bad_entry J (lanes X pool is k near) (zones X pool is k near) k i ≡ false
  still_rows i few = ⊎_elim
      (λ (counts : (is_sealed X k && ltb i (seal_word X k)) ≡ true).
      let parts = and_parts (is_sealed X k) (ltb i (seal_word X k)) counts in
      let good_X : Bool = good_entry X (lanes X pool is k near) (zones X pool is k near) k i (redo_of (entry_pair X k i)) in
      let is_good : good_entry X (lanes X pool is k near) (zones X pool is k near) k i (redo_of (entry_pair X k i)) ≡ true =
      not-false good_X (sym (ap (λ (b : Bool). b && not good_X) counts) ∙ entry_row X pool is k near i few) in
      let is_good_J : good_entry J (lanes X pool is k near) (zones X pool is k near) k i (redo_of (entry_pair J k i)) ≡ true =
      ap (λ (pair : List ℕ). good_entry J (lanes X pool is k near) (zones X pool is k near) k i (redo_of pair)) (pair_same X J k h i few)
      ∙ entry_still i (redo_of (entry_pair X k i)) few parts.0 refl is_good in
      and_right (is_sealed J k && ltb i (seal_word J k)) (not (good_entry J (lanes X pool is k near) (zones X pool is k near) k i (redo_of (entry_pair J k i)))) (not_from_true (good_entry J (lanes X pool is k near) (zones X pool is k near) k i (redo_of (entry_pair J k i))) is_good_J))
      (λ (none : (is_sealed X k && ltb i (seal_word X k)) ≡ false).
      and_left (is_sealed J k && ltb i (seal_word J k)) (not (good_entry J (lanes X pool is k near) (zones X pool is k near) k i (redo_of (entry_pair J k i))))
      ((λ j. still_sealed X J k h j && ltb i (h.seal j)) ∙ none))
      (cases_Bool (is_sealed X k && ltb i (seal_word X k)))

-- a word that a meaning reads is in no lane's area
pub heap_beside : (lanes zones k i : ℕ) → k < lanes → IsHeapWord lanes zones i → IsBeside k i
heap_beside lanes zones k i near (inl root) = inl (omega (arith, root))
heap_beside lanes zones k i near (inr zone) = let from = zone.0 in inr (omega (arith, from, near))

-- ---- the first part

module _ (X J : List ℕ) (pool : PoolView) (is : IsMeaning X pool) (k : ℕ) (near : k < is.lanes) (words : HasWords X) (unsealed : (lane : ℕ) → lane < k → is_sealed X lane ≡ false) (part : IsPartlyWritten (writes X k) X J) where
  abbrev pub L : ℕ
  L = is.lanes

  abbrev pub Z : ℕ
  Z = is.zones

  pub performed_1 : IsPerformed X J L k
  performed_1 = record {
    near = near;
    areas = (let all = size X pool is k near in omega (arith, all));
    targets = targets X pool is k near;
    as_long = part.as_long;
    each = λ w inside beside. part.each w inside;
  }

  own_stays : (w : ℕ) → area_word k ≤ w → w < area_word (k + 1) → w ≢ area_word k → slice_index X w ≡ slice_index J w
  own_stays w from to other =
      let all = size X pool is k near in
      let some = part.each w (omega (arith, all, to, near)) in
      let none : for_word w (writes X k) ≡ [] = untouched X L k w (writes X k) (targets X pool is k near) (λ heap. ⊎_elim (λ (root : w ≡ 64). omega (arith, root, from)) (λ (behind : 512 + 1024 * L ≤ w). omega (arith, behind, near, to)) heap) other in
      sym (some.1 ∙ ap (λ (es : List Redo). all_applied (take some.0 es) (slice_index X w)) none ∙ ap (λ (es : List Redo). all_applied es (slice_index X w)) (take_all some.0 [] (omega arith)))

  pub log_1 : HasLogOf X J k
  log_1 =
      let all = size X pool is k near in
      let own = part.each (area_word k) (omega (arith, all, near)) in
      record {
        entries_are = λ i from to. own_stays i (omega (arith, from)) (omega (arith, to)) (λ same. omega (arith, same, from));
        seal = sym (own_stays (area_word k + 1) (omega arith) (omega arith) (λ same. omega (arith, same)));
        generation_is = ⊎_elim
            (λ (same : all_applied (take own.0 (for_word (area_word k) (writes X k))) (slice_index X (area_word k)) ≡ slice_index X (area_word k)). inl (own.1 ∙ same))
            (λ (last : all_applied (take own.0 (for_word (area_word k) (writes X k))) (slice_index X (area_word k)) ≡ generation X k). inr (own.1 ∙ last))
            (own_word X L k (writes X k) own.0 (slice_index X (area_word k)) near (targets X pool is k near));
      }

  pub slot_1 : (slot : ℕ) → slot < 64 → undo_slot J k slot ≡ undo_slot X k slot
  slot_1 slot few =
      let all = size X pool is k near in
      let long = part.as_long in
      let log : SameLog X J k = record { long = omega (arith, all, near); as_long = omega (arith, all, near, long); same = λ i from to. own_stays i (omega (arith, from)) to (λ same. omega (arith, same, from)) } in
      sym (same_slot X J k slot log few)

  pub less_1 : IsLess X J L Z k
  less_1 = record {
    as_long = part.as_long;
    page_is = page_stays X J L k performed_1;
    others = lanes_stay X J L k performed_1;
    entries_less = inl (still_entries X J k log_1);
    slots_less = λ slot few. inl (still_valid X J k log_1 slot (slot_1 slot few));
    lane_good = still_good X J pool is k near log_1;
    entries_good = still_rows X J pool is k near log_1;
  }

  records_1 : records J k ≡ records X k
  records_1 =
      records_by_number J k
      ∙ Rattle.pm_image.proofs.Local.flat_map_same (record_at J k) (record_at X k) 0 64 (λ slot from to. ap option_to_list (still_valid X J k log_1 slot (slot_1 slot (omega (arith, to)))))
      ∙ sym (records_by_number X k)

  pub words_1 : SameHeapWords X J L Z
  words_1 i inside heap =
      let some = part.each i inside in
      same_while X J L k i (before_word X pool is k near words unsealed i inside) (logs_stay X J L k performed_1) some.0 (still_entries X J k log_1) records_1 some.1

  pub meaning_1 : IsMeaning J pool
  meaning_1 = meaning_less X J pool k is near less_1 words_1
