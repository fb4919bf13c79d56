-- What a crash image has of one lane's log, by how far its call has come: its entries sealed and no valid record, its records and nothing sealed, or neither.
use Rattle.std.proofs.Common.{◌≡◌, ◌≢◌, ℕ, zero, suc, ◌+◌, ◌*◌, ◌/◌, ◌<◌, ◌≤◌, ◌⊎◌, inl, inr, ⊎_elim, Bool, true, false, cond, not, leb, ◌==◌, Contains, List, [], ◌∷◌, ◌++◌, length, length-append, map, slice_get, slice_index, refl, sym, ap, ◌∙◌, subst, arith, Some}
use Rattle.std.specs.List.{list_any, filter_map, range_with_len}
use Rattle.std.proofs.lemmas.Bool.{cases_eq, cases_lt, cases_Bool, both_ways, eqb-true, eq-eqb, ne_eqb, and_from, cond-true, cond-false, le-leb}
use Rattle.std.proofs.lemmas.Option.{none-some, same_Some}
use Rattle.std.proofs.lemmas.List.Elements.{All-contains}
use Rattle.std.proofs.lemmas.List.Folds.{list_any_at}
use Rattle.pm_layout.specs.declared.shape.Shape.{Shape}
use Rattle.pm_layout.specs.Areas.{greatest_generation, word_of_generation, word_of_entry, line_of_slot}
use Rattle.pm_layout.specs.Chunks.{words_of}
use Rattle.pm_record.specs.Redo.{redo_of}
use Rattle.pm_record.specs.Undo.{undo_of}
use Rattle.pm_record.specs.declared.undo.Undo.{Undo}
use Rattle.pm_image.specs.Logs.{area_word, seal_word, generation_word, is_sealed, entry_pair, undo_slot, slot_line, generation, entries}
use Rattle.pm_image.specs.Steps.{valid_record}
use Rattle.pm_image.proofs.Redoing.{entries_sealed, entries_unsealed}
use Rattle.pm_image.proofs.Unsealed.{not_sealed}
use Rattle.pm_view.specs.Changes.{Undrained, is_in_line}
use Rattle.pm_view.specs.Entries.{Entry, entry_head}
use Rattle.pm_view.specs.Parts.{EntryPart, SlotPart, part_of}
use Rattle.pm_view.specs.Log.{Phase, Idle, Open, Drawn, Sealing, Applying, Clearing, Retiring, Voiding, Recorded, Log}
use Rattle.pm_world.specs.States.{Diff}
use Rattle.pm_world.specs.Sights.{is_slot_drained}
use Rattle.pm_world.specs.Logs.{AreaChange, AreWhole, IsRecordAt, IsEntryAt, PhaseFits, ends_with, slot_list, spelled, used_slots}
use Rattle.pm_world.specs.Memory.{Memory, PoolWord, cells_of}
use Rattle.pm_world.specs.World.{Opening, Views, Past, AreaFits, World}
use Rattle.pm_world.specs.Crash.{Survives, NoneTorn, IsNextRecord}
use Rattle.pm_world.proofs.SurvivingWords.{entry_part, slot_part, log_fits, AreaTaken, area_left, SealIs, GenerationIs, seal_is, generation_is}
use Rattle.pm_world.proofs.ImageLogs.{eight, slots_alike, slice_eight, redo_at, redo_again, read_all, undo_from, spelled_long, undo_spelled, valid_from, valid_parts}

-- the seal is or may be in the image
abbrev pub HasSealed : Phase → Type 0
HasSealed (Sealing n) = Unit {0}
HasSealed (Applying todo) = Unit {0}
HasSealed Clearing = Unit {0}
HasSealed phase = ⊥

-- the slots are whole: no word of the next record is stored, nor is any word of them undrained
abbrev pub HasSettled : Phase → Type 0
HasSettled Open = ⊥
HasSettled (Drawn n) = ⊥
HasSettled phase = Unit {0}

whole_of : (sh : Shape) (k : ℕ) (pic : Diff) (l : Log) (changes : List Undrained) (ph : Phase) → HasSealed ph → PhaseFits sh k pic l changes ph → AreWhole sh k l
whole_of sh k pic l changes Idle s f = absurd s
whole_of sh k pic l changes Open s f = absurd s
whole_of sh k pic l changes (Drawn n) s f = absurd s
whole_of sh k pic l changes (Sealing n) s f = f.0
whole_of sh k pic l changes (Applying t) s f = f.0
whole_of sh k pic l changes Clearing s f = f.0
whole_of sh k pic l changes (Retiring n) s f = absurd s
whole_of sh k pic l changes Voiding s f = absurd s

no_part_of : (sh : Shape) (k : ℕ) (pic : Diff) (l : Log) (changes : List Undrained) (ph : Phase) → HasSettled ph → PhaseFits sh k pic l changes ph → l.slot ≡ []
no_part_of sh k pic l changes Idle s f = f.2
no_part_of sh k pic l changes Open s f = absurd s
no_part_of sh k pic l changes (Drawn n) s f = absurd s
no_part_of sh k pic l changes (Sealing n) s f = f.1
no_part_of sh k pic l changes (Applying t) s f = f.2
no_part_of sh k pic l changes Clearing s f = f.1
no_part_of sh k pic l changes (Retiring n) s f = f.1
no_part_of sh k pic l changes Voiding s f = f.1

no_entry_change : (ph : Phase) (count n : ℕ) (c : Undrained) → HasSealed ph → AreaChange ph count n EntryPart c → ⊥
no_entry_change Idle count n c s e = s
no_entry_change Open count n c s e = s
no_entry_change (Drawn m) count n c s e = s
no_entry_change (Sealing m) count n c s e = e
no_entry_change (Applying t) count n c s e = e
no_entry_change Clearing count n c s e = e
no_entry_change (Retiring m) count n c s e = s
no_entry_change Voiding count n c s e = s

no_slot_change : (ph : Phase) (count n : ℕ) (c : Undrained) → HasSettled ph → AreaChange ph count n SlotPart c → ⊥
no_slot_change Idle count n c s e = e
no_slot_change Open count n c s e = s
no_slot_change (Drawn m) count n c s e = s
no_slot_change (Sealing m) count n c s e = e
no_slot_change (Applying t) count n c s e = e
no_slot_change Clearing count n c s e = e
no_slot_change (Retiring m) count n c s e = e
no_slot_change Voiding count n c s e = e

last_at : {A : Type 0} → (front : List A) (f : A) → slice_get (front ++ f ∷ []) (length front) ≡ Some f
last_at [] f = refl
last_at (e ∷ front) f = last_at front f

pub get_within : {A : Type 0} → (xs : List A) (i : ℕ) (y : A) → slice_get xs i ≡ Some y → i < length xs
get_within [] i y e = absurd (none-some y e)
get_within (z ∷ xs) zero y e = omega arith
get_within (z ∷ xs) (suc i) y e = let l = get_within xs i y e in omega arith

pub get_some : {A : Type 0} → (xs : List A) (i : ℕ) → i < length xs → (y : A) × (slice_get xs i ≡ Some y)
get_some [] i l = absurd (omega arith)
get_some (z ∷ xs) zero l = (z, refl)
get_some (z ∷ xs) (suc i) l = get_some xs i (omega arith)

abbrev used_by : Log → List ℕ → ℕ
used_by l s = length l.records + cond (length s == 0) 0 1

used_whole : (l : Log) → l.slot ≡ [] → used_slots l ≡ length l.records
used_whole l e = ap (used_by l) e ∙ (let z : length l.records + 0 ≡ length l.records = omega arith in z)

used_most : (l : Log) → used_slots l ≤ length l.records + 1
used_most l = go (length l.slot == 0)
  where
    go : (t : Bool) → length l.records + cond t 0 1 ≤ length l.records + 1
    go true = omega arith
    go false = omega arith

-- some change passes
any_at : (p : Undrained → Bool) (xs : List Undrained) → list_any p xs ≡ true → (y : Undrained) × Contains xs y × (p y ≡ true)
any_at p [] e = absurd (both_ways false refl e)
any_at p (c ∷ xs) e = ⊎_elim (λ (t : p c ≡ true). (c, (0, omega arith, refl), t)) (λ (t : list_any p xs ≡ true). let y = any_at p xs t in let l = y.1.1 in (y.0, (suc y.1.0, omega arith, y.1.2), y.2)) (Rattle.std.proofs.lemmas.Bool.or_cases (p c) (list_any p xs) e)

module _ (o : Opening) (mem : Memory) (views : Views) (g : Past) (x : World o mem views g) (image : List ℕ) (sv : Survives o mem views image) (torn : NoneTorn o views image) (k : ℕ) (ink : k < o.shape.lanes) where
  abbrev log : Log
  log = (views k).log

  fits : AreaFits o mem g k (views k)
  fits = log_fits o mem views g x k ink

  -- ---- nothing is valid, and the entries are sealed, or are not
  pub record IsBare : Type 0 where
    pub none_valid : (j : ℕ) (u : Undo) → j < 64 → valid_record image k j ≡ Some u → ⊥

  pub record Silent : Type 0 where
    pub bare : IsBare
    pub none_sealed : entries image k ≡ []
    pub unsealed : seal_word image k ≡ 0

  pub record Sealed : Type 0 where
    pub bare : IsBare
    pub all_sealed : entries image k ≡ map redo_at (views k).log.entries
    pub whole : AreWhole o.shape k (views k).log
    pub full : seal_word image k ≡ length (views k).log.entries
    pub read : (i : ℕ) (e : Entry) → IsEntryAt (views k).log i e → entry_pair image k i ≡ entry_head e ∷ e.value ∷ []

  -- the records of the log's generation are valid
  pub record Current : Type 0 where
    pub runs : k < o.lanes
    pub none_sealed : entries image k ≡ []
    pub unsealed : seal_word image k ≡ 0
    pub present : generation image k ≡ (views k).log.generation

  -- ---- ENTRIES

  module _ (s : HasSealed (views k).log.phase) (full : seal_word image k ≡ length (views k).log.entries) where
    whole : AreWhole o.shape k (views k).log
    whole = whole_of o.shape k (Rattle.pm_world.specs.Sights.sight_of (views k)).picture (views k).log (views k).changes (views k).log.phase s fits.phase

    long : length (views k).log.entries ≡ length whole.front + 1
    long = ap length whole.are ∙ length-append whole.front (ends_with o.shape k (views k).log.generation ∷ [])

    is_there : is_sealed image k ≡ true
    is_there = let most = fits.entries_most in let n = long in and_from (leb 1 (seal_word image k)) (leb (seal_word image k) 64) (le-leb 1 (seal_word image k) (omega arith)) (le-leb (seal_word image k) 64 (omega arith))

    pair_stays : (i half : ℕ) → i < 64 → half < 2 → slice_index image (word_of_entry o.shape k i + half) ≡ (cells_of o.shape mem).entry k i half
    pair_stays i half a b = let w : word_of_generation o.shape k + (8 + 2 * i + half) ≡ word_of_entry o.shape k i + half = omega arith in
        ⊎_elim (λ e. ap (slice_index image) (sym w) ∙ (e ∙ ap (λ z. mem (PoolWord z)) w))
        (λ (t : AreaTaken o mem views g x image sv k (word_of_generation o.shape k + (8 + 2 * i + half))). absurd (no_entry_change (views k).log.phase (length (views k).log.entries) (views k).log.generation t.seen s
        (subst (λ p. AreaChange (views k).log.phase (length (views k).log.entries) (views k).log.generation p t.seen) (entry_part o.shape k (word_of_generation o.shape k + (8 + 2 * i + half)) (omega arith) (omega arith)) t.is)))
        (area_left o mem views g x image sv k (8 + 2 * i + half) ink (omega arith))

    pair_read : (i : ℕ) (e : Entry) → IsEntryAt (views k).log i e → entry_pair image k i ≡ entry_head e ∷ e.value ∷ []
    pair_read i e at = let most = fits.entries_most in let low = get_within (views k).log.entries i e at in let p = fits.pairs i e at in
        let a : area_word k + 8 + 2 * i ≡ word_of_entry o.shape k i + 0 = omega arith in let b : area_word k + 9 + 2 * i ≡ word_of_entry o.shape k i + 1 = omega arith in
        let one : slice_index image (area_word k + 8 + 2 * i) ≡ entry_head e = ap (slice_index image) a ∙ (pair_stays i 0 (omega arith) (omega arith) ∙ p.0) in
        let other : slice_index image (area_word k + 9 + 2 * i) ≡ e.value = ap (slice_index image) b ∙ (pair_stays i 1 (omega arith) (omega arith) ∙ p.1) in
        λ t. one t ∷ other t ∷ []

    pub entries_read : entries image k ≡ map redo_at (views k).log.entries
    entries_read = sym (entries_sealed image k is_there) ∙ (ap (λ n. filter_map (λ i. redo_of (entry_pair image k i)) (range_with_len 0 n)) full
        ∙ read_all (λ i. redo_of (entry_pair image k i)) (views k).log.entries 0 (λ i e at. let first : 0 + i ≡ i = omega arith in ap (λ j. redo_of (entry_pair image k j)) first ∙ (ap redo_of (pair_read i e at) ∙ redo_again e)))

    pub generation_read : generation image k ≡ suc (views k).log.generation
    generation_read = let n = long in let place : area_word k + 7 + 2 * seal_word image k ≡ area_word k + 9 + 2 * length whole.front = omega arith in
        let at : IsEntryAt (views k).log (length whole.front) (ends_with o.shape k (views k).log.generation) = ap (λ es. slice_get es (length whole.front)) whole.are ∙ last_at whole.front (ends_with o.shape k (views k).log.generation) in
        let more : (views k).log.generation + 1 ≡ suc (views k).log.generation = omega arith in
        cond-true _ _ _ is_there ∙ (ap (slice_index image) place ∙ (ap (λ (pair : List ℕ). slice_index pair 1) (pair_read (length whole.front) (ends_with o.shape k (views k).log.generation) at) ∙ more))

  unsealed_entries : seal_word image k ≡ 0 → entries image k ≡ []
  unsealed_entries z = entries_unsealed image k (not_sealed image k z)

  unsealed_generation : seal_word image k ≡ 0 → generation image k ≡ generation_word image k
  unsealed_generation z = cond-false _ _ _ (not_sealed image k z)

  -- ---- SLOTS

  image_long : length image ≡ words_of o.shape
  image_long = sv.size ∙ x.size

  slot_stays : (j : ℕ) → j < 64 → ((w : ℕ) → 8 * line_of_slot o.shape k j ≤ w → w < 8 * line_of_slot o.shape k j + 8 → AreaTaken o mem views g x image sv k w → ⊥) → undo_slot image k j ≡ slot_list ((cells_of o.shape mem).slot k j)
  slot_stays j a none_ = let m = image_long in slice_eight image (8 * slot_line k j) (omega arith) ∙ slots_alike (λ i. slice_index image (8 * slot_line k j + i)) ((cells_of o.shape mem).slot k j) (λ i l.
      let w : word_of_generation o.shape k + (136 + 8 * j + i) ≡ 8 * line_of_slot o.shape k j + i = omega arith in
      ⊎_elim (λ e. ap (slice_index image) (sym w) ∙ (e ∙ ap (λ z. mem (PoolWord z)) w)) (λ t. absurd (none_ (word_of_generation o.shape k + (136 + 8 * j + i)) (omega arith) (omega arith) t)) (area_left o mem views g x image sv k (136 + 8 * j + i) ink (omega arith)))

  -- as it stands in memory
  slot_held : (j : ℕ) (r : Recorded) → IsRecordAt (views k).log j r → undo_of (slot_list ((cells_of o.shape mem).slot k j)) ≡ Some (undo_from o.shape (views k).log.generation r)
  slot_held j r at = let f = fits.records j r at in ap undo_of (slots_alike ((cells_of o.shape mem).slot k j) (slice_index (spelled o.shape (views k).log.generation r)) (λ i l. f.0 i l) ∙ sym (eight (spelled o.shape (views k).log.generation r) (spelled_long o.shape (views k).log.generation r f.2)))
      ∙ undo_spelled o.shape (views k).log.generation r f.2

  -- in a slot of which nothing is undrained, or which is in use no more
  module _ (s : HasSettled (views k).log.phase) where
    settled_slot : (j : ℕ) → j < 64 → undo_slot image k j ≡ slot_list ((cells_of o.shape mem).slot k j)
    settled_slot j a = slot_stays j a (λ w low high t. no_slot_change (views k).log.phase (length (views k).log.entries) (views k).log.generation t.seen s
        (subst (λ p. AreaChange (views k).log.phase (length (views k).log.entries) (views k).log.generation p t.seen) (slot_part o.shape k w (omega arith) (omega arith)) t.is))

    used_now : used_slots (views k).log ≡ length (views k).log.records
    used_now = used_whole (views k).log (no_part_of o.shape k (Rattle.pm_world.specs.Sights.sight_of (views k)).picture (views k).log (views k).changes (views k).log.phase s fits.phase)

    pub bare_next : generation image k ≡ suc (views k).log.generation → IsBare
    bare_next e = record {
      none_valid = λ j u a valid. let p = valid_parts image k j u valid in let st : undo_of (slot_list ((cells_of o.shape mem).slot k j)) ≡ Some u = sym (ap undo_of (settled_slot j a)) ∙ p.0 in let n = p.1 in
          ⊎_elim (λ (l : j < length (views k).log.records). let r = get_some (views k).log.records j l in let same = same_Some (undo_from o.shape (views k).log.generation r.0) u (sym (slot_held j r.0 r.1) ∙ st) in
          let q : u.generation ≡ (views k).log.generation = ap (λ (z : Undo). z.generation) (sym same) in omega arith)
          (λ (l : length (views k).log.records ≤ j). let d = used_now in let z = fits.stale j u (omega arith) a st in omega arith) (cases_lt j (length (views k).log.records));
    }

    pub bare_idle : (views k).log.records ≡ [] → generation image k ≡ (views k).log.generation → IsBare
    bare_idle none_ e = record {
      none_valid = λ j u a valid. let p = valid_parts image k j u valid in let st : undo_of (slot_list ((cells_of o.shape mem).slot k j)) ≡ Some u = sym (ap undo_of (settled_slot j a)) ∙ p.0 in let n = p.1 in
          let d = used_now in let m : length (views k).log.records ≡ 0 = ap length none_ in let z = fits.stale j u (omega arith) a st in omega arith;
    }

  -- a valid record of the log's generation is the log's, or one that could be written there now
  pub record Held (j : ℕ) (u : Undo) : Type 0 where
    pub held : Recorded
    pub lawful : IsRecordAt (views k).log j held ⊎ ((length (views k).log.records ≡ j) × IsNextRecord (views k) held)
    pub is : u ≡ undo_from o.shape (views k).log.generation held
    pub most : length held.old ≤ 4
    pub raisable : (views k).log.generation < greatest_generation o.shape

  module _ (c : Current) where
    lane_is : (views k).fixed.lane ≡ k
    lane_is = (x.each_lane k c.runs).lane

    shape_is : (views k).fixed.shape ≡ o.shape
    shape_is = (x.each_lane k c.runs).shape

    drained_slot : (j : ℕ) → j < 64 → is_slot_drained (views k).fixed.shape (views k).fixed.lane (views k).changes j ≡ true → undo_slot image k j ≡ slot_list ((cells_of o.shape mem).slot k j)
    drained_slot j a e = slot_stays j a (λ w low high t. let there = t.there in let of = t.of_word in let n = lane_is in
        both_ways (is_slot_drained (views k).fixed.shape (views k).fixed.lane (views k).changes j) (ap not (list_any_at (is_in_line (line_of_slot (views k).fixed.shape (views k).fixed.lane j)) (views k).changes there.0 t.seen there.1
        (ap (is_in_line (line_of_slot (views k).fixed.shape (views k).fixed.lane j)) there.2 ∙ eq-eqb (t.seen.word / 8) (line_of_slot (views k).fixed.shape (views k).fixed.lane j) (omega arith)))) e)

    -- a slot that is being written is one that has words of this generation
    slot_used : (j : ℕ) → j < 64 → (is_slot_drained (views k).fixed.shape (views k).fixed.lane (views k).changes j ≡ false) ⊎ ((length (views k).log.records ≤ j) × (j < used_slots (views k).log)) → j < used_slots (views k).log
    slot_used j a b = ⊎_elim (λ (d : is_slot_drained (views k).fixed.shape (views k).fixed.lane (views k).changes j ≡ false).
        let y = any_at (is_in_line (line_of_slot (views k).fixed.shape (views k).fixed.lane j)) (views k).changes (not-false (list_any (is_in_line (line_of_slot (views k).fixed.shape (views k).fixed.lane j)) (views k).changes) d) in
        let n = lane_is in let line = eqb-true (y.0.word / 8) (line_of_slot (views k).fixed.shape (views k).fixed.lane j) y.2 in
        let z = All-contains (λ (c : Undrained). part_of o.shape k c.word ≡ SlotPart → c.word < 8 * line_of_slot o.shape k (used_slots (views k).log)) (views k).changes y.0 fits.slot_changes y.1 (slot_part o.shape k y.0.word (omega arith) (omega arith)) in omega arith)
        (λ (z : (length (views k).log.records ≤ j) × (j < used_slots (views k).log)). z.1) b
      where
        not-false : (t : Bool) → not t ≡ false → t ≡ true
        not-false true e = refl
        not-false false e = absurd (both_ways true e refl)

    pub held_now : (j : ℕ) (u : Undo) → j < 64 → valid_record image k j ≡ Some u → Held j u
    held_now j u a valid = let p = valid_parts image k j u valid in ⊎_elim
        (λ (d : is_slot_drained (views k).fixed.shape (views k).fixed.lane (views k).changes j ≡ true). let st : undo_of (slot_list ((cells_of o.shape mem).slot k j)) ≡ Some u = sym (ap undo_of (drained_slot j a d)) ∙ p.0 in
        ⊎_elim (λ (l : j < length (views k).log.records). let r = get_some (views k).log.records j l in record { held = r.0; lawful = inl r.1; is = sym (same_Some (undo_from o.shape (views k).log.generation r.0) u (sym (slot_held j r.0 r.1) ∙ st)); most = (fits.records j r.0 r.1).2; raisable = fits.below (inr (inl (omega arith))) })
        (λ (l : length (views k).log.records ≤ j). ⊎_elim (λ (z : j < used_slots (views k).log). written (inr (l, z))) (λ (z : used_slots (views k).log ≤ j). let q = p.1 in let b = c.present in let y = fits.stale j u z a st in absurd (omega arith)) (cases_lt j (used_slots (views k).log)))
        (cases_lt j (length (views k).log.records)))
        (λ (d : is_slot_drained (views k).fixed.shape (views k).fixed.lane (views k).changes j ≡ false). written (inl d)) (cases_Bool (is_slot_drained (views k).fixed.shape (views k).fixed.lane (views k).changes j))
      where
        written : (is_slot_drained (views k).fixed.shape (views k).fixed.lane (views k).changes j ≡ false) ⊎ ((length (views k).log.records ≤ j) × (j < used_slots (views k).log)) → Held j u
        written b = let t = torn k j u c.runs a b valid in let sp : undo_slot image k j ≡ spelled o.shape (views k).log.generation t.held = ap (λ n. undo_slot image n j) (sym lane_is) ∙ (t.spells ∙ ap (λ s. spelled s (views k).log.generation t.held) shape_is) in
            let used = slot_used j a b in let near = used_most (views k).log in let most : length t.held.old ≤ 4 = ⊎_elim (λ at. (fits.records j t.held at).2) (λ (z : (length (views k).log.records ≤ j) × IsNextRecord (views k) t.held). z.1.most) t.lawful in
            record { held = t.held; lawful = ⊎_elim (λ at. inl at) (λ (z : (length (views k).log.records ≤ j) × IsNextRecord (views k) t.held). inr ((let low = z.0 in omega arith), z.1)) t.lawful; most = most; raisable = fits.below (inr (inl (omega arith))); is = same_Some u (undo_from o.shape (views k).log.generation t.held) (sym (valid_parts image k j u valid).0 ∙ (ap undo_of sp ∙ undo_spelled o.shape (views k).log.generation t.held most)) }

    -- and a drained record of the log is valid
    pub valid_now : (j : ℕ) (r : Recorded) → IsRecordAt (views k).log j r → is_slot_drained (views k).fixed.shape (views k).fixed.lane (views k).changes j ≡ true → (j < 64) × (valid_record image k j ≡ Some (undo_from o.shape (views k).log.generation r))
    valid_now j r at d = let low = get_within (views k).log.records j r at in let most = fits.records_most in let a : j < 64 = omega arith in
        (a, valid_from image k j (undo_from o.shape (views k).log.generation r) (ap undo_of (drained_slot j a d) ∙ slot_held j r at) (sym c.present))

  -- ---- BY HOW FAR THE CALL HAS COME

  abbrev pub LaneCase : Phase → Type 0
  LaneCase Idle = Silent
  LaneCase Open = Current
  LaneCase (Drawn n) = Current
  LaneCase (Sealing n) = (Sealed × (seal_word image k ≢ 0)) ⊎ (Current × (seal_word image k ≡ 0))
  LaneCase (Applying todo) = Sealed
  LaneCase Clearing = Sealed ⊎ Silent
  LaneCase (Retiring n) = (Silent × (generation_word image k ≡ suc (views k).log.generation)) ⊎ (Current × (generation_word image k ≡ (views k).log.generation))
  LaneCase Voiding = Silent ⊎ Current

  at_work : (ph : Phase) → (views k).log.phase ≡ ph → (ph ≡ Idle → ⊥) → k < o.lanes
  at_work ph e n = ⊎_elim (λ (l : k < o.lanes). l) (λ (out : o.lanes ≤ k). absurd (n (sym e ∙ (x.idle_beyond k out).1))) (cases_lt k o.lanes)

  sealed_now : HasSealed (views k).log.phase → HasSettled (views k).log.phase → seal_word image k ≡ length (views k).log.entries → Sealed
  sealed_now s d full = record { bare = bare_next d (generation_read s full); all_sealed = entries_read s full; whole = whole s full; full = full; read = pair_read s full }

  some_sealed : HasSealed (views k).log.phase → seal_word image k ≡ length (views k).log.entries → seal_word image k ≢ 0
  some_sealed s full z = let n = long s full in omega arith

  current_now : k < o.lanes → seal_word image k ≡ 0 → generation_word image k ≡ (views k).log.generation → Current
  current_now r z e = record { runs = r; none_sealed = unsealed_entries z; unsealed = z; present = unsealed_generation z ∙ e }

  silent_now : HasSettled (views k).log.phase → seal_word image k ≡ 0 → generation_word image k ≡ suc (views k).log.generation → Silent
  silent_now d z e = record { bare = bare_next d (unsealed_generation z ∙ e); none_sealed = unsealed_entries z; unsealed = z }

  by_phase : (ph : Phase) → (views k).log.phase ≡ ph → SealIs (length (views k).log.entries) (seal_word image k) ph → GenerationIs (views k).log.generation (generation_word image k) ph → LaneCase ph
  by_phase Idle e s n = let d : HasSettled (views k).log.phase = subst HasSettled (sym e) tt in let f = subst (PhaseFits o.shape k (Rattle.pm_world.specs.Sights.sight_of (views k)).picture (views k).log (views k).changes) e fits.phase in
      record { bare = bare_idle d f.0 (unsealed_generation s ∙ n); none_sealed = unsealed_entries s; unsealed = s }
  by_phase Open e s n = current_now (at_work Open e (λ q. absurd cc)) s n
  by_phase (Drawn m) e s n = current_now (at_work (Drawn m) e (λ q. absurd cc)) s n
  by_phase (Sealing m) e s n = let h : HasSealed (views k).log.phase = subst HasSealed (sym e) tt in let d : HasSettled (views k).log.phase = subst HasSettled (sym e) tt in
      ⊎_elim (λ full. inl (sealed_now h d full, some_sealed h full)) (λ z. inr (current_now (at_work (Sealing m) e (λ q. absurd cc)) z n, z)) s
  by_phase (Applying t) e s n = sealed_now (subst HasSealed (sym e) tt) (subst HasSettled (sym e) tt) s
  by_phase Clearing e s n = ⊎_elim (λ z. inr (silent_now (subst HasSettled (sym e) tt) z n)) (λ full. inl (sealed_now (subst HasSealed (sym e) tt) (subst HasSettled (sym e) tt) full)) s
  by_phase (Retiring m) e s n = ⊎_elim (λ q. inl (silent_now (subst HasSettled (sym e) tt) s q, q)) (λ q. inr (current_now (at_work (Retiring m) e (λ z. absurd cc)) s q, q)) n
  by_phase Voiding e s n = ⊎_elim (λ q. inl (silent_now (subst HasSettled (sym e) tt) s q)) (λ q. inr (current_now (at_work Voiding e (λ z. absurd cc)) s q)) n

  pub lane_case : LaneCase (views k).log.phase
  lane_case = by_phase (views k).log.phase refl (seal_is o mem views g x image sv k ink) (generation_is o mem views g x image sv k ink)
