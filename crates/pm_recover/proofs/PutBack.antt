-- The words of records put back one after the other, the last first.
use Rattle.std.proofs.Common.{◌≡◌, ⊎_elim, ℕ, suc, ◌+◌, ◌-◌, ◌*◌, ◌/◌, ◌%◌, ◌<◌, ◌≤◌, ◌&&◌, Bool, true, false, cond, eqb, leb, ltb, List, [], ◌∷◌, ◌++◌, length, slice_index, Option, None, Some, refl, sym, ◌∙◌, ap, subst, arith}
use Rattle.std.specs.List.{find, flat_map, range_with_len}
use Rattle.std.specs.Option.{option_or, option_to_list}
use Rattle.std.proofs.lemmas.Bool.{and_from, and_left, and_right, cases_lt, eq-eqb, le-leb, le-ltb, lt-leb, lt-ltb}
use Rattle.std.proofs.lemmas.List.Folds.{find-append}
use Rattle.pm_record.specs.declared.undo.Undo.{Undo}
use Rattle.pm_image.specs.Logs.{area_word, covers, generation, old_word, records, restored}
use Rattle.pm_image.specs.Steps.{HasLanes, valid_record}
use Rattle.pm_image.proofs.Gathering.{record_at, records_by_number}
use Rattle.pm_recover.specs.Steps.{AreRestored, AreWritten, HasSoundLogs, IsRestorable}
use Rattle.pm_recover.proofs.Areas.{SameLane, same_generation, same_records, same_valid}
use Rattle.pm_recover.proofs.Parts.{found_in_no_part}

-- the record covers the word with this number
abbrev pub covers_word : ℕ → Undo → Bool
covers_word i u = covers u (8 * i)

-- the first of these records that covers the word
abbrev pub first_for : List Undo → ℕ → Option Undo
first_for us i = find (λ u. covers u (8 * i)) us

pub none_restored : (old : List ℕ) → AreRestored [] old old
none_restored old = record { as_long = refl; each = λ i inside. refl }

either_restored : (o r : Option Undo) (place word : ℕ) → restored o place (restored r place word) ≡ restored (option_or o r) place word
either_restored None r place word = refl
either_restored (Some u) r place word = refl

-- records put back before those behind them count more
pub restored_then : (us vs : List Undo) (old now new : List ℕ) → AreRestored vs old now → AreRestored us now new → AreRestored (us ++ vs) old new
restored_then us vs old now new before is = record {
  as_long = is.as_long ∙ before.as_long;
  each = λ i inside.
      let still : i < length now = subst (λ (n : ℕ). i < n) (sym before.as_long) inside in
      is.each i still
      ∙ ap (restored (first_for us i) (8 * i)) (before.each i inside)
      ∙ either_restored (first_for us i) (first_for vs i) (8 * i) (slice_index old i)
      ∙ ap (λ (o : Option Undo). restored o (8 * i) (slice_index old i)) (sym (find-append (covers_word i) us vs));
}

-- a record does not cover a word before its own, nor one behind them
not_below : (u : Undo) (place : ℕ) → place < u.place → covers u place ≡ false
not_below u place below =
    and_left (leb u.place place && ltb ((place - u.place) / 8) u.count && ltb ((place - u.place) / 8) 4) (eqb ((place - u.place) % 8) 0)
    (and_left (leb u.place place && ltb ((place - u.place) / 8) u.count) (ltb ((place - u.place) / 8) 4)
    (and_left (leb u.place place) (ltb ((place - u.place) / 8) u.count) (lt-leb u.place place below)))

not_above : (u : Undo) (place : ℕ) → u.count ≤ (place - u.place) / 8 → covers u place ≡ false
not_above u place above =
    and_left (leb u.place place && ltb ((place - u.place) / 8) u.count && ltb ((place - u.place) / 8) 4) (eqb ((place - u.place) % 8) 0)
    (and_left (leb u.place place && ltb ((place - u.place) / 8) u.count) (ltb ((place - u.place) / 8) 4)
    (and_right (leb u.place place) (ltb ((place - u.place) / 8) u.count) (le-ltb ((place - u.place) / 8) u.count above)))

covered : (u : Undo) (place : ℕ) → u.place ≤ place → (place - u.place) / 8 < u.count → u.count ≤ 4 → (place - u.place) % 8 ≡ 0 → covers u place ≡ true
covered u place from to few aligned =
    and_from (leb u.place place && ltb ((place - u.place) / 8) u.count && ltb ((place - u.place) / 8) 4) (eqb ((place - u.place) % 8) 0)
    (and_from (leb u.place place && ltb ((place - u.place) / 8) u.count) (ltb ((place - u.place) / 8) 4)
    (and_from (leb u.place place) (ltb ((place - u.place) / 8) u.count) (le-leb u.place place from) (lt-ltb ((place - u.place) / 8) u.count to))
    (lt-ltb ((place - u.place) / 8) 4 (omega arith)))
    (eq-eqb ((place - u.place) % 8) 0 aligned)

-- what one record restores
by_one : (u : Undo) (i word : ℕ) (b : Bool) → covers u (8 * i) ≡ b → restored (first_for (u ∷ []) i) (8 * i) word ≡ cond b (old_word u (8 * i)) word
by_one u i word true is = ap (λ (b : Bool). restored (cond b (Some u) None) (8 * i) word) is
by_one u i word false is = ap (λ (b : Bool). restored (cond b (Some u) None) (8 * i) word) is

pub record_written : (u : Undo) (old new : List ℕ) → u.place % 8 ≡ 0 → u.count ≤ 4 → AreWritten u.old (u.place / 8) u.count old new → AreRestored (u ∷ []) old new
record_written u old new aligned few is = record {
  as_long = is.as_long;
  each = λ i inside.
      ⊎_elim
      (λ (below : i < u.place / 8). let other : covers u (8 * i) ≡ false = not_below u (8 * i) (omega arith) in is.below i below ∙ sym (by_one u i (slice_index old i) false other))
      (λ (from : u.place / 8 ≤ i).
      ⊎_elim
      (λ (to : i < u.place / 8 + u.count).
      let here : covers u (8 * i) ≡ true = covered u (8 * i) (omega arith) (omega arith) few (omega arith) in
      let k : ℕ = i - u.place / 8 in
      let there : i ≡ u.place / 8 + (i - u.place / 8) = omega arith in
      let number : i - u.place / 8 ≡ (8 * i - u.place) / 8 = omega arith in
      ap (slice_index new) there ∙ is.inside (i - u.place / 8) (omega arith) ∙ ap (slice_index u.old) number ∙ sym (by_one u i (slice_index old i) true here))
      (λ (above : u.place / 8 + u.count ≤ i).
      let other : covers u (8 * i) ≡ false = not_above u (8 * i) (omega arith) in is.above i above ∙ sym (by_one u i (slice_index old i) false other))
      (cases_lt i (u.place / 8 + u.count)))
      (cases_lt i (u.place / 8));
}

-- no valid record covers a word of a lane's area, or before it
slot_covers_none : (image : List ℕ) (lanes lane slot i : ℕ) → HasSoundLogs image lanes → lane < lanes → slot < 64 → i < area_word lanes → first_for (record_at image lane slot) i ≡ None
slot_covers_none image lanes lane slot i sound in_lanes in_slots front = go (valid_record image lane slot) refl where
  go : (o : Option Undo) → valid_record image lane slot ≡ o → first_for (option_to_list o) i ≡ None
  go None is = refl
  go (Some u) is =
      let known : IsRestorable image lanes u = sound.restorable lane slot u in_lanes in_slots is in
      let behind : area_word lanes ≤ u.place / 8 = known.behind in
      ap (λ (b : Bool). cond b (Some u) None) (not_below u (8 * i) (omega arith))

pub slots_cover_none : (image : List ℕ) (lanes lane from n i : ℕ) → HasSoundLogs image lanes → lane < lanes → from + n ≤ 64 → i < area_word lanes
    → first_for (flat_map (record_at image lane) (range_with_len from n)) i ≡ None
slots_cover_none image lanes lane from n i sound in_lanes few front =
    found_in_no_part (covers_word i) (record_at image lane) from n (λ slot behind near. slot_covers_none image lanes lane slot i sound in_lanes (omega arith) front)

pub lanes_cover_none : (image : List ℕ) (lanes from n i : ℕ) → HasSoundLogs image lanes → from + n ≤ lanes → i < area_word lanes
    → first_for (flat_map (records image) (range_with_len from n)) i ≡ None
lanes_cover_none image lanes from n i sound few front =
    found_in_no_part (covers_word i) (records image) from n (λ lane behind near.
    ap (λ (us : List Undo). first_for us i) (records_by_number image lane) ∙ slots_cover_none image lanes lane 0 64 i sound (omega arith) (omega arith) front)

-- where no record covers a word it stays
pub kept : (us : List Undo) (old new : List ℕ) (i : ℕ) → AreRestored us old new → i < length old → first_for us i ≡ None → slice_index new i ≡ slice_index old i
kept us old new i is inside none = is.each i inside ∙ ap (λ (o : Option Undo). restored o (8 * i) (slice_index old i)) none

-- another image with the same words in so many areas
pub record SameAreas (one other : List ℕ) (lanes : ℕ) : Type 0 where
  pub as_long : length other ≡ length one
  pub same : (i : ℕ) → area_word 0 ≤ i → i < area_word lanes → slice_index other i ≡ slice_index one i

pub same_lane : (one other : List ℕ) (lanes lane : ℕ) → HasSoundLogs one lanes → SameAreas one other lanes → lane < lanes → SameLane one other lane
same_lane one other lanes lane sound front inside =
    let areas : 512 + 1024 * lanes ≤ length one = sound.has_lanes.areas in
    let long : length other ≡ length one = front.as_long in
    record {
      log = record { long = omega arith; as_long = omega arith; same = λ i from to. sym (front.same i (omega arith) (omega arith)) };
      generation = sym (front.same (area_word lane) (omega arith) (omega arith));
      seal = sym (front.same (area_word lane + 1) (omega arith) (omega arith));
    }

pub sound_too : (one other : List ℕ) (lanes : ℕ) → HasSoundLogs one lanes → SameAreas one other lanes → HasSoundLogs other lanes
sound_too one other lanes sound front =
    let has : HasLanes one lanes = sound.has_lanes in
    let generations : (lane : ℕ) → lane < lanes → generation one lane ≡ generation other lane = λ lane inside. same_generation one other lane (same_lane one other lanes lane sound front inside) in
    record {
      has_lanes = record { lanes_fit = has.lanes_fit; areas = subst (λ (n : ℕ). 512 + 1024 * lanes ≤ n) (sym front.as_long) has.areas; small = subst (λ (n : ℕ). n ≤ 1098240) (sym front.as_long) has.small };
      first_generation = λ lane inside. subst (λ (n : ℕ). 1 ≤ n) (generations lane inside) (sound.first_generation lane inside);
      last_generation = λ lane inside. subst (λ (n : ℕ). n ≤ 4611686018427387904) (generations lane inside) (sound.last_generation lane inside);
      restorable = λ lane slot u in_lanes in_slots is.
          let known : IsRestorable one lanes u = sound.restorable lane slot u in_lanes in_slots (same_valid one other lane slot (same_lane one other lanes lane sound front in_lanes) in_slots ∙ is) in
          record { aligned = known.aligned; few = known.few; behind = known.behind; within = subst (λ (n : ℕ). u.place / 8 + u.count ≤ n) (sym front.as_long) known.within; raisable = known.raisable };
    }

pub fewer_lanes : (image : List ℕ) (lanes n : ℕ) → HasSoundLogs image lanes → n ≤ lanes → HasSoundLogs image n
fewer_lanes image lanes n sound few =
    let has : HasLanes image lanes = sound.has_lanes in
    record {
      has_lanes = record { lanes_fit = omega arith; areas = omega arith; small = has.small };
      first_generation = λ lane inside. sound.first_generation lane (omega arith);
      last_generation = λ lane inside. sound.last_generation lane (omega arith);
      restorable = λ lane slot u in_lanes in_slots is.
          let known : IsRestorable image lanes u = sound.restorable lane slot u (omega arith) in_slots is in
          record { aligned = known.aligned; few = known.few; behind = omega arith; within = known.within; raisable = known.raisable };
    }

front_of_slots : (old now : List ℕ) (lanes lane from n : ℕ) → HasSoundLogs old lanes → lane < lanes → from + n ≤ 64 → AreRestored (flat_map (record_at old lane) (range_with_len from n)) old now → SameAreas old now lanes
front_of_slots old now lanes lane from n sound inside few is =
    let areas : 512 + 1024 * lanes ≤ length old = sound.has_lanes.areas in
    record { as_long = is.as_long; same = λ i from_areas front. kept _ old now i is (omega arith) (slots_cover_none old lanes lane from n i sound inside few front) }

front_of_lanes : (old now : List ℕ) (lanes from n : ℕ) → HasSoundLogs old lanes → from + n ≤ lanes → AreRestored (flat_map (records old) (range_with_len from n)) old now → SameAreas old now lanes
front_of_lanes old now lanes from n sound few is =
    let areas : 512 + 1024 * lanes ≤ length old = sound.has_lanes.areas in
    record { as_long = is.as_long; same = λ i from_areas front. kept _ old now i is (omega arith) (lanes_cover_none old lanes from n i sound few front) }

pub front_of_all : (old now : List ℕ) (lanes : ℕ) → HasSoundLogs old lanes → AreRestored (flat_map (records old) (range_with_len 0 lanes)) old now → SameAreas old now lanes
front_of_all old now lanes sound is = front_of_lanes old now lanes 0 lanes sound (omega arith) is

-- once the records of the slots from one on are put back, the logs are sound as before, and the record of the slot before it comes first
pub sound_behind_slot : (old now : List ℕ) (lane from n : ℕ) → HasSoundLogs old (lane + 1) → from + n ≤ 64 → AreRestored (flat_map (record_at old lane) (range_with_len from n)) old now → HasSoundLogs now (lane + 1)
sound_behind_slot old now lane from n sound few is = sound_too old now (lane + 1) sound (front_of_slots old now (lane + 1) lane from n sound (omega arith) few is)

slot_before : (old now new : List ℕ) (lane slot n : ℕ) → HasSoundLogs old (lane + 1) → slot + 1 + n ≤ 64 → AreRestored (flat_map (record_at old lane) (range_with_len (slot + 1) n)) old now
    → AreRestored (option_to_list (valid_record now lane slot)) now new → AreRestored (flat_map (record_at old lane) (range_with_len slot (suc n))) old new
slot_before old now new lane slot n sound few before is =
    let front : SameAreas old now (lane + 1) = front_of_slots old now (lane + 1) lane (slot + 1) n sound (omega arith) few before in
    let same : valid_record old lane slot ≡ valid_record now lane slot = same_valid old now lane slot (same_lane old now (lane + 1) lane sound front (omega arith)) (omega arith) in
    restored_then (record_at old lane slot) (flat_map (record_at old lane) (range_with_len (slot + 1) n)) old now new before (subst (λ (o : Option Undo). AreRestored (option_to_list o) now new) (sym same) is)

pub slot_more : (old now new : List ℕ) (lane slot from n m : ℕ) → from ≡ slot + 1 → m ≡ suc n → HasSoundLogs old (lane + 1) → from + n ≤ 64 → AreRestored (flat_map (record_at old lane) (range_with_len from n)) old now
    → AreRestored (option_to_list (valid_record now lane slot)) now new → AreRestored (flat_map (record_at old lane) (range_with_len slot m)) old new
slot_more old now new lane slot from n m next more sound few before is =
    subst (λ (k : ℕ). AreRestored (flat_map (record_at old lane) (range_with_len slot k)) old new) (sym more)
    (slot_before old now new lane slot n sound (omega arith) (subst (λ (k : ℕ). AreRestored (flat_map (record_at old lane) (range_with_len k n)) old now) next before) is)

pub all_slots : (old new : List ℕ) (lane from n : ℕ) → from ≡ 0 → n ≡ 64 → AreRestored (flat_map (record_at old lane) (range_with_len from n)) old new → AreRestored (records old lane) old new
all_slots old new lane from n first whole is =
    subst (λ (us : List Undo). AreRestored us old new) ((λ j. flat_map (record_at old lane) (range_with_len (first j) (whole j))) ∙ sym (records_by_number old lane)) is

-- the same for lanes
pub sound_behind_lane : (old now : List ℕ) (lanes lane from n : ℕ) → from ≡ lane + 1 → HasSoundLogs old lanes → from + n ≤ lanes → AreRestored (flat_map (records old) (range_with_len from n)) old now → HasSoundLogs now (lane + 1)
sound_behind_lane old now lanes lane from n next sound few is =
    fewer_lanes now lanes (lane + 1) (sound_too old now lanes sound (front_of_lanes old now lanes from n sound few is)) (omega arith)

lane_before : (old now new : List ℕ) (lanes lane n : ℕ) → HasSoundLogs old lanes → lane + 1 + n ≤ lanes → AreRestored (flat_map (records old) (range_with_len (lane + 1) n)) old now
    → AreRestored (records now lane) now new → AreRestored (flat_map (records old) (range_with_len lane (suc n))) old new
lane_before old now new lanes lane n sound few before is =
    let front : SameAreas old now lanes = front_of_lanes old now lanes (lane + 1) n sound few before in
    let same : records old lane ≡ records now lane = same_records old now lane (same_lane old now lanes lane sound front (omega arith)) in
    restored_then (records old lane) (flat_map (records old) (range_with_len (lane + 1) n)) old now new before (subst (λ (us : List Undo). AreRestored us now new) (sym same) is)

pub lane_more : (old now new : List ℕ) (lanes lane from n m : ℕ) → from ≡ lane + 1 → m ≡ suc n → HasSoundLogs old lanes → from + n ≤ lanes → AreRestored (flat_map (records old) (range_with_len from n)) old now
    → AreRestored (records now lane) now new → AreRestored (flat_map (records old) (range_with_len lane m)) old new
lane_more old now new lanes lane from n m next more sound few before is =
    subst (λ (k : ℕ). AreRestored (flat_map (records old) (range_with_len lane k)) old new) (sym more)
    (lane_before old now new lanes lane n sound (omega arith) (subst (λ (k : ℕ). AreRestored (flat_map (records old) (range_with_len k n)) old now) next before) is)
