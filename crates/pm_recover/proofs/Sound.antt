-- Where the logs of an image have no fault: what is known of each lane and each valid record.
use Rattle.std.proofs.Common.{◌≡◌, ◌≢◌, ℕ, ◌+◌, ◌-◌, ◌*◌, ◌/◌, ◌%◌, ◌<◌, ◌≤◌, ◌&&◌, ◌||◌, ◌⊎◌, inl, inr, cond, Bool, true, false, not, eqb, leb, ltb, List, [], ◌∷◌, length, Option, None, Some, refl, sym, ◌∙◌, ap, subst, arith}
use Rattle.std.specs.List.{filter, find, flat_map, list_all, range_with_len}
use Rattle.std.specs.Option.{option_map_or, option_or}
use Rattle.std.proofs.lemmas.Bool.{and_from, and_parts, eqb-true, eqb-false, leb-true, ltb-true, lt-ltb, not-true, not-false, or_parts, false≢true}
use Rattle.pm_record.specs.Undo.{undo_of}
use Rattle.pm_record.specs.declared.redo.Redo.{Redo}
use Rattle.pm_record.specs.declared.undo.Undo.{Undo}
use Rattle.pm_objects.specs.declared.pool.PoolView.{PoolView}
use Rattle.pm_image.specs.declared.fault.ImageFault.{ImageFault}
use Rattle.pm_image.specs.declared.fault.ImageFault.TheVariants as fault
use Rattle.pm_image.specs.Logs.{covers, entries_for, generation, generation_word, is_sealed, record_for, records, recovered_at, seal_word, undo_slot}
use Rattle.pm_image.specs.LogFaults.{bad_entry, bad_slot, clash_fault, clashes, good_lane, good_record, in_chunk, lane_fault, lanes_clash, log_fault, records_for, redo_fault, undo_fault, zones_word}
use Rattle.pm_image.specs.HeapFaults.{heap_fault}
use Rattle.pm_image.specs.Means.{HasShape, IsMeaning}
use Rattle.pm_image.specs.Steps.{HasLanes, valid_record}
use Rattle.pm_image.proofs.FaultFree.{neither}
use Rattle.pm_image.proofs.Finding.{found_nothing}
use Rattle.pm_image.proofs.Firsts.{fails_at_each}
use Rattle.pm_recover.specs.Steps.{HasApartLogs, HasSoundLogs, IsRestorable}
use Rattle.pm_recover.proofs.Parts.{each_passes}
use Rattle.pm_recover.proofs.Slots.{generation_unsealed, valid_parts}
use Rattle.pm_recover.proofs.Targets.{HasHeaderKept, header_kept, last_sets}

has_lanes : (image : List ℕ) (lanes zones : ℕ) → HasShape image lanes zones → HasLanes image lanes
has_lanes image lanes zones shape =
    let is = shape.shape in
    let size : 4096 + 8192 * lanes + 266240 * zones ≡ 8 * length image = shape.size in
    record { lanes_fit = is.lanes_to; areas = omega arith; small = omega arith }

-- the rows of the logs' faults
pub record NoLogFaults (image : List ℕ) (lanes zones : ℕ) : Type 0 where
  lane_row : find (λ k. not (good_lane image k)) (range_with_len 0 lanes) ≡ None
  pub entry_row : find (λ n. bad_entry image lanes zones (n / 64) (n % 64)) (range_with_len 0 (64 * lanes)) ≡ None
  slot_row : find (λ n. bad_slot image lanes zones (n / 64) (n % 64)) (range_with_len 0 (64 * lanes)) ≡ None
  clash_row : find (λ i. clashes image lanes (8 * i)) (range_with_len 0 (length image)) ≡ None

no_bad_lane : (image : List ℕ) (lanes : ℕ) → lane_fault image lanes ≡ None → find (λ k. not (good_lane image k)) (range_with_len 0 lanes) ≡ None
unfolding lane_fault
no_bad_lane image lanes none = found_nothing fault.Lane (find (λ k. not (good_lane image k)) (range_with_len 0 lanes)) none

no_bad_entry : (image : List ℕ) (lanes zones : ℕ) → redo_fault image lanes zones ≡ None → find (λ n. bad_entry image lanes zones (n / 64) (n % 64)) (range_with_len 0 (64 * lanes)) ≡ None
unfolding redo_fault
no_bad_entry image lanes zones none = found_nothing (λ n. fault.Redo (n / 64) (n % 64)) (find (λ n. bad_entry image lanes zones (n / 64) (n % 64)) (range_with_len 0 (64 * lanes))) none

no_bad_slot : (image : List ℕ) (lanes zones : ℕ) → undo_fault image lanes zones ≡ None → find (λ n. bad_slot image lanes zones (n / 64) (n % 64)) (range_with_len 0 (64 * lanes)) ≡ None
unfolding undo_fault
no_bad_slot image lanes zones none = found_nothing (λ n. fault.Undo (n / 64) (n % 64)) (find (λ n. bad_slot image lanes zones (n / 64) (n % 64)) (range_with_len 0 (64 * lanes))) none

no_clash : (image : List ℕ) (lanes : ℕ) → clash_fault image lanes ≡ None → find (λ i. clashes image lanes (8 * i)) (range_with_len 0 (length image)) ≡ None
unfolding clash_fault
no_clash image lanes none = found_nothing (λ i. fault.Clash (8 * i)) (find (λ i. clashes image lanes (8 * i)) (range_with_len 0 (length image))) none

pub no_log_faults : (image : List ℕ) (lanes zones : ℕ) → log_fault image lanes zones ≡ None → NoLogFaults image lanes zones
unfolding log_fault
no_log_faults image lanes zones none =
    let after_redo : Option ImageFault = option_or (undo_fault image lanes zones) (clash_fault image lanes) in
    let first = neither (lane_fault image lanes) (option_or (redo_fault image lanes zones) after_redo) none in
    let second = neither (redo_fault image lanes zones) after_redo first.1 in
    let third = neither (undo_fault image lanes zones) (clash_fault image lanes) second.1 in
    record { lane_row = no_bad_lane image lanes first.0; entry_row = no_bad_entry image lanes zones second.0; slot_row = no_bad_slot image lanes zones third.0; clash_row = no_clash image lanes third.1 }

generation_parts : (image : List ℕ) (lane : ℕ) → good_lane image lane ≡ true → (1 ≤ generation_word image lane) × (generation_word image lane ≤ 4611686018427387904)
unfolding good_lane
generation_parts image lane good =
    let g : ℕ = generation_word image lane in
    let s : ℕ = seal_word image lane in
    let first = and_parts (leb 1 g && leb g 4611686018427387904) (leb s 64) good in
    let second = and_parts (leb 1 g) (leb g 4611686018427387904) first.0 in
    (leb-true 1 g second.0, leb-true g 4611686018427387904 second.1)

-- a lane's generation is 1 to 2^62, also where its last entry sets it
generation_in_range : (image : List ℕ) (lanes zones lane : ℕ) → NoLogFaults image lanes zones → lane < lanes → (1 ≤ generation image lane) × (generation image lane ≤ 4611686018427387904)
generation_in_range image lanes zones lane rows inside = go (is_sealed image lane) refl where
  go : (b : Bool) → is_sealed image lane ≡ b → (1 ≤ generation image lane) × (generation image lane ≤ 4611686018427387904)
  go true sealed =
      let last = last_sets image lanes zones lane (fails_at_each (λ n. bad_entry image lanes zones (n / 64) (n % 64)) (64 * lanes) rows.entry_row) inside sealed in
      (omega (arith, last.0), last.1)
  go false unsealed =
      let stands : generation image lane ≡ generation_word image lane = generation_unsealed image lane unsealed in
      let parts = generation_parts image lane (not-false (good_lane image lane) (fails_at_each (λ k. not (good_lane image k)) lanes rows.lane_row lane inside)) in
      (omega (arith, stands, parts.0), omega (arith, stands, parts.1))

-- a valid record is a good one
good_if_valid : (image : List ℕ) (lanes zones lane slot : ℕ) (u : Undo) → bad_slot image lanes zones lane slot ≡ false → valid_record image lane slot ≡ Some u → good_record lanes zones u ≡ true
unfolding bad_slot
good_if_valid image lanes zones lane slot u good is =
    not-false (good_record lanes zones u) (sym (ap (λ (o : Option Undo). option_map_or (λ v. not (good_record lanes zones v)) o false) is) ∙ good)

slot_good : (image : List ℕ) (lanes zones lane slot : ℕ) → find (λ n. bad_slot image lanes zones (n / 64) (n % 64)) (range_with_len 0 (64 * lanes)) ≡ None → lane < lanes → slot < 64
    → bad_slot image lanes zones lane slot ≡ false
slot_good image lanes zones lane slot none in_lanes in_slots =
    let n : ℕ = 64 * lane + slot in
    let inside : 64 * lane + slot < 64 * lanes = omega arith in
    let is_lane : lane ≡ (64 * lane + slot) / 64 = omega arith in
    let is_slot : slot ≡ (64 * lane + slot) % 64 = omega arith in
    (λ j. bad_slot image lanes zones (is_lane j) (is_slot j)) ∙ fails_at_each (λ n. bad_slot image lanes zones (n / 64) (n % 64)) (64 * lanes) none (64 * lane + slot) inside

-- a word of a chunk is behind the lanes, and in the pool
chunk_parts : (lanes zones word : ℕ) → in_chunk lanes zones word ≡ true → (zones_word lanes ≤ word) × (word < 512 + 1024 * lanes + 33280 * zones)
chunk_parts lanes zones word is =
    let base : ℕ = zones_word lanes in
    let first = and_parts (leb (zones_word lanes) word && ltb ((word - zones_word lanes) / 33280) zones) (leb 512 ((word - zones_word lanes) % 33280)) is in
    let second = and_parts (leb (zones_word lanes) word) (ltb ((word - zones_word lanes) / 33280) zones) first.0 in
    let from : zones_word lanes ≤ word = leb-true (zones_word lanes) word second.0 in
    let to : (word - zones_word lanes) / 33280 < zones = ltb-true ((word - zones_word lanes) / 33280) zones second.1 in
    (from, omega arith)

record RecordParts (lanes zones : ℕ) (u : Undo) : Type 0 where
  some : 1 ≤ u.count
  few : u.count ≤ 4
  aligned : u.place % 8 ≡ 0
  inside : list_all (λ k. in_chunk lanes zones (u.place / 8 + k)) (range_with_len 0 u.count) ≡ true
  not_last : u.generation ≡ 4611686018427387904 → ⊥

record_parts : (lanes zones : ℕ) (u : Undo) → good_record lanes zones u ≡ true → RecordParts lanes zones u
unfolding good_record
record_parts lanes zones u good =
    let all : Bool = list_all (λ k. in_chunk lanes zones (u.place / 8 + k)) (range_with_len 0 u.count) in
    let first = and_parts (leb 1 u.count && leb u.count 4 && eqb (u.place % 8) 0 && all) (not (eqb u.generation 4611686018427387904)) good in
    let second = and_parts (leb 1 u.count && leb u.count 4 && eqb (u.place % 8) 0) all first.0 in
    let third = and_parts (leb 1 u.count && leb u.count 4) (eqb (u.place % 8) 0) second.0 in
    let fourth = and_parts (leb 1 u.count) (leb u.count 4) third.0 in
    record {
      some = leb-true 1 u.count fourth.0;
      few = leb-true u.count 4 fourth.1;
      aligned = eqb-true (u.place % 8) 0 third.1;
      inside = second.1;
      not_last = eqb-false u.generation 4611686018427387904 (not-true (eqb u.generation 4611686018427387904) first.1);
    }

restorable_if_good : (image : List ℕ) (lanes zones : ℕ) (u : Undo) → HasShape image lanes zones → good_record lanes zones u ≡ true → u.generation ≤ 4611686018427387904 → IsRestorable image lanes u
restorable_if_good image lanes zones u shape good small =
    let parts : RecordParts lanes zones u = record_parts lanes zones u good in
    let size : 4096 + 8192 * lanes + 266240 * zones ≡ 8 * length image = shape.size in
    let some : 1 ≤ u.count = parts.some in
    let lowest = chunk_parts lanes zones (u.place / 8 + 0) (each_passes (λ k. in_chunk lanes zones (u.place / 8 + k)) u.count 0 parts.inside (omega arith)) in
    let highest = chunk_parts lanes zones (u.place / 8 + (u.count - 1)) (each_passes (λ k. in_chunk lanes zones (u.place / 8 + k)) u.count (u.count - 1) parts.inside (omega arith)) in
    let other : u.generation ≢ 4611686018427387904 = parts.not_last in
    record { aligned = parts.aligned; few = parts.few; behind = omega (arith, lowest.0); within = omega (arith, highest.1); raisable = omega arith }

-- the logs without a fault are sound
pub logs_sound : (image : List ℕ) (lanes zones : ℕ) → HasShape image lanes zones → log_fault image lanes zones ≡ None → HasSoundLogs image lanes
logs_sound image lanes zones shape none =
    let rows : NoLogFaults image lanes zones = no_log_faults image lanes zones none in
    record {
      has_lanes = has_lanes image lanes zones shape;
      first_generation = λ lane inside. (generation_in_range image lanes zones lane rows inside).0;
      last_generation = λ lane inside. (generation_in_range image lanes zones lane rows inside).1;
      restorable = λ lane slot u in_lanes in_slots is.
          let same : u.generation ≡ generation image lane = (valid_parts (generation image lane) (undo_of (undo_slot image lane slot)) u is).1 in
          let last : generation image lane ≤ 4611686018427387904 = (generation_in_range image lanes zones lane rows in_lanes).1 in
          restorable_if_good image lanes zones u shape (good_if_valid image lanes zones lane slot u (slot_good image lanes zones lane slot rows.slot_row in_lanes in_slots) is) (omega arith);
    }

none_or_nothing : (es : List Redo) (us : List Undo) (o : Option Undo) → (us ≡ [] → o ≡ None) → (ltb 0 (length us) && ltb 0 (length es)) ≡ false → (es ≡ []) ⊎ (o ≡ None)
none_or_nothing [] us o none apart = inl refl
none_or_nothing (e ∷ es) [] o none apart = inr (none refl)
none_or_nothing (e ∷ es) (u ∷ us) o none apart = absurd (false≢true (sym apart ∙ both)) where
  both : (ltb 0 (length (u ∷ us)) && ltb 0 (length (e ∷ es))) ≡ true
  both = and_from (ltb 0 (length (u ∷ us))) (ltb 0 (length (e ∷ es))) (lt-ltb 0 (length (u ∷ us)) (omega arith)) (lt-ltb 0 (length (e ∷ es)) (omega arith))

found_not : (p : Undo → Bool) (u : Undo) (us : List Undo) (b : Bool) → p u ≡ b → cond b (u ∷ filter p us) (filter p us) ≡ [] → (filter p us ≡ [] → find p us ≡ None) → find p (u ∷ us) ≡ None
found_not p u us true passes none rest = absurd cc
found_not p u us false fails none rest = ap (λ (b : Bool). cond b (Some u) (find p us)) fails ∙ rest none

none_found : (p : Undo → Bool) (us : List Undo) → filter p us ≡ [] → find p us ≡ None
none_found p [] none = refl
none_found p (u ∷ us) none = found_not p u us (p u) refl none (none_found p us)

word_apart : (image : List ℕ) (lanes place : ℕ) → clashes image lanes place ≡ false → (entries_for image lanes place ≡ []) ⊎ (record_for image lanes place ≡ None)
unfolding clashes records_for record_for
word_apart image lanes place none =
    let us : List Undo = flat_map (records image) (range_with_len 0 lanes) in
    let counted : ℕ = length (filter (λ u. covers u place) us) in
    let beside : Bool = ltb 0 counted && ltb 0 (length (entries_for image lanes place)) in
    let parts = or_parts (ltb 1 counted || beside) (lanes_clash image lanes place) none in
    none_or_nothing (entries_for image lanes place) (filter (λ u. covers u place) us) (find (λ u. covers u place) us) (none_found (λ u. covers u place) us) (or_parts (ltb 1 counted) beside parts.0).1

pub logs_apart : (image : List ℕ) (lanes zones : ℕ) → log_fault image lanes zones ≡ None → HasApartLogs image lanes
logs_apart image lanes zones none = record {
  apart = λ i inside. word_apart image lanes (8 * i) (fails_at_each (λ k. clashes image lanes (8 * k)) (length image) (no_log_faults image lanes zones none).clash_row i inside);
}

pub logs_of_meaning : (image : List ℕ) (pool : PoolView) (is : IsMeaning image pool) → log_fault image is.lanes is.zones ≡ None
logs_of_meaning image pool is = (neither (log_fault image is.lanes is.zones) (heap_fault (recovered_at image is.lanes) is.lanes is.zones) is.no_fault).0

-- the pool that an image means has its lanes
pub lanes_of_meaning : (image : List ℕ) (pool : PoolView) (is : IsMeaning image pool) → is.lanes ≡ pool.lanes
lanes_of_meaning image pool is = sym (ap (λ (p : PoolView). p.lanes) is.is_pool)

pub sound_if_meaning : (image : List ℕ) (pool : PoolView) → IsMeaning image pool → HasSoundLogs image pool.lanes
sound_if_meaning image pool is =
    subst (HasSoundLogs image) (lanes_of_meaning image pool is) (logs_sound image is.lanes is.zones is.has_header.has_shape (logs_of_meaning image pool is))

pub apart_if_meaning : (image : List ℕ) (pool : PoolView) → IsMeaning image pool → HasApartLogs image pool.lanes
apart_if_meaning image pool is = subst (HasApartLogs image) (lanes_of_meaning image pool is) (logs_apart image is.lanes is.zones (logs_of_meaning image pool is))

-- nor is an entry for a word of the header page, but for the root's
pub header_if_meaning : (image : List ℕ) (pool : PoolView) → IsMeaning image pool → HasHeaderKept image pool.lanes
header_if_meaning image pool is = subst (HasHeaderKept image) (lanes_of_meaning image pool is)
    (header_kept image is.lanes is.zones (fails_at_each (λ n. bad_entry image is.lanes is.zones (n / 64) (n % 64)) (64 * is.lanes) (no_log_faults image is.lanes is.zones (logs_of_meaning image pool is)).entry_row))
