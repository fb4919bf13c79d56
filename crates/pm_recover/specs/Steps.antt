-- Recovery while it is made: for the crate's own functions.
use Rattle.std.specs.Prelude.{◌≡◌, ◌≢◌, ◌⊎◌, ℕ, ◌+◌, ◌*◌, ◌/◌, ◌%◌, ◌^◌, ◌<◌, ◌≤◌, ◌==◌, List, [], filter, find, length, slice_index, Some, None}
use Rattle.pm_record.specs.declared.redo.Redo.{Redo}
use Rattle.pm_record.specs.declared.undo.Undo.{Undo}
use Rattle.pm_image.specs.Logs.{area_word, generation, generation_word, seal_word, all_applied, covers, entries_for, record_for, restored, undo_slot}
use Rattle.pm_image.specs.Steps.{HasLanes, valid_record}
use Rattle.pm_recover.specs.Recovery.{IsOfSlot, IsOutside, generation_after, without_stray}

-- the record is of four words of the image at most, all of them behind the areas of so many lanes, and its generation can be raised
pub record IsRestorable (image : List ℕ) (lanes : ℕ) (u : Undo) : Type 0 where
  pub aligned : u.place % 8 ≡ 0
  pub few : u.count ≤ 4
  pub behind : area_word lanes ≤ u.place / 8
  pub within : u.place / 8 + u.count ≤ length image
  pub raisable : u.generation < 2 ^ 62

-- the logs of so many lanes have no fault
pub record HasSoundLogs (image : List ℕ) (lanes : ℕ) : Type 0 where
  pub has_lanes : HasLanes image lanes
  pub first_generation : (lane : ℕ) → lane < lanes → 1 ≤ generation image lane
  pub last_generation : (lane : ℕ) → lane < lanes → generation image lane ≤ 2 ^ 62
  pub restorable : (lane slot : ℕ) (u : Undo) → lane < lanes → slot < 64 → valid_record image lane slot ≡ Some u → IsRestorable image lanes u

-- no entry is for a word that a valid record covers
pub record HasApartLogs (image : List ℕ) (lanes : ℕ) : Type 0 where
  pub apart : (i : ℕ) → i < length image → (entries_for image lanes (8 * i) ≡ []) ⊎ (record_for image lanes (8 * i) ≡ None)

-- each word is as the first of these records that covers it has it, or else as it was
pub record AreRestored (us : List Undo) (old new : List ℕ) : Type 0 where
  pub as_long : length new ≡ length old
  pub each : (i : ℕ) → i < length old → slice_index new i ≡ restored (find (λ u. covers u (8 * i)) us) (8 * i) (slice_index old i)

-- so many words from one on are these, and the others as they were
pub record AreWritten (words : List ℕ) (from count : ℕ) (old new : List ℕ) : Type 0 where
  pub as_long : length new ≡ length old
  pub inside : (k : ℕ) → k < count → slice_index new (from + k) ≡ slice_index words k
  pub below : (i : ℕ) → i < from → slice_index new i ≡ slice_index old i
  pub above : (i : ℕ) → from + count ≤ i → slice_index new i ≡ slice_index old i

-- each word outside of the areas of so many lanes has the entries for it applied, in order, and those in the areas are as they were
pub record AreApplied (es : List Redo) (lanes : ℕ) (old new : List ℕ) : Type 0 where
  pub as_long : length new ≡ length old
  pub outside : (i : ℕ) → i < length old → IsOutside lanes i → slice_index new i ≡ all_applied (filter (λ e. e.place == 8 * i) es) (slice_index old i)
  pub inside : (i : ℕ) → area_word 0 ≤ i → i < area_word lanes → slice_index new i ≡ slice_index old i

-- the generations of so many lanes are those after recovery, their seals are 0, and no other word differs
pub record AreSettled (old new : List ℕ) (lanes : ℕ) : Type 0 where
  pub as_long : length new ≡ length old
  pub generations : (lane : ℕ) → lane < lanes → generation_word new lane ≡ generation_after old lane
  pub seals : (lane : ℕ) → lane < lanes → seal_word new lane ≡ 0
  pub others : (i : ℕ) → ((lane : ℕ) → lane < lanes → (i ≢ area_word lane) × (i ≢ area_word lane + 1)) → slice_index new i ≡ slice_index old i

-- the slots of so many numbers, 64 a lane, are without stray records, and no other word differs
pub record AreCleared (old new : List ℕ) (count : ℕ) : Type 0 where
  pub as_long : length new ≡ length old
  pub slots : (n : ℕ) → n < count → undo_slot new (n / 64) (n % 64) ≡ without_stray (generation_word old (n / 64)) (undo_slot old (n / 64) (n % 64))
  pub others : (i : ℕ) → ((n : ℕ) → n < count → IsOfSlot (n / 64) (n % 64) i → ⊥) → slice_index new i ≡ slice_index old i
