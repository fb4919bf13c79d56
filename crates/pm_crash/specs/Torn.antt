-- TORN RECORDS. A power failure while a lane adds a range to its log leaves some words of a record
-- beside some that its slot held before. Where the last of them happens to be the sum of the others
-- the slot reads as a record that nobody wrote. The premise of the crash law is that this does not
-- happen; it speaks of the records of adds that are not answered alone.
use Rattle.std.specs.Prelude.{◌≡◌, ◌≢◌, ◌⊎◌, ℕ, ◌+◌, ◌*◌, ◌<◌, ◌≤◌, true, List, length, slice_index, take}
use Rattle.pm_layout.specs.Areas.{line_of_slot, slot_words, undo_slots}
use Rattle.pm_record.specs.Undo.{is_record}
use Rattle.pm_view.specs.Log.{Recorded}
use Rattle.pm_view.specs.View.{View}
use Rattle.pm_world.specs.Crash.{IsBeingWritten, IsNextRecord, NoneTorn, Survives}
use Rattle.pm_world.specs.Logs.{IsRecordAt, spelled}
use Rattle.pm_world.specs.Memory.{Memory, PoolWord}
use Rattle.pm_world.specs.World.{Opening, Views, Past, World}

-- A TORN MATCH of a record: eight words, each the record's or the one that the slot held before, the
-- first the record's and not all the record's, whose last is the sum of the others
pub record IsTornMatch (whole before torn : List ℕ) : Type 0 where
  pub each : (i : ℕ) → i < 8
      → (slice_index torn i ≡ slice_index whole i) ⊎ (slice_index torn i ≡ slice_index before i)
  pub first : slice_index torn 0 ≡ slice_index whole 0
  pub not_all : (i : ℕ) × (i < 8) × (slice_index torn i ≢ slice_index whole i)
  pub sum : is_record torn ≡ true

-- the lane is writing this record in its slot: it stands there whole; or the first of its words do
abbrev pub IsWriting : View → ℕ → Recorded → Type 0
IsWriting v j r = IsRecordAt v.log j r
    ⊎ ((j ≡ length v.log.records) × IsNextRecord v r
    × (v.log.slot ≡ take (length v.log.slot) (spelled v.fixed.shape v.log.generation r)))

-- what each slot of each lane held before its record was written
abbrev pub SlotsBefore : Type 0
SlotsBefore = ℕ → ℕ → List ℕ

-- of a slot that is being written no torn match of a record can stand in it
abbrev pub HasNoTornMatch : Opening → Views → SlotsBefore → Type 0
HasNoTornMatch o views before = (k j : ℕ) → k < o.lanes → j < undo_slots o.shape
    → IsBeingWritten (views k) j
    → (r : Recorded) × IsWriting (views k) j r
    × ((torn : List ℕ)
    → ¬ IsTornMatch (spelled (views k).fixed.shape (views k).log.generation r) (before k j) torn)

-- word i of a slot
abbrev pub slot_word : Opening → ℕ → ℕ → ℕ → ℕ
slot_word o k j i = 8 * line_of_slot o.shape k j + i

-- WHAT A POWER FAILURE LEAVES OF SLOTS: each word is in the image as in memory, or as it was before;
-- and words of the next record that are not stored yet are in memory as before
pub record LeavesSlots (o : Opening) (mem : Memory) (views : Views) (before : SlotsBefore)
    (image : List ℕ) : Type 0 where
  pub left : (k j i : ℕ) → k < o.lanes → j < undo_slots o.shape → i < slot_words o.shape
      → (slice_index image (slot_word o k j i) ≡ mem (PoolWord (slot_word o k j i)))
      ⊎ (slice_index image (slot_word o k j i) ≡ slice_index (before k j) i)
  pub unstored : (k i : ℕ) → k < o.lanes → length (views k).log.slot ≤ i → i < slot_words o.shape
      → mem (PoolWord (slot_word o k (length (views k).log.records) i))
      ≡ slice_index (before k (length (views k).log.records)) i

-- NO RECORD IS TORN in an image, where none that its lane is writing has a torn match
abbrev pub NoRecordIsTorn : Type 0
NoRecordIsTorn = (o : Opening) (mem : Memory) (views : Views) (g : Past) (before : SlotsBefore)
    (image : List ℕ) → World o mem views g → Survives o mem views image
    → LeavesSlots o mem views before image → HasNoTornMatch o views before
    → NoneTorn o views image
