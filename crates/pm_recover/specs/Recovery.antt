-- What recovery makes of an image: docs/FORMAT.md, "Recovery". Words go by their number, 8 bytes each.
use Rattle.std.specs.Prelude.{◌≡◌, ◌⊎◌, ℕ, ◌+◌, ◌*◌, ◌^◌, ◌<◌, ◌≤◌, nat_le, replicate, Bool, false, true, not, ◌&&◌, ◌||◌, nat_lt, if◌then◌else◌, List, length, slice_index, Some}
use Rattle.std.specs.List.{list_all, range_with_len}
use Rattle.std.specs.Option.{option_map_or}
use Rattle.pm_objects.specs.declared.pool.PoolView.{PoolView}
use Rattle.pm_record.specs.Undo.{is_record, undo_of}
use Rattle.pm_record.specs.declared.undo.Undo.{Undo}
use Rattle.pm_image.specs.Logs.{area_word, generation, generation_word, is_sealed, seal_word, slot_line, undo_slot, records, recovered_at}
use Rattle.pm_image.specs.Means.{IsMeaning}

-- the word is of no lane's area
abbrev pub IsOutside : ℕ → ℕ → Type 0
IsOutside lanes i = (i < area_word 0) ⊎ (area_word lanes ≤ i)

-- the lane has a valid undo record
unfoldable pub has_record : List ℕ → ℕ → Bool
has_record image lane = nat_lt 0 (length (records image lane))

-- some slot's last word is not the sum of the others: it was torn
unfoldable pub has_torn_slot : List ℕ → ℕ → Bool
has_torn_slot image lane = not (list_all (λ slot. is_record (undo_slot image lane slot)) (range_with_len 0 64))

-- recovery raises the lane's generation: the lane is not sealed, and a record of it is put back, or a slot is torn and there is a further generation
unfoldable pub is_raised : List ℕ → ℕ → Bool
is_raised image lane = not (is_sealed image lane) && (has_record image lane || (nat_lt (generation image lane) (2 ^ 62) && has_torn_slot image lane))

-- the lane's generation after recovery: one more where it is raised, else the lane's, which a sealed lane's last entry sets
abbrev pub generation_after : List ℕ → ℕ → ℕ
generation_after image lane = if is_raised image lane then generation image lane + 1 else generation image lane

-- the slot has a true sum, and its generation is this one or one to come: a lane that goes on with this generation might take it for a record of its own
abbrev pub is_stray : ℕ → List ℕ → Bool
is_stray generation slot = option_map_or (λ (u : Undo). nat_le generation u.generation) (undo_of slot) false

-- the slot's words without such a record
abbrev pub without_stray : ℕ → List ℕ → List ℕ
without_stray generation slot = if is_stray generation slot then replicate 8 0 else slot

-- the word is one of the slot's eight
abbrev pub IsOfSlot : ℕ → ℕ → ℕ → Type 0
IsOfSlot lane slot i = (8 * slot_line lane slot ≤ i) × (i < 8 * slot_line lane slot + 8)

-- `after` is what recovery makes of the image `before` of so many lanes: outside of the lanes' areas it has the recovered words, and of an area the first two words alone may differ, which are the
-- generation and the seal, and slots with a record of the generation that the lane goes on with, or of one to come, which are cleared
pub record IsRecovered (before after : List ℕ) (lanes : ℕ) : Type 0 where
  pub as_long : length after ≡ length before
  pub words : (i : ℕ) → IsOutside lanes i → slice_index after i ≡ recovered_at before lanes i
  pub areas : (lane i : ℕ) → lane < lanes → area_word lane + 1 < i → i < area_word (lane + 1) → ((slot : ℕ) → slot < 64 → IsOfSlot lane slot i → ⊥) → slice_index after i ≡ slice_index before i
  pub slots : (lane slot : ℕ) → lane < lanes → slot < 64 → undo_slot after lane slot ≡ without_stray (generation_after before lane) (undo_slot before lane slot)
  pub seals : (lane : ℕ) → lane < lanes → seal_word after lane ≡ 0
  pub generations : (lane : ℕ) → lane < lanes → generation_word after lane ≡ generation_after before lane

-- no slot with a true sum is of a generation to come, nor, where the lane is sealed, of the one that its log ends with: to go on wakes no old record
pub record HasNoStrayRecord (image : List ℕ) (lanes : ℕ) : Type 0 where
  pub past : (lane slot : ℕ) (u : Undo) → lane < lanes → slot < 64 → undo_of (undo_slot image lane slot) ≡ Some u → u.generation ≤ generation image lane
  pub sealed : (lane slot : ℕ) (u : Undo) → lane < lanes → slot < 64 → undo_of (undo_slot image lane slot) ≡ Some u → is_sealed image lane ≡ true → u.generation < generation image lane

-- no slot is torn
pub record HasNoTornSlot (image : List ℕ) (lanes : ℕ) : Type 0 where
  pub whole : (lane : ℕ) → lane < lanes → has_torn_slot image lane ≡ false

-- the lane's log is empty and can be written: it is not sealed, its generation is 1 to 2^62, and each slot with a true sum is of an earlier one
pub record IsCleanLog (image : List ℕ) (lane : ℕ) : Type 0 where
  pub unsealed : seal_word image lane ≡ 0
  pub first_generation : 1 ≤ generation_word image lane
  pub last_generation : generation_word image lane ≤ 2 ^ 62
  pub stale : (slot : ℕ) (u : Undo) → slot < 64 → undo_of (undo_slot image lane slot) ≡ Some u → u.generation < generation_word image lane

-- the image has no fault: it means some pool
abbrev pub HasMeaning : List ℕ → Type 0
HasMeaning image = (pool : PoolView) × IsMeaning image pool
