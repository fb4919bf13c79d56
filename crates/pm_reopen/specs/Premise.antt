-- What an image is asked so that a stopped recovery of it keeps its meaning.
use Rattle.std.specs.Prelude.{◌≡◌, ◌⊎◌, ℕ, ◌/◌, ◌^◌, ◌<◌, All, List, length, slice_index, Some, true}
use Rattle.pm_record.specs.declared.redo.Redo.{Redo}
use Rattle.pm_record.specs.declared.undo.Undo.{Undo}
use Rattle.pm_record.specs.Undo.{is_record}
use Rattle.pm_image.specs.Logs.{entries, generation, is_sealed, undo_slot}
use Rattle.pm_objects.specs.declared.pool.PoolView.{PoolView}
use Rattle.pm_image.specs.Means.{IsMeaning}
use Rattle.pm_image.specs.Steps.{valid_record}

-- words of 64 bits
abbrev pub HasWords : List ℕ → Type 0
HasWords image = (i : ℕ) → slice_index image i < 2 ^ 64

-- some of these words became 0
pub record IsPartlyCleared (left words : List ℕ) : Type 0 where
  pub as_long : length left ≡ length words
  pub each : (k : ℕ) → k < length words → (slice_index left k ≡ slice_index words k) ⊎ (slice_index left k ≡ 0)

-- no valid record of a sealed lane, with some of its words cleared and others not, is a valid record
-- by chance. Such a record is stray, as a log that is sealed has none of the generation that it
-- ends with: an image without stray records has none of these
pub record HasNoTornClearing (image : List ℕ) (lanes : ℕ) : Type 0 where
  pub whole : (lane slot : ℕ) (u : Undo) (left : List ℕ) → lane < lanes → slot < 64 → is_sealed image lane ≡ true → valid_record image lane slot ≡ Some u
      → IsPartlyCleared left (undo_slot image lane slot) → is_record left ≡ true → slice_index left 0 ≡ generation image lane → left ≡ undo_slot image lane slot

-- the entries of sealed lanes are for words of the image
pub record HasTargets (image : List ℕ) (lanes : ℕ) : Type 0 where
  pub inside : (lane : ℕ) → lane < lanes → All (λ (e : Redo). e.place / 8 < length image) (entries image lane)

-- WHAT AN IMAGE IS ASKED, so that its recovery may be stopped anywhere: it means this pool
pub record IsRecoverable (image : List ℕ) (pool : PoolView) : Type 0 where
  pub words : HasWords image
  pub means : IsMeaning image pool
  pub whole : HasNoTornClearing image pool.lanes
