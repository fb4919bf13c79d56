-- Which words a lane may make a new object of, and what its view is after that.
use Rattle.std.specs.Prelude.{◌≡◌, ◌⊎◌, ℕ, ◌+◌, ◌*◌, ◌/◌, ◌%◌, ◌<◌, ◌≤◌, ◌==◌, Bool, true, false, IsTrue, All, length, slice_index}
use Rattle.std.specs.List.{list_any}
use Rattle.solo_view.specs.declared.occ.Occ.{Occ}
use Rattle.solo_view.specs.declared.occ.Occ.TheVariants.{Run, Zone}
use Rattle.solo_view.specs.Area.{is_in_area}
use Rattle.solo_view.specs.Blocks.{describes, descriptor_word, is_run, tells_nothing}
use Rattle.solo_view.specs.Changes.{is_in_line}
use Rattle.solo_view.specs.Counts.{is_unflushed, max_changes}
use Rattle.solo_view.specs.Held.{is_known, is_reserved}
use Rattle.solo_view.specs.View.{View, Taken}
use Rattle.solo_world.specs.Heap.{IsOcc}
use Rattle.solo_undo.specs.Working.{IsSameCall, IsWorking}
use Rattle.solo_fresh.specs.Filling.{fresh_word}
use Rattle.solo_fresh.specs.Made.{touches}

-- the word describes the run whose blocks these are
abbrev pub describes_run : ℕ → ℕ → Occ → Bool
describes_run lanes w (Run place) = descriptor_word lanes (place / 4096) == w
describes_run lanes w (Zone zone) = false

-- a word of the pool that the lane reserved, outside of its own area, that tells of no block, and by which it does not tell what it reserved
pub record CanFill (v : View) (w : ℕ) : Type 0 where
  pub own : IsTrue (is_reserved v w)
  pub plain : IsTrue (tells_nothing v.lanes v.words w)
  pub inside : w < length v.words
  pub outside : is_in_area v.lane w ≡ false
  pub silent : All (λ (t : Taken). describes_run v.lanes w t.at ≡ false) v.reserved

-- the view has all words of its pool, is of one of its lanes, and reserved nothing that is not of the pool, nor, by its words, a run's bitmap
pub record HasWholePool (v : View) : Type 0 where
  pub lane : v.lane < v.lanes
  pub size : length v.words ≡ 512 + 1024 * v.lanes + 33280 * v.zones
  pub of_pool : All (λ (t : Taken). IsOcc v.lanes v.zones t.at) v.reserved
  pub no_bitmap : (w : ℕ) → is_reserved v w ≡ true → describes v.lanes w ≡ false → w % 512 ≡ 0 → is_run (slice_index v.words (descriptor_word v.lanes (w / 512))) ≡ false

-- the line is one of so many from this one on
abbrev pub IsAmong : ℕ → ℕ → ℕ → Type 0
IsAmong line lines k = (line ≤ k) × (k < line + lines)

-- the lines are those of a new object, and persistent; no other word changed
pub record IsFilled (v : View) (line lines kind size : ℕ) (w : View) : Type 0 where
  pub call : IsSameCall v w
  pub working : IsWorking w
  pub log : w.log ≡ v.log
  pub run_words : w.run_words ≡ v.run_words
  pub zone_words : w.zone_words ≡ v.zone_words
  pub there : (place : ℕ) → place < 8 * lines → slice_index w.words (8 * line + place) ≡ fresh_word kind size place
  pub knows : (place : ℕ) → place < 8 * lines → is_known w (8 * line + place) ≡ true
  pub others : (u : ℕ) → (u < 8 * line) ⊎ (8 * (line + lines) ≤ u) → slice_index w.words u ≡ slice_index v.words u
  pub reserved : (u : ℕ) → is_reserved w u ≡ is_reserved v u
  -- nothing undrained is of these lines, nor of another that had nothing unflushed
  pub drained : (k : ℕ) → IsAmong line lines k ⊎ (is_unflushed v.changes k ≡ false) → list_any (is_in_line k) w.changes ≡ false
  -- nor of a word that had nothing undrained
  pub beside : (p : ℕ → Bool) → touches p v.changes ≡ false → touches p w.changes ≡ false
  -- where there is room for all of its changes, nine counted calls a line and a drain
  pub calls : length v.changes + 8 * lines ≤ max_changes → w.calls ≡ v.calls + 9 * lines + 1
