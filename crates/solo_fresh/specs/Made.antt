-- Which chunk a lane may make a run, and what its view is after that.
use Rattle.std.specs.Prelude.{◌≡◌, ◌≢◌, ◌⊎◌, ℕ, ◌+◌, ◌*◌, ◌/◌, ◌^◌, ◌<◌, ◌==◌, Bool, true, false, List, [], ◌∷◌, ◌++◌, length, slice_index, slice_set}
use Rattle.std.specs.List.{list_any}
use Rattle.pm_layout.specs.Sizes.{blocks_of}
use Rattle.solo_view.specs.declared.change.Change.{Change}
use Rattle.solo_view.specs.Blocks.{bitmap_word, descriptor_word, page_told}
use Rattle.solo_view.specs.Changes.{is_in_line}
use Rattle.solo_view.specs.Counts.{HasRoom, is_unflushed}
use Rattle.solo_view.specs.Held.{is_held, is_known}
use Rattle.solo_view.specs.View.{View, Taken}
use Rattle.solo_view.specs.Views.{chunk_bit, has_chunk, reserves, vacated_word, without_taken, zone_at}
use Rattle.solo_world.specs.Entries.{is_entered}
use Rattle.solo_world.specs.Opening.{IsPoolChunk}
use Rattle.solo_world.specs.Records.{is_recorded}
use Rattle.solo_undo.specs.Working.{IsWorking}
use Rattle.solo_fresh.specs.Making.{behind_first, run_at, run_descriptor}

-- some of these changes is of a word that passes the test
abbrev pub touches : (ℕ → Bool) → List Change → Bool
touches p changes = list_any (λ (c : Change). p c.word) changes

-- some of these changes is of a word of the chunk, or of its descriptor
abbrev pub touches_chunk : ℕ → ℕ → List Change → Bool
touches_chunk lanes page changes = touches (λ w. page_told lanes w == page) changes

-- The lane may make the chunk a run of blocks of so many lines: it reserved the chunk, which is described by 0, and no block of it. Nothing undrained is
-- of the chunk, nor any record or entry of the log.
pub record CanMakeRun (v : View) (page lines : ℕ) : Type 0 where
  pub of_pool : IsPoolChunk v.lanes v.zones page
  pub size : length v.words ≡ 512 + 1024 * v.lanes + 33280 * v.zones
  pub class : 0 < blocks_of lines
  pub reserved : has_chunk v page ≡ true
  pub undescribed : slice_index v.words (descriptor_word v.lanes page) ≡ 0
  pub no_block : (bit : ℕ) → reserves v (run_at page) bit ≡ false
  pub drained : touches_chunk v.lanes page v.changes ≡ false
  pub unlogged : (w : ℕ) → w / 512 ≡ page → (is_recorded v.log.records w ≡ false) × (is_entered v.log.entries w ≡ false)

-- what the lane reserved but for the chunk, and the first block of the run that the chunk is made
abbrev pub without_chunk : View → ℕ → List Taken
without_chunk v page = without_taken (zone_at v.lanes page) (2 ^ chunk_bit v.lanes page) v.reserved

abbrev pub first_block : ℕ → Taken
first_block page = record { at = run_at page; bits = 1 }

-- The chunk is a run of blocks of so many lines, none of them allocated, and persistent; in its place the lane has reserved the run's first block. No
-- other word changed, and the lane is at work in the same call.
pub record IsRunMade (v : View) (page lines : ℕ) (w : View) : Type 0 where
  pub same : w ≡ record v { words = w.words; known = w.known; run_words = w.run_words; changes = w.changes; calls = w.calls; reserved = w.reserved; freed = w.freed }
  pub size : length w.words ≡ length v.words
  pub working : IsWorking w
  pub described : slice_index w.words (descriptor_word v.lanes page) ≡ run_descriptor lines
  pub no_block : slice_index w.words (bitmap_word page) ≡ 0
  pub others : (u : ℕ) → u ≢ descriptor_word v.lanes page → u ≢ bitmap_word page → slice_index w.words u ≡ slice_index v.words u
  pub known : (u : ℕ) → is_known v u ≡ true → is_held w u ≡ true → is_known w u ≡ true
  pub reserved : w.reserved ≡ without_chunk v page ++ first_block page ∷ []
  pub freed : w.freed ≡ without_taken (run_at page) (behind_first lines) v.freed
  pub occupied : w.run_words ≡ slice_set v.run_words page (vacated_word (behind_first lines) (slice_index v.run_words page))
  -- nothing undrained is of the chunk or of its descriptor's line, nor of another line that had nothing unflushed, nor of a word that had nothing undrained
  pub drained : touches_chunk v.lanes page w.changes ≡ false
  pub clean : (k : ℕ) → (k ≡ descriptor_word v.lanes page / 8) ⊎ (is_unflushed v.changes k ≡ false) → list_any (is_in_line k) w.changes ≡ false
  pub beside : (p : ℕ → Bool) → touches p v.changes ≡ false → touches p w.changes ≡ false
  -- where there is room for a change, two stores, two flushes and two drains
  pub calls : HasRoom v.changes → w.calls ≡ v.calls + 6
