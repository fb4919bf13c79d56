-- A run that is made of the least free chunk: docs/FORMAT.md, "Blocks are found" and "Runs are made".
use Rattle.std.specs.Prelude.{◌≡◌, ◌≢◌, ℕ, ◌+◌, ◌*◌, ◌/◌, ◌<◌, ◌≤◌, false, All, [], ◌∷◌, length, slice_index, Result, Err, Some, IfSome}
use Rattle.std.specs.Int.{bit_at}
use Rattle.pm_image.specs.declared.block.Block.{Block}
use Rattle.pm_layout.specs.declared.shape.Shape.{Shape}
use Rattle.solo_memory.specs.Runs.{Stops}
use Rattle.pm_objects.specs.declared.refusal.Refusal.TheVariants as refusal
use Rattle.solo_view.specs.declared.occ.Occ.TheVariants.{Zone}
use Rattle.solo_view.specs.Blocks.{block_at, descriptor_word}
use Rattle.solo_view.specs.Founds.{IsAlone}
use Rattle.solo_view.specs.View.{View, Lock}
use Rattle.solo_view.specs.Views.{after_all, has_chunk, occ_in, reserves}
use Rattle.solo_world.specs.Entries.{is_entered}
use Rattle.solo_world.specs.Records.{is_recorded}
use Rattle.solo_world.specs.Searches.{HasSearched}
use Rattle.solo_undo.specs.Working.{IsWorking}
use Rattle.solo_chunks.specs.Chunks.{AreFree, AreLeastFree, HasFoundNone, MaySearch, chunk_block, taken_chunks}
use Rattle.solo_fresh.specs.Made.{IsRunMade, touches_chunk}
use Rattle.solo_fresh.specs.Making.{makes_run, page_in, run_at}
use Rattle.solo_blocks.specs.declared.making.NoBlock.{NoBlock}
use Rattle.solo_blocks.specs.declared.making.NoBlock.TheVariants as no_block

-- ---- what is asked of the lane

-- the chunk at this page has nothing: it is described by 0, and so no bit is clear of the occupancy word of a run there, the lane reserved neither it nor
-- a block of it, and nothing undrained, nor any record or entry of the log, is of a word of it
pub record IsUnused (v : View) (page : ℕ) : Type 0 where
  pub undescribed : slice_index v.words (descriptor_word v.lanes page) ≡ 0
  pub closed : (bit : ℕ) → bit < 64 → bit_at (occ_in v (run_at page)) bit ≡ 1
  pub no_chunk : has_chunk v page ≡ false
  pub no_block : (bit : ℕ) → reserves v (run_at page) bit ≡ false
  pub drained : touches_chunk v.lanes page v.changes ≡ false
  pub unlogged : (w : ℕ) → w / 512 ≡ page → (is_recorded v.log.records w ≡ false) × (is_entered v.log.entries w ≡ false)

-- the block that was found under a lock is there
abbrev pub IsThere : View → Lock → Type 0
IsThere v l = IfSome l.block (λ lines. block_at v.lanes v.words l.line ≡ Some lines)

-- A lane of a pool of this shape may make a free chunk a run: it is alone and at work, and holds no zone's lock. Each block that it locked is there,
-- it has a picture of each zone's occupancy word, and each chunk whose bit is clear there has nothing.
pub record MayMakeRun (v : View) (shape : Shape) : Type 0 where
  pub search : MaySearch v shape
  pub alone : IsAlone v
  pub working : IsWorking v
  pub locked : All (IsThere v) v.locks
  pub pictured : v.zones ≤ length v.zone_words
  pub unused : (zone chunk : ℕ) → zone < v.zones → chunk < 64 → bit_at (occ_in v (Zone zone)) chunk ≢ 1 → IsUnused v (page_in v.lanes zone chunk)

-- ---- what is made

-- the chunk was reserved by a search, after which the memory may be seen so; of the view at the search's end this holds
abbrev pub HasTakenChunk : (View → Type 0) → View → ℕ → ℕ → (View → Type 0) → Type 0
HasTakenChunk at v zone chunk Q = HasSearched at v (taken_chunks zone chunk 1 ∷ []) Q

-- the view once the chunk is made a run of the class, by exactly the sequence for that
abbrev pub with_run : ℕ → ℕ → ℕ → View → View
with_run zone chunk lines v = after_all v (makes_run v.lanes (page_in v.lanes zone chunk) lines v)

-- the first block of the run that the chunk is made
abbrev pub first_block : ℕ → ℕ → ℕ → ℕ → Block
first_block lanes zone chunk lines = record { place = 4096 * page_in lanes zone chunk + 64; lines = lines }

-- the chunk is made a run of the class, and the bit of its first block is set, so that no search gets that
abbrev pub IsMadeOf : ℕ → ℕ → ℕ → View → Type 0
IsMadeOf zone chunk lines v =
    let page = page_in v.lanes zone chunk in
    IsRunMade v page lines (with_run zone chunk lines v) × (bit_at (occ_in (with_run zone chunk lines v) (run_at page)) 0 ≡ 1)

-- the least free chunk was reserved and made a run of the class, and the block is the run's first
pub record HasNewRun (at : View → Type 0) (v : View) (lines : ℕ) (block : Block) : Type 0 where
  pub zone : ℕ
  pub chunk : ℕ
  pub in_zone : chunk < 64
  pub is_block : block ≡ first_block v.lanes zone chunk lines
  pub least : AreLeastFree v 1 (chunk_block v.lanes zone chunk 1)
  pub made : HasTakenChunk (λ w. at (with_run zone chunk lines w)) v zone chunk (IsMadeOf zone chunk lines)

-- the least free chunk was reserved, and the first steps were made of those that make it a run, up to the lane's stop
pub record HasStopped (at : View → Type 0) (v : View) (lines : ℕ) : Type 0 where
  pub zone : ℕ
  pub chunk : ℕ
  pub in_zone : chunk < 64
  pub least : AreLeastFree v 1 (chunk_block v.lanes zone chunk 1)
  pub made : HasTakenChunk (λ w. Stops at w (makes_run w.lanes (page_in w.lanes zone chunk) lines w)) v zone chunk (λ w. Unit {0})

-- each zone was searched, and no chunk is free
pub record HasNoChunk (at : View → Type 0) (v : View) : Type 0 where
  pub searched : HasFoundNone at v 1
  pub none : (zone chunk : ℕ) → AreFree v 1 zone chunk → ⊥

-- why there is no block; alone, the lane finds no zone's lock taken
abbrev pub GivesNone : (View → Type 0) → View → ℕ → NoBlock → Type 0
GivesNone at v lines (no_block.Refused refusal.NoSpace) = HasNoChunk at v
GivesNone at v lines (no_block.Refused r) = ⊥
GivesNone at v lines (no_block.Stopped stopped) = HasStopped at v lines

-- unless it stopped, the lane may make another run
abbrev pub MayGoOn : (View → Type 0) → Shape → Result Block NoBlock → Type 0
MayGoOn at shape (Err (no_block.Stopped stopped)) = Unit {0}
MayGoOn at shape result = (w : View) × (at w × MayMakeRun w shape)
