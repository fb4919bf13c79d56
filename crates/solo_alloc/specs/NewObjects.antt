-- A new object in a block that was reserved for it: docs/FORMAT.md, "Sizes", "Blocks are found" and "Sequences".
use Rattle.std.specs.Prelude.{◌≡◌, ℕ, Bool, ◌⊎◌, ◌+◌, ◌*◌, ◌/◌, ◌<◌, ◌≤◌, true, false, Result, Err, length, slice_index}
use Rattle.std.specs.Int.{bit_at}
use Rattle.std.specs.List.{list_any}
use Rattle.pm_image.specs.declared.block.Block.{Block}
use Rattle.pm_layout.specs.Sizes.{class_of}
use Rattle.pm_layout.specs.declared.shape.Shape.{Shape}
use Rattle.solo_memory.specs.Runs.{Stops}
use Rattle.pm_objects.specs.Pool.{block_lines}
use Rattle.solo_view.specs.declared.occ.Occ.{Occ}
use Rattle.solo_view.specs.Blocks.{bitmap_word, descriptor_word}
use Rattle.solo_view.specs.Changes.{is_in_line}
use Rattle.solo_view.specs.Held.{is_known, is_reserved}
use Rattle.solo_view.specs.View.{View}
use Rattle.solo_view.specs.Views.{after_all, occ_in, reserves}
use Rattle.solo_world.specs.Sequences.{Sequence}
use Rattle.solo_fresh.specs.Filled.{HasWholePool, IsAmong}
use Rattle.solo_fresh.specs.Filling.{fills, fresh_word}
use Rattle.solo_fresh.specs.Made.{touches}
use Rattle.solo_blocks.specs.declared.making.NoBlock.{NoBlock}
use Rattle.solo_blocks.specs.declared.making.NoBlock.TheVariants as no_block
use Rattle.solo_blocks.specs.AnyBlocks.{HasNoRoom, HasRoom}
use Rattle.solo_blocks.specs.NewRuns.{MayMakeRun}

-- ---- what is asked of the lane

-- the lane has a picture of each chunk's occupancy word, and what it reserved is taken in its pictures
pub record ArePictured (v : View) : Type 0 where
  pub runs : 1 + 2 * v.lanes + 65 * v.zones ≤ length v.run_words
  pub taken : (at : Occ) (bit : ℕ) → reserves v at bit ≡ true → bit_at (occ_in v at) bit ≡ 1

-- A lane of a pool of this shape may make a new object: it may look for a block, and make a free chunk a run; its view has all words of its pool, of
-- which it reserved no bitmap of a run; and what it reserved it will not find free.
pub record CanMakeObject (v : View) (shape : Shape) : Type 0 where
  pub run : MayMakeRun v shape
  pub pool : HasWholePool v
  pub pictured : ArePictured v

-- ---- what is made

-- the steps that make the block a new object of this type and size
abbrev pub fills_block : Block → ℕ → ℕ → Sequence
fills_block block kind size = fills (block.place / 64) block.lines kind size

-- the block was reserved for an object of this size as `reserve` does, and then made a new object by exactly the sequence for that
abbrev pub HasNewObject : (View → Type 0) → View → ℕ → ℕ → Block → Type 0
HasNewObject at v size kind block = HasRoom (λ w. at (after_all w (fills_block block kind size w))) v (class_of size) block

-- the block was reserved, and the first steps were made of those that make it a new object, up to the lane's stop
abbrev pub HasStoppedFilling : (View → Type 0) → View → ℕ → ℕ → Block → Type 0
HasStoppedFilling at v size kind block = HasRoom (λ w. Stops at w (fills_block block kind size w)) v (class_of size) block

-- the word is none of the block
abbrev pub IsBeside : Block → ℕ → Type 0
IsBeside block u = (u < 8 * (block.place / 64)) ⊎ (8 * (block.place / 64 + block.lines) ≤ u)

-- the word tells of the run that is made for a block of less than a chunk: it is the descriptor of its chunk, which was described by 0, or the bitmap
pub record IsOfNewRun (v : View) (block : Block) (u : ℕ) : Type 0 where
  pub small : block.lines < 64
  pub undescribed : slice_index v.words (descriptor_word v.lanes (block.place / 4096)) ≡ 0
  pub tells : (u ≡ descriptor_word v.lanes (block.place / 4096)) ⊎ (u ≡ bitmap_word (block.place / 4096))

-- The memory may be seen as a view in which the block is a new object, and of the class of so many bytes: the lane has reserved each of its words, of which
-- it had reserved none, and knows it, and nothing undrained is of its lines. No other word changed but those of a new run, and nothing undrained is of a
-- word that had nothing undrained. From there the lane may make another object.
pub record HasObject (at : View → Type 0) (v : View) (shape : Shape) (size kind : ℕ) (block : Block) : Type 0 where
  pub view : View
  pub there : at view
  pub of_size : block_lines (class_of size) ≡ block.lines
  pub words : (place : ℕ) → place < 8 * block.lines → slice_index view.words (8 * (block.place / 64) + place) ≡ fresh_word kind size place
  pub fresh : (place : ℕ) → place < 8 * block.lines → is_reserved v (8 * (block.place / 64) + place) ≡ false
  pub own : (place : ℕ) → place < 8 * block.lines → is_reserved view (8 * (block.place / 64) + place) ≡ true
  pub known : (place : ℕ) → place < 8 * block.lines → is_known view (8 * (block.place / 64) + place) ≡ true
  pub persistent : (line : ℕ) → IsAmong (block.place / 64) block.lines line → list_any (is_in_line line) view.changes ≡ false
  pub others : (u : ℕ) → IsBeside block u → (IsOfNewRun v block u → ⊥) → slice_index view.words u ≡ slice_index v.words u
  pub beside : (p : ℕ → Bool) → touches p v.changes ≡ false → touches p view.changes ≡ false
  pub another : CanMakeObject view shape

-- why there is no object: no block was reserved, or the lane stopped as it filled the one that it reserved
abbrev pub GivesNoObject : (View → Type 0) → View → ℕ → ℕ → NoBlock → Type 0
GivesNoObject at v size kind (no_block.Refused r) = HasNoRoom at v (class_of size) (no_block.Refused r)
GivesNoObject at v size kind (no_block.Stopped stopped) = HasNoRoom at v (class_of size) (no_block.Stopped stopped) ⊎ ((block : Block) × HasStoppedFilling at v size kind block)

-- unless it stopped, the lane may make another object
abbrev pub MayMakeAnother : (View → Type 0) → Shape → Result Block NoBlock → Type 0
MayMakeAnother at shape (Err (no_block.Stopped stopped)) = Unit {0}
MayMakeAnother at shape result = (w : View) × (at w × CanMakeObject w shape)
