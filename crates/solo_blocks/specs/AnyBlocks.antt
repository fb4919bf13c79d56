-- A block for an object of any size, by what such an object takes: docs/FORMAT.md, "Sizes" and "Blocks are found".
use Rattle.std.specs.Prelude.{ℕ}
use Rattle.pm_image.specs.declared.block.Block.{Block}
use Rattle.pm_layout.specs.declared.class.Class.{Class}
use Rattle.pm_layout.specs.declared.class.Class.TheVariants.{Chunks, Lines}
use Rattle.pm_objects.specs.declared.refusal.Refusal.TheVariants as refusal
use Rattle.solo_view.specs.View.{View}
use Rattle.solo_chunks.specs.Chunks.{AreFree, AreLeastFree, HasFoundNone, HasGot}
use Rattle.solo_blocks.specs.declared.making.NoBlock.{NoBlock}
use Rattle.solo_blocks.specs.declared.making.NoBlock.TheVariants as no_block
use Rattle.solo_blocks.specs.SmallBlocks.{HasBlock, HasNone}

-- the lane has a block of the class, or so many chunks that lie together, the least that are free
abbrev pub HasRoom : (View → Type 0) → View → Class → Block → Type 0
HasRoom at v (Lines lines) block = HasBlock at v lines block
HasRoom at v (Chunks count) block = HasGot at v count block × AreLeastFree v count block

-- nowhere do so many chunks lie together that are free, as each zone was searched
abbrev pub HasNoChunks : (View → Type 0) → View → ℕ → Type 0
HasNoChunks at v count = HasFoundNone at v count × ((zone first : ℕ) → AreFree v count zone first → ⊥)

-- why there is no block; chunks are looked for with no counted call, so that no stop is in the way
abbrev pub HasNoRoom : (View → Type 0) → View → Class → NoBlock → Type 0
HasNoRoom at v (Lines lines) why = HasNone at v lines why
HasNoRoom at v (Chunks count) (no_block.Refused refusal.NoSpace) = HasNoChunks at v count
HasNoRoom at v (Chunks count) why = ⊥
