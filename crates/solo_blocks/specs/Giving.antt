-- A block that a lane reserved is given back, by what its place and lines tell of it: docs/FORMAT.md, "Volatile words".
use Rattle.std.specs.Prelude.{◌⊎◌, ℕ, ◌-◌, ◌*◌, ◌/◌, ◌%◌, ◌^◌, ◌==◌, if◌then◌else◌}
use Rattle.pm_image.specs.declared.block.Block.{Block}
use Rattle.solo_view.specs.declared.occ.Occ.TheVariants.{Run}
use Rattle.solo_view.specs.Steps.{Step}
use Rattle.solo_view.specs.Steps.Step.{Vacate}
use Rattle.solo_view.specs.View.{View}
use Rattle.solo_view.specs.Views.{chunk_bit, zone_at}
use Rattle.solo_chunks.specs.Chunks.{MayGiveBack as MayGiveBackChunks, chunk_bits}
use Rattle.solo_runs.specs.Runs.{MayGiveBack as MayGiveBackInRun}

-- the step that clears a block's bit of its run's occupancy word: that of the run's chunk, by the lines before the block, behind the bitmap's line
abbrev pub vacates_in_run : Block → Step
vacates_in_run block = Vacate (Run (block.place / 4096 * 4096)) (2 ^ ((block.place % 4096 / 64 - 1) / block.lines))

-- the step that clears the bits of the chunks that a block is, in the occupancy word of their zone; the pool has so many lanes
abbrev pub vacates_chunks : ℕ → Block → Step
vacates_chunks lanes block = Vacate (zone_at lanes (block.place / 4096)) (chunk_bits (chunk_bit lanes (block.place / 4096)) (block.lines / 64))

-- the step that gives the block back: whole chunks have 64 lines each, and the block of a run fewer
abbrev pub vacates_block : ℕ → Block → Step
vacates_block lanes block = if block.lines % 64 == 0 then vacates_chunks lanes block else vacates_in_run block

-- the lane may give back the block: it is whole chunks, or one of a run
abbrev pub MayGiveBackBlock : View → Block → Type 0
MayGiveBackBlock v block = MayGiveBackChunks v block ⊎ MayGiveBackInRun v block
