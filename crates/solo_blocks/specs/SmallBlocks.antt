-- A block of a class, in a run or in a new one: docs/FORMAT.md, "Blocks are found".
use Rattle.std.specs.Prelude.{◌⊎◌, ℕ}
use Rattle.pm_image.specs.declared.block.Block.{Block}
use Rattle.solo_view.specs.View.{View}
use Rattle.solo_runs.specs.Runs.{HasGot, IsFree, IsLeastFree}
use Rattle.solo_blocks.specs.declared.making.NoBlock.{NoBlock}
use Rattle.solo_blocks.specs.NewRuns.{GivesNone, HasNewRun}

-- no run of the class has a free block
abbrev pub AreFull : View → ℕ → Type 0
AreFull v lines = (chunk index : ℕ) → IsFree v lines chunk index → ⊥

-- the block is of a run, and the least of the class that is free
abbrev pub HasFreeBlock : (View → Type 0) → View → ℕ → Block → Type 0
HasFreeBlock at v lines block = HasGot at v block × IsLeastFree v lines block

-- the lane has the block: where none of the class is free it is the first of a new run
abbrev pub HasBlock : (View → Type 0) → View → ℕ → Block → Type 0
HasBlock at v lines block = HasFreeBlock at v lines block ⊎ (AreFull v lines × HasNewRun at v lines block)

-- there is none, nor could a run be made, for this reason
abbrev pub HasNone : (View → Type 0) → View → ℕ → NoBlock → Type 0
HasNone at v lines why = AreFull v lines × GivesNone at v lines why
