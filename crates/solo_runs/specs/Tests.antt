-- What the tests speak of.
use Rattle.std.specs.Prelude.{◌≡◌, ℕ, ◌*◌, ◌<◌, true, All, List, []}
use Rattle.pm_image.specs.declared.block.Block.{Block}
use Rattle.pm_layout.specs.declared.shape.Shape.{Shape}
use Rattle.pm_layout.specs.Sizes.{blocks_of}
use Rattle.solo_memory.specs.Solo.{Sees, Solo}
use Rattle.solo_view.specs.Log.{no_log}
use Rattle.solo_view.specs.Log.Phase.{Idle}
use Rattle.solo_view.specs.View.{View}
use Rattle.solo_view.specs.Views.{reserves}
use Rattle.solo_runs.specs.Runs.{MaySearch, run_block, run_of}

-- a lane alone, with nothing undrained and no call, may search
pub record Rests (memory : Solo) (shape : Shape) : Type 0 where
  pub view : View
  pub sees : Sees memory view
  pub may : MaySearch view shape
  pub drained : view.changes ≡ []
  pub log : view.log ≡ no_log Idle

-- the lane reserved the block, which is one of a run of the class
pub record IsMine (v : View) (class : ℕ) (block : Block) : Type 0 where
  pub chunk : ℕ
  pub index : ℕ
  pub in_zones : chunk < 64 * v.zones
  pub in_run : index < blocks_of class
  pub is_block : block ≡ run_block v.lanes chunk class index
  pub own : reserves v (run_of v.lanes chunk) index ≡ true

-- a lane that rests has these blocks, all of the class
pub record HoldsAll (memory : Solo) (shape : Shape) (class : ℕ) (blocks : List Block) : Type 0 where
  pub rests : Rests memory shape
  pub mine : All (IsMine rests.view class) blocks
