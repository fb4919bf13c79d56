-- What the tests speak of.
use Rattle.std.specs.Prelude.{All, List}
use Rattle.pm_image.specs.declared.block.Block.{Block}
use Rattle.pm_layout.specs.declared.shape.Shape.{Shape}
use Rattle.solo_memory.specs.Solo.{Sees, Solo}
use Rattle.solo_view.specs.View.{View}
use Rattle.solo_reclaim.specs.KeptBlocks.{Keeps}
use Rattle.solo_reclaim.specs.Reclaims.{MayReclaim}

-- a lane alone, over its memory, may reclaim, and keeps these blocks
pub record Rests (memory : Solo) (shape : Shape) (kept : List Block) : Type 0 where
  pub view : View
  pub sees : Sees memory view
  pub may : MayReclaim view shape
  pub keeps : All (Keeps view) kept
