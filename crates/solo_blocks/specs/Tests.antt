-- What the tests speak of.
use Rattle.pm_layout.specs.declared.shape.Shape.{Shape}
use Rattle.solo_memory.specs.Solo.{Sees, Solo}
use Rattle.solo_view.specs.View.{View}
use Rattle.solo_blocks.specs.NewRuns.{MayMakeRun}

-- a lane alone, at work in a call, may make a free chunk a run
pub record IsAtWork (memory : Solo) (shape : Shape) : Type 0 where
  pub view : View
  pub sees : Sees memory view
  pub may : MayMakeRun view shape
