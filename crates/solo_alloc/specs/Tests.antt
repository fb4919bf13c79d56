-- What the tests speak of.
use Rattle.pm_layout.specs.declared.shape.Shape.{Shape}
use Rattle.solo_memory.specs.Solo.{Sees, Solo}
use Rattle.solo_view.specs.View.{View}
use Rattle.solo_alloc.specs.NewObjects.{CanMakeObject}

-- a lane alone, at work in a call, may make a new object
pub record IsAtWork (memory : Solo) (shape : Shape) : Type 0 where
  pub view : View
  pub sees : Sees memory view
  pub can : CanMakeObject view shape
