-- Blocks of what is reserved given back one after another (pmemobj_cancel(3)): docs/FORMAT.md, "Sequences".
use Rattle.std.specs.Prelude.{◌≡◌, ◌≤◌, All, List, ◌∷◌, ◌++◌}
use Rattle.solo_crash.specs.CallBlocks.{NewObject}
use Rattle.solo_epoch.specs.GivingBack.{MayGiveObjectBack, with_given_back}
use Rattle.pm_layout.specs.declared.shape.Shape.{Shape}
use Rattle.solo_view.specs.View.{View}
use Rattle.solo_world.specs.Lanes.{IsOfShape}

-- the lane of a pool of this shape may give back the block of each of these objects, one after another; each is of a size that an object may have, behind the line that its
-- block has before it
pub record MayGiveInTurn (v : View) (shape : Shape) (ns : List NewObject) : Type 0 where
  pub of_shape : IsOfShape v shape
  pub behind : All (λ (n : NewObject). 64 ≤ n.off) ns
  pub most : All (λ (n : NewObject). n.size ≤ 262080) ns
  pub each : (given rest : List NewObject) (n : NewObject) → ns ≡ given ++ n ∷ rest → MayGiveObjectBack (with_given_back v given) shape n
