-- No step changes the shape of the pool that a view is of.
use Rattle.std.proofs.Common.{◌≡◌, ◌∙◌, sym, subst}
use Rattle.pm_layout.specs.declared.shape.Shape.{Shape}
use Rattle.solo_view.specs.Constants.{IsSameLane}
use Rattle.solo_view.specs.View.{View}
use Rattle.solo_world.specs.Lanes.{IsOfShape}
use Rattle.solo_world.specs.declared.lane.Lane.{Lane}

pub shape_kept : (v w : View) (shape : Shape) → IsSameLane v w → IsOfShape v shape → IsOfShape w shape
shape_kept v w shape same is = record { lanes = same.lanes ∙ is.lanes; zones = same.zones ∙ is.zones; size = same.size ∙ is.size }

-- the lane is of the same pool
pub record IsOfSamePool {M : Type 0} (lane new : Lane M) : Type 0 where
  pub pool : new.pool ≡ lane.pool
  pub shape : new.shape ≡ lane.shape

pub shape_seen : {M : Type 0} (lane new : Lane M) (v w : View) → IsOfSamePool lane new → IsSameLane v w → IsOfShape v lane.shape → IsOfShape w new.shape
shape_seen lane new v w pool same is = subst (IsOfShape w) (sym pool.shape) (shape_kept v w lane.shape same is)
