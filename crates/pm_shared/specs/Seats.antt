-- THE VIEWS THAT A LANE OVER A SEAT MAY BE SEEN AS, and the steps that it takes.
use Rattle.std.specs.Prelude.{◌≡◌, ℕ, []}
use Rattle.atomic_table.specs.Seated.{TableId}
use Rattle.atomic_table.specs.Table.{Me}
use Rattle.pm_layout.specs.declared.shape.Shape.{Shape}
use Rattle.pm_memory.specs.Runs.{AnyStep}
use Rattle.pm_shared.specs.Rule.{Knowledge, lane_of}
use Rattle.pm_shared.specs.Tallies.{Tallied, IsTally}
use Rattle.pm_view.specs.Steps.{Step}
use Rattle.pm_view.specs.View.{View}
use Rattle.pm_world.specs.Lawful.{Allowed}

-- a lane over a seat: the pool's shape, the lane's number and its tally, and what the seat knows
pub record Seated : Type 0 where
  pub shape : Shape
  pub lane : ℕ
  pub tally : Tallied
  pub me : Me ℕ Knowledge

-- the seat knows the view, which is of this lane of a pool of this shape, and the tally is the view's
pub record IsSeen (s : Seated) (v : View) : Type 0 where
  pub knows : s.me ≡ lane_of v
  pub shape : v.fixed.shape ≡ s.shape
  pub lane_is : v.fixed.lane ≡ s.lane
  pub tally : IsTally s.tally v

-- the lane's view allows the step
pub record IsAllowed (s : Seated) (step : Step) : Type 0 where
  pub view : View
  pub seen : IsSeen s view
  pub allowed : Allowed view step

-- so it takes each step that a view of it allows
pub meets_shared : (s : Seated) (v : View) (step : Step) → IsSeen s v → Allowed v step → IsAllowed s step
meets_shared s v step seen may = record { view = v; seen = seen; allowed = may }

-- and it promises what it does of every view
pub grants_shared : (v : View) (step : Step) → Allowed v step → AnyStep v step
grants_shared v step may = tt

-- where nothing is picked
abbrev pub no_table : TableId
no_table = record { words = 0; slots = 0; views_name = 0; atom = 0; block = 0; offset = 0; slot_names = [] }
