-- The lane of the crate's tests: lane 0 of one, of pool 7, which stops after three counted calls.
use Rattle.std.specs.Prelude.{Some}
use Rattle.pm_layout.specs.declared.shape.Shape.{Shape}
use Rattle.pm_view.specs.View.{View, Constants, idle}
use Rattle.pm_world.specs.SoloLanes.{only_lane}

abbrev pub first_lane : Shape → Constants
first_lane sh = only_lane sh 7 (Some 3)

-- its view before its first call, at generation 1
abbrev pub first_view : Shape → View
first_view sh = idle (first_lane sh) 1
