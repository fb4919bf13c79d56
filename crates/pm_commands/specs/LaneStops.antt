-- The stop numbers of all lanes: docs/COMMANDS.md, "Stops".
use Rattle.std.specs.Prelude.{◌≡◌, ℕ, ◌<◌, List, length, slice_index_or, Option, None}
use Rattle.pm_script.specs.Stops.{stop_of}

-- each lane, 0 to 31, has the stop number that was given for it, or none
pub record AreStopsFor (given : List (ℕ × ℕ)) (stops : List (Option ℕ)) : Type 0 where
  pub count : length stops ≡ 32
  pub each : (lane : ℕ) → lane < 32 → slice_index_or stops lane None ≡ stop_of lane given
