-- The stop numbers of lanes: docs/COMMANDS.md, "Stops".
use Rattle.std.specs.Prelude.{◌≡◌, ◌≢◌, ℕ, ◌<◌, ◌==◌, List, [], length, slice_index_or, Option, Some}
use Rattle.std.specs.List.{after_first, before_first, slice_split}
use Rattle.std.specs.Map.{lookup}
use Rattle.solo_script.specs.Numbers.{number_of}

-- what the commas of a text part
abbrev pub parts : List ℕ → List (List ℕ)
parts text = slice_split (λ b. b == 44) text

-- the text is `LANE:CALLS`: before its first colon a lane, and behind it after how many counted calls that stops
abbrev pub IsStop : List ℕ → ℕ × ℕ → Type 0
IsStop text stop = (number_of (before_first (λ b. b == 58) text) ≡ Some stop.0) × (number_of (after_first (λ b. b == 58) text) ≡ Some stop.1)

-- one of some stops, or none of lane 0
abbrev pub stop_at : List (ℕ × ℕ) → ℕ → ℕ × ℕ
stop_at stops i = slice_index_or stops i (0, 0)

-- the parts of a text are these stops, none of them of a lane that another is of
pub record AreStopsOf (parts : List (List ℕ)) (stops : List (ℕ × ℕ)) : Type 0 where
  pub count : length stops ≡ length parts
  pub each : (i : ℕ) → i < length stops → IsStop (slice_index_or parts i []) (stop_at stops i)
  pub once : (i j : ℕ) → i < j → j < length stops → (stop_at stops i).0 ≢ (stop_at stops j).0

-- the text is a list of stops
abbrev pub AreStops : List ℕ → List (ℕ × ℕ) → Type 0
AreStops text stops = AreStopsOf (parts text) stops

-- the lane's stop number, if it has one
abbrev pub stop_of : ℕ → List (ℕ × ℕ) → Option ℕ
stop_of lane stops = lookup (λ other. other == lane) stops
