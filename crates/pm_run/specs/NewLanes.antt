-- A LANE OF WHICH NOTHING WAS ASKED.
use Rattle.std.specs.Prelude.{◌≡◌, ℕ}
use Rattle.pm_call.specs.Histories.{nothing_told}
use Rattle.pm_call.specs.Positions.{position_of, resting}
use Rattle.pm_call.specs.Standing.{StandsWith}
use Rattle.pm_view.specs.View.{View}
use Rattle.pm_world.specs.declared.lane.Lane.{Lane}

-- it is lane k, told nothing, and is between two calls
abbrev pub IsNew : {M : Type 0} → (M → View → Type 0) → Lane M → ℕ → Type 0
IsNew at lane k = StandsWith at lane (nothing_told k) × (position_of lane ≡ resting)
