-- A CALL WHEREVER ITS LANE IS: outside a transaction where none is open, else inside.
use Rattle.std.specs.Prelude.{ℕ, zero, Bool, false}
use Rattle.pm_world.specs.declared.lane.Lane.{Lane}

-- a lane that did not stop is outside where it has no level; one that stopped is refused as inside
abbrev pub IfOutside : Bool → ℕ → Type 0 → Type 0 → Type 0
IfOutside false zero outside inside = outside
IfOutside stopped level outside inside = inside

unfoldable pub ByLevel : {M : Type 0} → Lane M → Type 0 → Type 0 → Type 0
ByLevel lane outside inside = IfOutside lane.stopped lane.level outside inside
