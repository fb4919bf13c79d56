-- WHERE A LANE IS WRITING NO RECORD of its log: as it adds no range.
use Rattle.std.specs.Prelude.{ℕ, ◌<◌, Bool, true, false, Option, Some, None}
use Rattle.pm_objects.specs.declared.calls.Operation.{Operation}
use Rattle.pm_objects.specs.declared.calls.Operation.TheVariants.{AddRange}
use Rattle.pm_view.specs.View.{View}
use Rattle.pm_world.specs.Crash.{IsBeingWritten}

-- the operation adds a range
abbrev pub is_adding : Operation → Bool
is_adding (AddRange id off len) = true
is_adding op = false

-- so does that in which a lane stopped, if it did in one
abbrev pub is_adding_in : Option Operation → Bool
is_adding_in (Some op) = is_adding op
is_adding_in None = false

-- A LANE WITH THIS VIEW IS WRITING NO RECORD of its log: no slot has undrained words, or a record in
-- the making
abbrev pub WritesNoRecord : View → Type 0
WritesNoRecord v = (slot : ℕ) → slot < 64 → ¬ IsBeingWritten v slot
