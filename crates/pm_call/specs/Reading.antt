-- A READ, as a law: a lane at work that knows the words of a range may tell their bytes, and is at work then.
use Rattle.std.specs.Prelude.{◌≡◌, ℕ, ◌+◌, false, List}
use Rattle.pm_objects.specs.declared.calls.Operation.TheVariants.{Read}
use Rattle.pm_objects.specs.declared.ids.Oid.{Oid}
use Rattle.pm_view.specs.View.{View}
use Rattle.pm_world.specs.LaneFields.{Standing}
use Rattle.pm_crash.specs.Looked.{bytes_seen}
use Rattle.pm_plan.specs.Plans.{Ready, known_word}
use Rattle.pm_call.specs.At.{At}
use Rattle.pm_call.specs.Did.{IsUnrefused, next}
use Rattle.pm_call.specs.Plans.{gets}
use Rattle.pm_call.specs.Ranges.{HasRange, KnowsWords}

-- these are the bytes of a range, as the lane knows them
abbrev pub HasRead : Oid → ℕ → ℕ → List ℕ → View → Unit {0} → Type 0
HasRead id off len bytes v done = bytes ≡ bytes_seen (known_word v) id.off off len

pub record LeadsRead (s : Standing) (id : Oid) (off len : ℕ) : Type 0 where
  pub unrefused : IsUnrefused s (Read id off len)
  pub ready : Ready s.view (gets id off len s.view)
  pub stands : At (next s (gets id off len))

abbrev pub RangesMayBeRead : Type 0
RangesMayBeRead = (s : Standing) (id : Oid) (off len : ℕ) → At s → HasRange s id off len false → KnowsWords s.view (id.off + off) len → LeadsRead s id off len
