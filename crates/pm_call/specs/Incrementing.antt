-- AN INCREMENT, as a law: a lane at work that recorded the words of a number of eight bytes may
-- write its sum with another number, and tell it, and is at work then.
use Rattle.std.specs.Prelude.{◌≡◌, ℕ, ◌+◌, true}
use Rattle.pm_objects.specs.declared.calls.Operation.TheVariants.{Increment}
use Rattle.pm_objects.specs.declared.ids.Oid.{Oid}
use Rattle.pm_view.specs.View.{View}
use Rattle.pm_world.specs.LaneFields.{Standing, at_work}
use Rattle.pm_plan.specs.Plans.{Ready}
use Rattle.pm_call.specs.At.{At}
use Rattle.pm_call.specs.Did.{IsUnrefused, next}
use Rattle.pm_call.specs.Plans.{increments, known_sum}
use Rattle.pm_call.specs.Ranges.{HasRange}
use Rattle.pm_call.specs.Writing.{AreRecorded}

-- the sum may be put there: the eight bytes are the lane's to write, and their words are recorded
pub record MayIncrement (s : Standing) (id : Oid) (off : ℕ) : Type 0 where
  pub range : HasRange s id off 8 true
  pub recorded : AreRecorded s.view (id.off + off) 8

-- this is the sum, as the lane knows the eight bytes
abbrev pub HasSum : Oid → ℕ → ℕ → View → ℕ → Type 0
HasSum id off by v number = number ≡ known_sum v id off by

pub record LeadsIncrement (s : Standing) (id : Oid) (off by : ℕ) : Type 0 where
  pub unrefused : IsUnrefused s (Increment id off by)
  pub ready : Ready s.view (increments id off by s.view)
  pub stands : At (next s (increments id off by))
  -- the lane's fields say the same
  pub fields : at_work (next s (increments id off by)) ≡ at_work s

abbrev pub NumbersMayBeIncremented : Type 0
NumbersMayBeIncremented = (s : Standing) (id : Oid) (off by : ℕ) → At s → MayIncrement s id off
    → LeadsIncrement s id off by
