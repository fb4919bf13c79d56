-- A WRITE, as a law: a lane at work that recorded the words of a range may put bytes in and tell it, and is at work then.
use Rattle.std.specs.Prelude.{◌≡◌, ℕ, ◌+◌, true, List, length}
use Rattle.pm_objects.specs.declared.calls.Operation.TheVariants.{Write}
use Rattle.pm_objects.specs.declared.ids.Oid.{Oid}
use Rattle.pm_view.specs.View.{View}
use Rattle.pm_words.specs.Words.{AreBytes}
use Rattle.pm_world.specs.LaneFields.{Standing, at_work}
use Rattle.pm_plan.specs.Plans.{Ready}
use Rattle.pm_call.specs.At.{At}
use Rattle.pm_call.specs.Did.{IsUnrefused, next}
use Rattle.pm_call.specs.Plans.{puts}
use Rattle.pm_call.specs.Ranges.{HasRange, has_records}

-- each word that so many bytes from a place on cover has a record
abbrev pub AreRecorded : View → ℕ → ℕ → Type 0
AreRecorded v place len = has_records v place len ≡ true

-- the bytes may be put there: the range is the lane's to write, and its words are recorded
pub record MayPut (s : Standing) (id : Oid) (off : ℕ) (bytes : List ℕ) : Type 0 where
  pub range : HasRange s id off (length bytes) true
  pub recorded : AreRecorded s.view (id.off + off) (length bytes)
  pub are_bytes : AreBytes bytes

pub record LeadsWrite (s : Standing) (id : Oid) (off : ℕ) (bytes : List ℕ) : Type 0 where
  pub unrefused : IsUnrefused s (Write id off bytes)
  pub ready : Ready s.view (puts id off bytes s.view)
  pub stands : At (next s (puts id off bytes))
  -- the lane's fields say the same
  pub fields : at_work (next s (puts id off bytes)) ≡ at_work s

abbrev pub RangesMayBeWritten : Type 0
RangesMayBeWritten = (s : Standing) (id : Oid) (off : ℕ) (bytes : List ℕ) → At s → MayPut s id off bytes → LeadsWrite s id off bytes
