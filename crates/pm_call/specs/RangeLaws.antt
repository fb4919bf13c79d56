-- WHY AN OPERATION ON A RANGE IS REFUSED, as laws: the plain model's first refusal follows from the
-- lane's lists and from the size that it knows.
use Rattle.std.specs.Prelude.{◌≡◌, ◌⊎◌, ℕ, ◌^◌, ◌<◌, Bool, false, Some, None}
use Rattle.pm_objects.specs.declared.calls.Operation.{Operation}
use Rattle.pm_objects.specs.declared.ids.Oid.{Oid}
use Rattle.pm_model.specs.Refusals.{first_of}
use Rattle.pm_world.specs.LaneFields.{Standing}
use Rattle.pm_crash.specs.Looked.{refusal_by, size_seen}
use Rattle.pm_crash.specs.SimOps.{LookedAt}
use Rattle.pm_call.specs.At.{At, entries_so_far}
use Rattle.pm_call.specs.Did.{unseen}
use Rattle.pm_call.specs.Ranges.{IsRangeOf, is_held_so, range_tests}

-- THE MODEL'S FIRST REFUSAL of such an operation is that of the first test that applies
abbrev pub RangeRefusals : Type 0
RangeRefusals = (s : Standing) (op : Operation) (id : Oid) (off len : ℕ) (write : Bool) → At s
    → IsRangeOf op id off len write
    → refusal_by unseen s.view None op ≡ first_of (range_tests s op id off len write)

-- the lane knows the object's size, or does not hold the object
pub record KnowsSizeSeen (s : Standing) (id : Oid) : Type 0 where
  pub size : ℕ
  pub sized : size_seen s.view id.off ≡ Some size
  pub small : size < 2 ^ 64

abbrev pub IsSizedIfHeld : Standing → Oid → Type 0
IsSizedIfHeld s id = KnowsSizeSeen s id ⊎ (is_held_so s id false ≡ false)

-- THEN IT LOOKED AT ALL that such an operation asks for
abbrev pub RangesAreLookedAt : Type 0
RangesAreLookedAt = (s : Standing) (op : Operation) (id : Oid) (off len : ℕ) (write : Bool) → At s
    → IsRangeOf op id off len write → IsSizedIfHeld s id
    → LookedAt s.view (entries_so_far s) None op
