-- A RANGE IS ADDED to what a transaction may put back: pmemobj_tx_add_range(3).
use Rattle.std.specs.Prelude.{◌≡◌, ℕ, ◌+◌, true, length}
use Rattle.pm_objects.specs.declared.calls.Operation.TheVariants.{AddRange}
use Rattle.pm_objects.specs.declared.ids.Oid.{Oid}
use Rattle.pm_model.specs.Transaction.{covered_words, new_words}
use Rattle.pm_view.specs.View.{View}
use Rattle.pm_world.specs.LaneFields.{Standing}
use Rattle.pm_plan.specs.Plans.{Ready}
use Rattle.pm_undo.specs.Records.{kept_by}
use Rattle.pm_undo.specs.Spans.{words_in}
use Rattle.pm_undo.specs.Undoing.{needed}
use Rattle.pm_undo.specs.Working.{HasSlots}
use Rattle.pm_call.specs.At.{At}
use Rattle.pm_call.specs.Did.{IsUnrefused, next}
use Rattle.pm_call.specs.Plans.{adds}
use Rattle.pm_call.specs.Ranges.{HasSeen}

-- a range of an object under its write lock, each word of which was looked at
abbrev pub CanAdd : Standing → Oid → ℕ → ℕ → Type 0
CanAdd s id off len = HasSeen s id off len true

-- so many of its words had no record yet
abbrev pub HasCounted : Oid → ℕ → ℕ → View → ℕ → Type 0
HasCounted id off len v count =
    count ≡ length (new_words (words_in (kept_by v)) (covered_words (id.off + off) len))

-- the plan may be carried out, and the lane is at work then
pub record IsAdded (s : Standing) (id : Oid) (off len : ℕ) : Type 0 where
  pub unrefused : IsUnrefused s (AddRange id off len)
  pub ready : Ready s.view (adds id off len s.view)
  pub stands : At (next s (adds id off len))

-- THE LAW: such a range may be added where there are slots for the records that it needs
abbrev pub RangesMayBeAdded : Type 0
RangesMayBeAdded = (s : Standing) (id : Oid) (off len : ℕ) → At s → CanAdd s id off len
    → HasSlots s.view (needed s.view (id.off + off) len) → IsAdded s id off len
