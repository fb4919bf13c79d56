-- WHERE AN OPERATION STOPS that adds no range, its lane is writing no record of its log.
use Rattle.std.proofs.Common.{◌≡◌, ℕ, ◌+◌, ◌-◌, ◌*◌, ◌/◌, ◌%◌, ◌<◌, ◌==◌, nat_le, Bool, true, List, length, take, arith, eqb-true}
use Rattle.std.proofs.lemmas.Bool.{and_parts, leb-true}
use Rattle.pm_layout.specs.Chunks.{page_of_zone}
use Rattle.pm_objects.specs.declared.ids.Oid.{Oid}
use Rattle.pm_view.specs.View.{View}
use Rattle.pm_view.specs.Views.{after_all}
use Rattle.pm_world.specs.LaneFields.{Standing}
use Rattle.pm_plan.specs.Notes.{IsBeyond}
use Rattle.pm_undo.specs.Working.{IsWorking}
use Rattle.pm_call.specs.At.{At}
use Rattle.pm_call.specs.Held.{has_line}
use Rattle.pm_call.specs.Plans.{cancels, increments, puts}
use Rattle.pm_call.specs.Ranges.{HasRange}
use Rattle.pm_call.specs.Unwritten.{WritesNoRecord}
use Rattle.pm_call.proofs.KnownObjects.{held_object}
use Rattle.pm_call.proofs.OverCalls.{size_beyond}
use Rattle.pm_call.proofs.Slotless.{slotless_so_far, unslotted_unwritten, working_unslotted}
use Rattle.pm_call.proofs.SlotlessPlans.{slotless_cancels, slotless_increments, slotless_puts}

-- ---- bytes are written

-- the words of a range of an object that is held are past the lanes' areas
beyond_by : (page header off at : ℕ) → 512 * page < 8 * header + 2 → header ≡ off / 64 - 1 → has_line off ≡ true → 512 * page < (off + at) / 8 + 1
beyond_by page header off at far line has =
    let t = and_parts (off % 64 == 0) (nat_le 128 off) has in
    let even : off % 64 ≡ 0 = eqb-true (off % 64) 0 t.0 in
    let high = leb-true 128 off t.1 in
    omega (arith, far, line, even, high)

module _ (s : Standing) (is : At s) where
  range_beyond : (id : Oid) (off len : ℕ) (write : Bool) → HasRange s id off len write → IsBeyond s.view.fixed.shape ((id.off + off) / 8)
  range_beyond id off len write range =
      let held = held_object s.view s.locks is.held id.off write range.locked in
      let far : IsBeyond s.view.fixed.shape (8 * Rattle.pm_view.specs.Claims.header_in s.view.fixed.shape s.view.claims held.1.block + 1) = size_beyond s.view held.1.block held.1.inside in
      let page : ℕ = page_of_zone s.view.fixed.shape 0 in
      let header : ℕ = Rattle.pm_view.specs.Claims.header_in s.view.fixed.shape s.view.claims held.1.block in
      let z = beyond_by page header id.off off (omega (arith, far)) held.1.at held.0 in
      omega (arith, z)

  pub puts_unwritten : (id : Oid) (off : ℕ) (bytes : List ℕ) → HasRange s id off (length bytes) true → (k : ℕ) → WritesNoRecord (after_all s.view (take k (puts id off bytes s.view)))
  puts_unwritten id off bytes range k = unslotted_unwritten _ (slotless_so_far s.view (puts id off bytes s.view) k (working_unslotted s.view is.working)
      (slotless_puts s.view id off bytes is.working.lane is.working.lanes (range_beyond id off (length bytes) true range)))

  pub increments_unwritten : (id : Oid) (off by : ℕ) → HasRange s id off 8 true → (k : ℕ) → WritesNoRecord (after_all s.view (take k (increments id off by s.view)))
  increments_unwritten id off by range k = unslotted_unwritten _ (slotless_so_far s.view (increments id off by s.view) k (working_unslotted s.view is.working)
      (slotless_increments s.view id off by is.working.lane is.working.lanes (range_beyond id off 8 true range)))

-- ---- what is pending is cancelled

pub cancels_unwritten : (v : View) → IsWorking v → (k : ℕ) → WritesNoRecord (after_all v (take k (cancels v)))
cancels_unwritten v works k = unslotted_unwritten _ (slotless_so_far v (cancels v) k (working_unslotted v works) (slotless_cancels v))
