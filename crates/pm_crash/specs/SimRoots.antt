-- WHETHER AN OBJECT IS THE ROOT, as a lane knows it from its look at the root word.
use Rattle.std.specs.Prelude.{◌≡◌, ◌⊎◌, ℕ, ◌+◌, ◌*◌, ◌^◌, ◌<◌, true, false, Contains, Option, Some}
use Rattle.pm_objects.specs.declared.calls.Operation.{Operation}
use Rattle.pm_objects.specs.declared.ids.Oid.{Oid}
use Rattle.pm_model.specs.Refusals.{is_not_held}
use Rattle.pm_model.specs.Transaction.{is_gone}
use Rattle.pm_view.specs.Claims.{holds}
use Rattle.pm_view.specs.Places.{RootWord}
use Rattle.pm_view.specs.View.{View}
use Rattle.pm_world.specs.Memory.{bit}
use Rattle.pm_crash.specs.Footprints.{bit_before}
use Rattle.pm_crash.specs.Freshness.{root_told}
use Rattle.pm_crash.specs.Looked.{items_seen, pool_seen}
use Rattle.pm_crash.specs.Looks.{ids_freed}
use Rattle.pm_crash.specs.Roots.{saw_root}
use Rattle.pm_crash.specs.Sim.{lists_of, tx_with}
use Rattle.pm_crash.specs.SimOps.{KnowsRoot}

-- the root word has this value as far as the object at the offset goes: the lane saw it under the
-- lock of the object's line; or it holds line 0 and knows the word
abbrev pub SawRoot : View → ℕ → ℕ → Type 0
SawRoot v value off =
    ((line : ℕ) × (off ≡ 64 * line + 64)
    × (saw_root v.fixed.shape v.claims line value ≡ true))
    ⊎ ((holds v.claims 0 ≡ true) × (value < 2 ^ 64)
    × ((b : ℕ) → b < 64 → bit_before v RootWord b ≡ Some (bit value b)))

-- THE LANE LOOKED AT THE ROOT for each object that the operation frees, which it holds and did not
-- free
pub record LookedAtRoot (v : View) (root : Option ℕ) (op : Operation) : Type 0 where
  pub value : ℕ
  pub is : root ≡ root_told value
  pub saw : (id : Oid) → Contains (ids_freed (lists_of v) op) id
      → is_not_held (tx_with v (pool_seen v root) (items_seen v)) true id ≡ false
      → is_gone (lists_of v) id.off ≡ false → SawRoot v value id.off

-- SO IT KNOWS THE ROOT, from whatever bits it agrees with
abbrev pub RootIsKnown : Type 0
RootIsKnown = (v : View) (root : Option ℕ) (op : Operation) → LookedAtRoot v root op
    → KnowsRoot v root op
