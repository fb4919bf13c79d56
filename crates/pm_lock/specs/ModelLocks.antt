-- THE LOCKS THAT ARE WANTED ARE THE PLAIN MODEL'S: as many as its transaction is to take, and of
-- the same ids there is no place.
use Rattle.std.specs.Prelude.{◌≡◌, ℕ, ◌+◌, nat_lt, not, true, false, List, length, Some}
use Rattle.std.specs.List.{list_any}
use Rattle.pm_layout.specs.declared.shape.Shape.{Shape}
use Rattle.pm_model.specs.Places.{has_place}
use Rattle.pm_model.specs.Refusals.{passes_locks}
use Rattle.pm_model.specs.Transaction.{Transaction, is_locked, is_new}
use Rattle.pm_objects.specs.declared.calls.Want.{Want}
use Rattle.pm_objects.specs.declared.ids.Oid.{Oid}
use Rattle.pm_world.specs.declared.lane.HeldLock.{HeldLock}
use Rattle.pm_lock.specs.Objects.{line_of}
use Rattle.pm_lock.specs.Wants.{has_unplaced, is_listed, wanted}

-- these are the locks of a transaction of a pool of this id and shape, and the lines of its new
-- objects
pub record HasLocksOf (tx : Transaction) (sh : Shape) (pool : ℕ) (locks : List HeldLock)
    (new : List ℕ) : Type 0 where
  pub id : tx.before.id ≡ pool
  pub lanes : tx.before.lanes ≡ sh.lanes
  pub zones : tx.before.zones ≡ sh.zones
  pub count : length tx.locks ≡ length locks
  pub held : (id : Oid) (line : ℕ) → line_of sh pool id ≡ Some line → is_new tx id.off ≡ false
      → is_listed locks new line ≡ is_locked tx.locks id.off false
  pub made : (id : Oid) (line : ℕ) → line_of sh pool id ≡ Some line → is_new tx id.off ≡ true
      → is_listed locks new line ≡ true

-- SO TOO MANY LOCKS are too many for the model, and an id without a place is one for the model
pub record PlansAs (tx : Transaction) (sh : Shape) (pool : ℕ) (locks : List HeldLock)
    (new : List ℕ) (wants : List Want) : Type 0 where
  pub full : passes_locks tx wants
      ≡ nat_lt 64 (length locks + length (wanted sh pool locks new wants))
  pub unplaced : list_any (λ (want : Want). not (has_place tx.before want.id)) wants
      ≡ has_unplaced sh pool wants

abbrev pub PlansAreTheModels : Type 0
PlansAreTheModels = (tx : Transaction) (sh : Shape) (pool : ℕ) (locks : List HeldLock)
    (new : List ℕ) (wants : List Want)
    → HasLocksOf tx sh pool locks new → PlansAs tx sh pool locks new wants
