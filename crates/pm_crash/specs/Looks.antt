-- WHAT A REFUSAL LOOKS AT beside a transaction's lists: the pool's id and shape; and of objects that
-- the lane holds and did not free, their sizes, whether one is the root, and whether one is in a list.
use Rattle.std.specs.Prelude.{◌≡◌, Bool, true, false, Contains, List, [], ◌∷◌, map}
use Rattle.pm_objects.specs.declared.calls.Operation.{Operation}
use Rattle.pm_objects.specs.declared.calls.Operation.TheVariants.{AddRange, Write, Read, Increment, Free, Publish}
use Rattle.pm_objects.specs.declared.ids.Oid.{Oid}
use Rattle.pm_model.specs.Items.{Items, PlainPool, is_root, size_of}
use Rattle.pm_crash.specs.OpenRuns.{on_pool}
use Rattle.pm_model.specs.Pending.{SetWord}
use Rattle.pm_model.specs.Refusals.{Seen, is_listed, is_not_held, refusal_of}
use Rattle.pm_model.specs.Transaction.{Transaction, is_gone}

-- the objects whose sizes an operation asks for; those that it frees
abbrev pub ids_sized : Transaction → Operation → List Oid
ids_sized tx (AddRange id at len) = id ∷ []
ids_sized tx (Write id at bytes) = id ∷ []
ids_sized tx (Read id at len) = id ∷ []
ids_sized tx (Increment id at by) = id ∷ []
ids_sized tx Publish = map (λ (a : SetWord). a.id) tx.pending.sets
ids_sized tx op = []

abbrev pub ids_freed : Transaction → Operation → List Oid
ids_freed tx (Free id) = id ∷ []
ids_freed tx Publish = tx.pending.frees
ids_freed tx op = []

-- TWO POOLS WITH COPIES ARE ALIKE to an operation of a transaction of these lists
pub record AreAlike (tx : Transaction) (op : Operation) (before other : PlainPool) (copy looked : Items)
    : Type 0 where
  pub id : before.id ≡ other.id
  pub lanes : before.lanes ≡ other.lanes
  pub zones : before.zones ≡ other.zones
  pub sizes : (id : Oid) (write : Bool) → Contains (ids_sized tx op) id
      → is_not_held (on_pool before copy tx) write id ≡ false → is_gone tx id.off ≡ false
      → size_of copy id.off ≡ size_of looked id.off
  pub roots : (id : Oid) → Contains (ids_freed tx op) id
      → is_not_held (on_pool before copy tx) true id ≡ false → is_gone tx id.off ≡ false
      → is_root before.root id.off ≡ is_root other.root id.off
  pub listed : (id : Oid) → Contains (ids_freed tx op) id
      → is_not_held (on_pool before copy tx) true id ≡ false → is_gone tx id.off ≡ false
      → is_listed copy id.off ≡ is_listed looked id.off

-- SO THEY ARE REFUSED ALIKE
abbrev pub RefusalsLook : Type 0
RefusalsLook = (seen : Seen) (tx : Transaction) (op : Operation) (before other : PlainPool)
    (copy looked : Items) → AreAlike tx op before other copy looked
    → refusal_of seen (on_pool before copy tx) op ≡ refusal_of seen (on_pool other looked tx) op
