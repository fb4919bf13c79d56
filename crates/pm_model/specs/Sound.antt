-- What a plain pool is, offset by offset: docs/MODEL.md, "A pool".
use Rattle.std.specs.Prelude.{◌≡◌, ℕ, true, false, IfSome, IsSome, All, List, [], ◌∷◌, length, Option, Some}
use Rattle.pm_model.specs.Items.{Item, Items, is_among, list_of, members_of}
use Rattle.pm_model.specs.Blocks.{item_covers}
use Rattle.pm_model.specs.Pending.{Pending, Reservation}
use Rattle.pm_model.specs.Refusals.{is_size}
use Rattle.pm_model.specs.CallStep.{State}

-- none of the numbers stands twice
abbrev pub AreOnce : List ℕ → Type 0
AreOnce [] = Unit {0}
AreOnce (n ∷ numbers) = (is_among numbers n ≡ false) × AreOnce numbers

pub record IsSound (items : Items) (root : Option ℕ) : Type 0 where
  -- an object has 1 to 262,080 bytes, and no line is one of two objects' blocks
  pub sizes : (off : ℕ) (i : Item) → items off ≡ Some i → is_size (length i.bytes) ≡ true
  pub apart : (x y l : ℕ) → item_covers x (items x) l ≡ true → item_covers y (items y) l ≡ true
      → x ≡ y
  -- a member of a list is an object that names the list's head, and the other way round, once
  pub linked : (head off : ℕ) → is_among (members_of items head) off ≡ true
      → list_of items off ≡ Some head
  pub listed : (head off : ℕ) → list_of items off ≡ Some head
      → is_among (members_of items head) off ≡ true
  pub once : (head : ℕ) → AreOnce (members_of items head)
  pub root_there : IfSome root (λ off. IsSome (items off))

-- what is reserved has a size that an object may have
abbrev pub HasSizes : Pending → Type 0
HasSizes p = All (λ (r : Reservation). is_size (length r.bytes) ≡ true) p.reserved

pub record IsSoundState (s : State) : Type 0 where
  pub pool : IsSound s.pool.items s.pool.root
  pub pending : (lane : ℕ) → HasSizes (s.pending lane)
