-- Pending actions: what a lane asked for, to be done at once by a later publish
-- (pmemobj_reserve(3), pmemobj_defer_free(3), pmemobj_set_value(3), pmemobj_publish(3)).
use Rattle.std.specs.Prelude.{ℕ, ◌+◌, ◌==◌, ◌||◌, nat_lt, Bool, true, false, if◌then◌else◌, List, [], ◌∷◌, ◌++◌, length, map, find, replicate, None}
use Rattle.std.specs.List.{list_any}
use Rattle.std.specs.Option.{option_map_or}
use Rattle.pm_objects.specs.declared.calls.Want.{Want}
use Rattle.pm_objects.specs.declared.ids.Oid.{Oid}
use Rattle.pm_model.specs.Items.{Edit, Item, Items, freed_item, made_item, number_bytes, put_bytes, put_into, size_of}
use Rattle.pm_model.specs.Blocks.{Block}

-- so many actions may be pending
abbrev pub max_actions : ℕ
max_actions = 63

-- eight bytes of an object, from an offset on, are to become this number's
pub record SetWord : Type 0 where
  pub id : Oid
  pub off : ℕ
  pub value : ℕ

-- a new object that is reserved: where it is to stand, its type, and the bytes that it has so far
pub record Reservation : Type 0 where
  pub off : ℕ
  pub kind : ℕ
  pub bytes : List ℕ

-- what a lane has pending, each kind in the order in which it was asked for
pub record Pending : Type 0 where
  pub sets : List SetWord
  pub frees : List Oid
  pub reserved : List Reservation
  -- something was asked for of an object that was to be freed already
  pub late : Bool

abbrev pub none_pending : Pending
none_pending = record { sets = []; frees = []; reserved = []; late = false }

abbrev pub pending_count : Pending → ℕ
pending_count p = length p.sets + length p.frees + length p.reserved

abbrev pub is_to_be_freed : Pending → ℕ → Bool
is_to_be_freed p off = list_any (λ (id : Oid). id.off == off) p.frees

-- ---- with one more

abbrev pub with_set : SetWord → Pending → Pending
with_set a p = record p { sets = p.sets ++ a ∷ []; late = is_to_be_freed p a.id.off || p.late }

abbrev pub with_free : Oid → Pending → Pending
with_free id p = record p { frees = p.frees ++ id ∷ []; late = is_to_be_freed p id.off || p.late }

-- of zeros
abbrev pub new_reservation : ℕ → ℕ → ℕ → Reservation
new_reservation off kind size = record { off = off; kind = kind; bytes = replicate size 0 }

abbrev pub with_reservation : Reservation → Pending → Pending
with_reservation r p = record p { reserved = p.reserved ++ r ∷ [] }

-- with new bytes in the reservation at an offset
abbrev pub with_put : ℕ → ℕ → List ℕ → Pending → Pending
with_put off at bytes p =
    record p {
      reserved = map (λ (r : Reservation). if r.off == off
          then record r { bytes = put_bytes at bytes r.bytes } else r) p.reserved;
    }

-- ---- what is asked of it

abbrev pub is_reserved : Pending → ℕ → Bool
is_reserved p off = list_any (λ (r : Reservation). r.off == off) p.reserved

-- how many bytes are reserved at an offset
abbrev pub size_reserved : Pending → ℕ → ℕ
size_reserved p off =
    option_map_or (λ (r : Reservation). length r.bytes)
    (find (λ (r : Reservation). r.off == off) p.reserved) 0

abbrev pub block_of : Reservation → Block
block_of r = record { off = r.off; size = length r.bytes }

abbrev pub blocks_reserved : Pending → List Block
blocks_reserved p = map block_of p.reserved

abbrev pub want_to_write : Oid → Want
want_to_write id = record { id = id; write = true }

-- each object that is to be freed or set is locked for writing. A reservation names none
abbrev pub wants_pending : Pending → List Want
wants_pending p = map want_to_write p.frees ++ map (λ (a : SetWord). want_to_write a.id) p.sets

-- a word to be set passes the end of its object
abbrev pub passes_object : Items → SetWord → Bool
passes_object items a = nat_lt (size_of items a.id.off) (a.off + 8)

-- ---- what a publish does to the objects

abbrev pub set_edit : SetWord → Edit
set_edit a = put_into a.id.off a.off (number_bytes a.value)

abbrev pub item_reserved : Reservation → Item
item_reserved r = record { kind = r.kind; bytes = r.bytes; members = []; list = None }

-- objects are freed, and what is reserved comes to be
abbrev pub block_edits : Pending → List Edit
block_edits p =
    map (λ (id : Oid). freed_item id.off) p.frees
    ++ map (λ (r : Reservation). made_item r.off (item_reserved r)) p.reserved

-- words are set
abbrev pub set_edits : List SetWord → List Edit
set_edits sets = map set_edit sets
