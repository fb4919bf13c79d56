-- The objects of a plain pool: a map from offsets. An item is an object with the list that it is
-- in.
use Rattle.std.specs.Prelude.{ℕ, ◌+◌, ◌-◌, ◌*◌, ◌/◌, ◌%◌, ◌^◌, ◌==◌, Bool, false, if◌then◌else◌, List, [], ◌∷◌, ◌++◌, length, take, drop, map, find, replicate, Option, None, Some}
use Rattle.std.specs.List.{list_any, range_with_len}
use Rattle.std.specs.Option.{option_map, option_map_or}
use Rattle.pm_objects.specs.Pool.{Objects, object_at}
use Rattle.pm_objects.specs.declared.pool.Object.{Object}
use Rattle.pm_objects.specs.declared.pool.PoolView.{PoolView}

pub record Item : Type 0 where
  pub kind : ℕ
  pub bytes : List ℕ
  -- the offsets of the members of its own list, from the first on
  pub members : List ℕ
  -- the head of the list that it is a member of
  pub list : Option ℕ

-- what stands at each offset
abbrev pub Items : Type 0
Items = ℕ → Option Item

-- a pool: its objects, its root's offset, and what never changes
pub record PlainPool : Type 0 where
  pub id : ℕ
  pub name : List ℕ
  pub lanes : ℕ
  pub zones : ℕ
  pub items : Items
  pub root : Option ℕ

-- ---- from the objects that an image has

-- the number is among these
abbrev pub is_among : List ℕ → ℕ → Bool
is_among numbers n = list_any (λ other. other == n) numbers

-- the head whose list has the object at the offset as a member
abbrev pub head_of : Objects → ℕ → Option ℕ
head_of objects off =
    option_map (λ entry. entry.0) (find (λ entry. is_among entry.1.members off) objects)

abbrev pub item_of : Option ℕ → Object → Item
item_of head object =
    record { kind = object.kind; bytes = object.bytes; members = object.members; list = head }

abbrev pub items_of : Objects → Items
items_of objects off = option_map (item_of (head_of objects off)) (object_at objects off)

abbrev pub plain_pool : PoolView → PlainPool
plain_pool pool =
    record {
      id = pool.id;
      name = pool.name;
      lanes = pool.lanes;
      zones = pool.zones;
      items = items_of pool.objects;
      root = pool.root;
    }

-- ---- what is read of them

abbrev pub bytes_of : Items → ℕ → List ℕ
bytes_of items off = option_map_or (λ (i : Item). i.bytes) (items off) []

abbrev pub size_of : Items → ℕ → ℕ
size_of items off = length (bytes_of items off)

abbrev pub members_of : Items → ℕ → List ℕ
members_of items off = option_map_or (λ (i : Item). i.members) (items off) []

abbrev pub list_of : Items → ℕ → Option ℕ
list_of items off = option_map_or (λ (i : Item). i.list) (items off) None

abbrev pub kind_of : Items → ℕ → ℕ
kind_of items off = option_map_or (λ (i : Item). i.kind) (items off) 0

-- the object at the offset is the root
abbrev pub is_root : Option ℕ → ℕ → Bool
is_root root off = option_map_or (λ r. r == off) root false

-- ---- bytes and numbers

-- so many bytes from a place on
abbrev pub bytes_at : ℕ → ℕ → List ℕ → List ℕ
bytes_at at len bytes = take len (drop at bytes)

-- as many bytes as before, with new ones from a place on
abbrev pub put_bytes : ℕ → List ℕ → List ℕ → List ℕ
put_bytes at new bytes = take (length bytes) (take at bytes ++ new ++ drop (at + length new) bytes)

-- the eight bytes of a number, the lowest first, and back
abbrev pub number_bytes : ℕ → List ℕ
number_bytes value = map (λ j. value / 256 ^ j % 256) (range_with_len 0 8)

abbrev pub number_of : List ℕ → ℕ
number_of [] = 0
number_of (b ∷ bytes) = b + 256 * number_of bytes

-- the number of eight bytes at a place
abbrev pub number_at : ℕ → List ℕ → ℕ
number_at at bytes = number_of (bytes_at at 8 bytes)

-- ---- changes of items

-- what becomes of the item at an offset
pub record Edit : Type 0 where
  pub off : ℕ
  pub change : Option Item → Option Item

abbrev pub edited : Edit → Items → Items
edited e items off = if e.off == off then e.change (items off) else items off

-- one change after another
unfoldable pub all_edited : List Edit → Items → Items
all_edited [] items = items
all_edited (e ∷ edits) items = all_edited edits (edited e items)

-- an item comes to be, or is gone
abbrev pub made_item : ℕ → Item → Edit
made_item off item = record { off = off; change = λ old. Some item }

abbrev pub freed_item : ℕ → Edit
freed_item off = record { off = off; change = λ old. None }

-- bytes are put into it
abbrev pub put_into : ℕ → ℕ → List ℕ → Edit
put_into off at new = record {
  off = off;
  change = option_map (λ (i : Item). record i { bytes = put_bytes at new i.bytes });
}

-- its list has these members, or it is a member of this head's list
abbrev pub with_members : ℕ → List ℕ → Edit
with_members off members =
    record { off = off; change = option_map (λ (i : Item). record i { members = members }) }

abbrev pub in_list : ℕ → Option ℕ → Edit
in_list off head =
    record { off = off; change = option_map (λ (i : Item). record i { list = head }) }

-- a new object: of zeros, without members
abbrev pub new_item : ℕ → ℕ → Option ℕ → Item
new_item kind size head =
    record { kind = kind; bytes = replicate size 0; members = []; list = head }

-- a copy of some bytes in another size: cut off, or with zeros at the end
abbrev pub resized_item : ℕ → ℕ → List ℕ → Item
resized_item kind size bytes =
    record {
      kind = kind;
      bytes = take size bytes ++ replicate (size - length bytes) 0;
      members = [];
      list = None;
    }
