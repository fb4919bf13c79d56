-- What a pool is: docs/MODEL.md, "A pool" (libpmemobj(7)).
use Rattle.std.specs.Prelude.{◌≡◌, ℕ, ◌+◌, ◌-◌, ◌*◌, ◌<◌, ◌≤◌, ◌==◌, List, length, map, Option, IsSome, IfSome, All, slice_index_or, nat_eq}
use Rattle.std.specs.List.{flat_map, IsDistinct}
use Rattle.std.specs.List.Sorted.{IsStrictlyIncreasing}
use Rattle.std.specs.Map.{lookup}
use Rattle.pm_layout.specs.declared.class.Class.{Class}
use Rattle.pm_layout.specs.declared.class.Class.TheVariants.{Lines, Chunks}
use Rattle.pm_layout.specs.Layout.{IsShape}
use Rattle.pm_layout.specs.Sizes.{class_of}
use Rattle.pm_objects.specs.declared.pool.Object.{Object}
use Rattle.pm_objects.specs.declared.pool.PoolView.{PoolView}

-- objects with their offsets, in rising offsets: a finite map
abbrev pub Objects : Type 0
Objects = List (ℕ × Object)

-- the offsets of the objects, in rising order
abbrev pub offsets : Objects → List ℕ
offsets objects = map (λ entry. entry.0) objects

-- the object at an offset, or none
abbrev pub object_at : Objects → ℕ → Option Object
object_at objects off = lookup (λ key. key == off) objects

-- the lines of the block that an object of this size has
abbrev pub block_lines : Class → ℕ
block_lines (Lines lines) = lines
block_lines (Chunks chunks) = 64 * chunks

-- where an object's block ends: it begins 64 bytes before the object's offset
abbrev pub block_end : ℕ × Object → ℕ
block_end entry = entry.0 - 64 + 64 * block_lines (class_of (length entry.1.bytes))

-- every member of a list
abbrev pub all_members : Objects → List ℕ
all_members objects = flat_map (λ entry. entry.1.members) objects

-- a byte of a layout name
abbrev pub IsNameByte : ℕ → Type 0
IsNameByte b = (0x21 ≤ b) × (b ≤ 0x7e)

-- what a pool is
pub record IsPool (pool : PoolView) : Type 0 where
  pub has_id : 1 ≤ pool.id
  pub name_some : 1 ≤ length pool.name
  pub name_short : length pool.name ≤ 63
  pub name_bytes : All IsNameByte pool.name
  pub shape : IsShape pool.lanes pool.zones
  -- the objects are a finite map, each of 1 to 262,080 bytes
  pub rising : IsStrictlyIncreasing (offsets pool.objects)
  pub sizes : All (λ entry. (1 ≤ length entry.1.bytes) × (length entry.1.bytes ≤ 262080)) pool.objects
  -- no two blocks overlap: each ends before the next begins
  pub apart : (k : ℕ) (d : ℕ × Object) → k + 1 < length pool.objects → block_end (slice_index_or pool.objects k d) ≤ (slice_index_or pool.objects (k + 1) d).0 - 64
  -- a member of a list is an object, and of one list alone, once
  pub members_there : All (λ off. IsSome (object_at pool.objects off)) (all_members pool.objects)
  pub members_once : IsDistinct nat_eq (all_members pool.objects)
  pub root_there : IfSome pool.root (λ off. IsSome (object_at pool.objects off))
