-- The blocks of objects, by the lines of the pool that they take.
use Rattle.std.specs.Prelude.{◌≡◌, ℕ, ◌+◌, ◌-◌, ◌/◌, ◌&&◌, nat_lt, nat_le, Bool, true, false, List, [], ◌∷◌, length, Option}
use Rattle.std.specs.List.{list_any}
use Rattle.std.specs.Option.{option_map_or}
use Rattle.pm_layout.specs.Sizes.{class_of}
use Rattle.pm_objects.specs.Pool.{block_lines}
use Rattle.pm_model.specs.Items.{Item, Items, PlainPool}
use Rattle.pm_model.specs.Places.{CanHold}

-- the block of an object: it begins one line before the object's offset, and its size says how
-- many lines it has
pub record Block : Type 0 where
  pub off : ℕ
  pub size : ℕ

abbrev pub first_line : Block → ℕ
first_line b = b.off / 64 - 1

-- line l of the pool, its bytes from 64 * l on, is one of the block's
abbrev pub covers : Block → ℕ → Bool
covers b l = nat_le (first_line b) l && nat_lt l (first_line b + block_lines (class_of b.size))

-- it is one of the block of what stands at the offset, if anything does
abbrev pub item_covers : ℕ → Option Item → ℕ → Bool
item_covers off item l =
    option_map_or (λ (i : Item). covers (record { off = off; size = length i.bytes }) l) item false

abbrev pub are_covered : List Block → ℕ → Bool
are_covered blocks l = list_any (λ (b : Block). covers b l) blocks

-- the block of what stands at an offset, none where nothing does
abbrev pub blocks_at : Items → ℕ → List Block
blocks_at items off =
    option_map_or (λ (i : Item). record { off = off; size = length i.bytes } ∷ []) (items off) []

-- no line of the block is one of an object's, nor of these blocks
pub record IsFree (items : Items) (taken : List Block) (b : Block) : Type 0 where
  pub objects : (l off : ℕ) → covers b l ≡ true → item_covers off (items off) l ≡ false
  pub others : (l : ℕ) → covers b l ≡ true → are_covered taken l ≡ false

-- a block of the class of its size can begin where it does, in this pool
abbrev pub CanBeIn : PlainPool → Block → Type 0
CanBeIn pool b = CanHold pool.lanes pool.zones (class_of b.size) b.off

-- a new object's block: a block of its class can begin there, and it is free
pub record IsNewBlock (pool : PlainPool) (taken : List Block) (b : Block) : Type 0 where
  pub place : CanBeIn pool b
  pub free : IsFree pool.items taken b

-- blocks that are reserved may be taken, one after another
abbrev pub AreAllFree : Items → List Block → List Block → Type 0
AreAllFree items taken [] = Unit {0}
AreAllFree items taken (b ∷ blocks) = IsFree items taken b × AreAllFree items (b ∷ taken) blocks
