-- What stands in a block: an object (docs/FORMAT.md, "Sizes"). `w` gives recovered words by their number.
use Rattle.std.specs.Prelude.{ℕ, zero, suc, ◌+◌, ◌-◌, ◌/◌, ◌==◌, if◌then◌else◌, List, [], ◌∷◌, length, map, take}
use Rattle.std.specs.Int.{div_ceil}
use Rattle.std.specs.List.{range_with_len}
use Rattle.pm_words.specs.Words.{bytes_of}
use Rattle.pm_objects.specs.Pool.{Objects}
use Rattle.pm_objects.specs.declared.pool.Object.{Object}
use Rattle.pm_image.specs.declared.block.Block.{Block}

-- word k of a block's header line
abbrev pub header_word : (ℕ → ℕ) → Block → ℕ → ℕ
header_word w block k = w (block.place / 8 + k)

-- the type number of the object in a block
abbrev pub kind_in : (ℕ → ℕ) → Block → ℕ
kind_in w block = header_word w block 0

-- the size in bytes of the object in a block
abbrev pub size_in : (ℕ → ℕ) → Block → ℕ
size_in w block = header_word w block 1

-- the first member of the object's own list, 0 for none
abbrev pub first_in : (ℕ → ℕ) → Block → ℕ
first_in w block = header_word w block 5

-- the words that hold so many bytes
abbrev pub data_words : ℕ → ℕ
data_words size = div_ceil size 8

-- the object's bytes: of the words behind its header line
unfoldable pub bytes_in : (ℕ → ℕ) → Block → List ℕ
bytes_in w block = take (size_in w block) (bytes_of (map w (range_with_len (block.place / 8 + 8) (data_words (size_in w block)))))

-- the offsets that lead from one on by the next words, at most so many
unfoldable pub walk : (ℕ → ℕ) → ℕ → ℕ → List ℕ
walk w zero off = []
walk w (suc n) off = if off == 0 then [] else off ∷ walk w n (w (off / 8 - 6))

-- the object in a block of a pool that has so many
abbrev pub object_in : (ℕ → ℕ) → ℕ → Block → Object
object_in w count block = record { kind = kind_in w block; bytes = bytes_in w block; members = walk w count (first_in w block) }

-- the offset of the object in a block
abbrev pub offset_in : Block → ℕ
offset_in block = block.place + 64

-- the objects in these blocks, with their offsets
unfoldable pub objects_in : (ℕ → ℕ) → List Block → Objects
objects_in w bs = map (λ block. (offset_in block, object_in w (length bs) block)) bs
