-- What descriptors and bitmaps name: blocks (docs/FORMAT.md, "Shapes and places"). `w` gives recovered words by their number; the chunks of all zones are counted in one row from 0.
use Rattle.std.specs.Prelude.{ℕ, ◌+◌, ◌*◌, ◌/◌, ◌%◌, ◌^◌, ◌<◌, ◌==◌, ◌&&◌, nat_lt, nat_le, if◌then◌else◌, List, [], ◌∷◌, map, filter, Option, None, Some}
use Rattle.std.specs.Int.{bit_at}
use Rattle.std.specs.List.{flat_map, range_with_len}
use Rattle.pm_layout.specs.Sizes.{blocks_of, block_place}
use Rattle.pm_layout.specs.declared.class.Class.{Class}
use Rattle.pm_layout.specs.declared.class.Class.TheVariants.{Lines, Chunks}
use Rattle.pm_image.specs.declared.block.Block.{Block}

-- a block as a pool has it: its place is far from the end of numbers
abbrev pub IsAddressable : Block → Type 0
IsAddressable block = block.place < 2 ^ 63

-- the words of a pool of this shape
abbrev pub pool_words : ℕ → ℕ → ℕ
pool_words lanes zones = 512 + 1024 * lanes + 33280 * zones

-- the word that describes a chunk: chunk c is the one with the number c % 64 in zone c / 64
abbrev pub descriptor_word : ℕ → ℕ → ℕ
descriptor_word lanes c = 512 + 1024 * lanes + 33280 * (c / 64) + c % 64

-- the first word of a chunk, which is the bitmap of a run
abbrev pub chunk_word : ℕ → ℕ → ℕ
chunk_word lanes c = 1024 + 1024 * lanes + 33280 * (c / 64) + 512 * (c % 64)

-- what a descriptor makes of its chunk: a run of some class, the first of so many chunks that are one block, or nothing
unfoldable pub class_in : ℕ → Option Class
class_in d =
    if d % 256 == 1 && nat_lt 0 (blocks_of (d / 256)) then Some (Lines (d / 256))
    else if d % 256 == 2 && (nat_le 1 (d / 256) && nat_le (d / 256) 64) then Some (Chunks (d / 256))
    else None

-- the blocks of a run that its bitmap has: the run's place in bytes, the bitmap, the lines of a block
unfoldable pub run_blocks : ℕ → ℕ → ℕ → List Block
run_blocks place bitmap lines = map (λ i. record { place = block_place place lines i; lines = lines }) (filter (λ i. bit_at bitmap i == 1) (range_with_len 0 (blocks_of lines)))

-- the blocks in a chunk at this place, by what it is
abbrev pub blocks_in : Option Class → ℕ → ℕ → List Block
blocks_in None place bitmap = []
blocks_in (Some (Lines lines)) place bitmap = run_blocks place bitmap lines
blocks_in (Some (Chunks chunks)) place bitmap = record { place = place; lines = 64 * chunks } ∷ []

-- the blocks of chunk c, by its descriptor and its first word
unfoldable pub chunk_blocks : (ℕ → ℕ) → ℕ → ℕ → List Block
chunk_blocks w lanes c = blocks_in (class_in (w (descriptor_word lanes c))) (8 * chunk_word lanes c) (w (chunk_word lanes c))

-- all blocks of a pool, in rising place
unfoldable pub blocks : (ℕ → ℕ) → ℕ → ℕ → List Block
blocks w lanes zones = flat_map (chunk_blocks w lanes) (range_with_len 0 (64 * zones))
