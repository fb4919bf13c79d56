-- What can be wrong with the heap of an image, row by row, each told of the least chunk or block: docs/FORMAT.md, "Faults". `w` gives recovered words by their number.
use Rattle.std.specs.Prelude.{ℕ, ◌+◌, ◌-◌, ◌*◌, ◌/◌, ◌%◌, ◌^◌, Bool, true, false, not, ◌==◌, ◌&&◌, nat_le, if◌then◌else◌, List, find, Option, None, Some}
use Rattle.std.specs.Option.{option_map, option_or}
use Rattle.std.specs.List.{range_with_len, list_all, list_any}
use Rattle.pm_layout.specs.Sizes.{blocks_of, class_of}
use Rattle.pm_layout.specs.declared.class.Class.{Class}
use Rattle.pm_layout.specs.declared.class.Class.TheVariants.{Lines, Chunks}
use Rattle.pm_objects.specs.Pool.{block_lines}
use Rattle.pm_image.specs.declared.block.Block.{Block}
use Rattle.pm_image.specs.declared.fault.ImageFault.{ImageFault}
use Rattle.pm_image.specs.declared.fault.ImageFault.TheVariants as fault
use Rattle.pm_image.specs.Blocks.{descriptor_word, chunk_word, class_in, blocks}
use Rattle.pm_image.specs.Contents.{header_word, size_in, offset_in}
use Rattle.pm_image.specs.Narrowings.{takes_links}

-- the descriptors behind this one, up to so many chunks with its own, are 0
unfoldable pub zeros_behind : (ℕ → ℕ) → ℕ → ℕ → Bool
zeros_behind w at chunks = list_all (λ k. w (at + 1 + k) == 0) (range_with_len 0 (chunks - 1))

-- a descriptor is in the table: 0, a run's, or that of the first of some chunks of the zone with 0 in the descriptors of the further ones
abbrev pub is_described : (ℕ → ℕ) → ℕ → ℕ → Option Class → Bool
is_described w at c None = w at == 0
is_described w at c (Some (Lines lines)) = true
is_described w at c (Some (Chunks chunks)) = if nat_le (c % 64 + chunks) 64 then zeros_behind w at chunks else false

-- the descriptor of chunk c is outside the table
unfoldable pub bad_chunk : (ℕ → ℕ) → ℕ → ℕ → Bool
bad_chunk w lanes c = let at : ℕ = descriptor_word lanes c in not (is_described w at c (class_in (w at)))

-- Chunk: a descriptor outside the table
unfoldable pub chunk_fault : (ℕ → ℕ) → ℕ → ℕ → Option ImageFault
chunk_fault w lanes zones = option_map (λ c. fault.Chunk (c / 64) (c % 64)) (find (bad_chunk w lanes) (range_with_len 0 (64 * zones)))

-- the bitmap of a run of this class has a bit past its blocks
abbrev pub is_bad_bitmap : Option Class → ℕ → Bool
is_bad_bitmap None bitmap = false
is_bad_bitmap (Some (Lines lines)) bitmap = nat_le (2 ^ blocks_of lines) bitmap
is_bad_bitmap (Some (Chunks chunks)) bitmap = false

-- chunk c is a run whose bitmap has a bit past its blocks
unfoldable pub bad_bitmap : (ℕ → ℕ) → ℕ → ℕ → Bool
bad_bitmap w lanes c = is_bad_bitmap (class_in (w (descriptor_word lanes c))) (w (chunk_word lanes c))

-- Bitmap: a bit past the run's blocks
unfoldable pub bitmap_fault : (ℕ → ℕ) → ℕ → ℕ → Option ImageFault
bitmap_fault w lanes zones = option_map (λ c. fault.Bitmap (c / 64) (c % 64)) (find (bad_bitmap w lanes) (range_with_len 0 (64 * zones)))

-- an object of 1 to 262,080 bytes may stand in this block, and the last two words of its header line are 0
unfoldable pub good_block : (ℕ → ℕ) → Block → Bool
good_block w block =
    nat_le 1 (size_in w block) && nat_le (size_in w block) 262080 && block_lines (class_of (size_in w block)) == block.lines
    && header_word w block 6 == 0 && header_word w block 7 == 0

-- Block: another size than the block's
unfoldable pub block_fault : (ℕ → ℕ) → List Block → Option ImageFault
block_fault w bs = option_map (λ block. fault.Block (offset_in block)) (find (λ block. not (good_block w block)) bs)

-- Link: links that do not lead where they should
unfoldable pub link_fault : (ℕ → ℕ) → List Block → Option ImageFault
link_fault w bs = option_map (λ block. fault.Link (offset_in block)) (find (λ block. not (takes_links w block)) bs)

-- the root word is not 0, and no object is there
unfoldable pub bad_root : (ℕ → ℕ) → List Block → Bool
bad_root w bs = if w 64 == 0 then false else not (list_any (λ block. offset_in block == w 64) bs)

-- Root: no object at the root's offset
unfoldable pub root_fault : (ℕ → ℕ) → List Block → Option ImageFault
root_fault w bs = if bad_root w bs then Some (fault.Root (w 64)) else None

-- the first fault of the heap, row by row
unfoldable pub heap_fault : (ℕ → ℕ) → ℕ → ℕ → Option ImageFault
heap_fault w lanes zones =
    let bs : List Block = blocks w lanes zones in
    option_or (chunk_fault w lanes zones) (option_or (bitmap_fault w lanes zones) (option_or (block_fault w bs) (option_or (link_fault w bs) (root_fault w bs))))
