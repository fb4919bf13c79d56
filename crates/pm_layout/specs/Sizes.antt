-- What an object of so many bytes takes, and where the blocks of a run stand.
-- A line has 64 bytes, a chunk 64 lines.
use Rattle.std.specs.Prelude.{ℕ, ◌+◌, ◌-◌, ◌*◌, List, [], ◌∷◌, find, nat_le, ◌==◌, ⊤}
use Rattle.std.specs.Int.{div_ceil}
use Rattle.std.specs.Option.{option_map_or}
use Rattle.pm_layout.specs.declared.class.Class.{Class}
use Rattle.pm_layout.specs.declared.class.Class.TheVariants.{Lines, Chunks}

-- the lines that an object of this size needs: one for its header, and those of its bytes
abbrev pub lines_for : ℕ → ℕ
lines_for size = 1 + div_ceil size 64

-- the lines of a block, for each class of runs
abbrev pub classes : List ℕ
classes = 2 ∷ 3 ∷ 4 ∷ 5 ∷ 7 ∷ 9 ∷ 15 ∷ 31 ∷ []

-- each class, with the number of blocks in a run of it
abbrev pub blocks_by_class : List (ℕ × ℕ)
blocks_by_class = (2, 31) ∷ (3, 21) ∷ (4, 15) ∷ (5, 12) ∷ (7, 9) ∷ (9, 7) ∷ (15, 4) ∷ (31, 2) ∷ []

-- the number of blocks in a run of this class, or 0 for what is no class
abbrev pub blocks_of : ℕ → ℕ
blocks_of lines = option_map_or (λ entry. entry.1) (find (λ entry. entry.0 == lines) blocks_by_class) 0

-- the first class that holds an object of this size, or else whole chunks
abbrev pub class_of : ℕ → Class
class_of size =
    option_map_or Lines
    (find (λ lines. nat_le (lines_for size) lines) classes)
    (Chunks (div_ceil (lines_for size) 64))

-- the fact for a class of runs
abbrev pub IfLines : Class → (ℕ → Type 0) → Type 0
IfLines (Lines lines) P = P lines
IfLines (Chunks chunks) P = ⊤

-- the fact for whole chunks
abbrev pub IfChunks : Class → (ℕ → Type 0) → Type 0
IfChunks (Lines lines) P = ⊤
IfChunks (Chunks chunks) P = P chunks

-- the bytes that a block of this class has for an object: all but one line
abbrev pub room_in : Class → ℕ
room_in (Lines lines) = (lines - 1) * 64
room_in (Chunks chunks) = chunks * 4096 - 64

-- the bytes that fit into what an object of this size takes
abbrev pub usable : ℕ → ℕ
usable size = room_in (class_of size)

-- where a block of a run begins: behind the bitmap's line and the blocks before it
abbrev pub block_place : ℕ → ℕ → ℕ → ℕ
block_place chunk lines index = chunk + 64 * (1 + lines * index)

-- the descriptor of a chunk that is a run of this class, or the first of so many chunks that are one block
abbrev pub descriptor_of : Class → ℕ
descriptor_of (Lines lines) = 1 + 256 * lines
descriptor_of (Chunks chunks) = 2 + 256 * chunks
