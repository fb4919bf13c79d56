-- Words in bytes: docs/FORMAT.md, "Words and sums". A list of bytes has numbers below 256, a list of words numbers below 2 ^ 64.
use Rattle.std.specs.Prelude.{ℕ, ◌+◌, ◌*◌, ◌/◌, ◌^◌, ◌<◌, List, [], ◌∷◌, ◌++◌, length, map, take, drop, slice_index, sum_by}
use Rattle.std.specs.List.{flat_map, range_with_len}
use Rattle.byteorder.specs.Endian.{little_bytes}

-- word i of some bytes: of the eight bytes from place 8 i on, byte j counts 256 ^ j times
unfoldable pub word_at : List ℕ → ℕ → ℕ
word_at bytes i = sum_by (λ j. slice_index bytes (8 * i + j) * 256 ^ j) (range_with_len 0 8)

-- the words of some bytes, one for each eight of them
unfoldable pub words_of : List ℕ → List ℕ
words_of bytes = map (word_at bytes) (range_with_len 0 (length bytes / 8))

-- the bytes of some words: the eight of the first, the lowest first, then those of the next
unfoldable pub bytes_of : List ℕ → List ℕ
bytes_of words = flat_map (little_bytes 8) words

-- a word with some of its eight bytes replaced by these, from byte `from` on
unfoldable pub patched : ℕ → List ℕ → ℕ → ℕ
patched from bytes word =
    let old : List ℕ = bytes_of (word ∷ []) in
    word_at (take from old ++ bytes ++ drop (from + length bytes) old) 0

-- each number of the list is a byte
abbrev pub AreBytes : List ℕ → Type 0
AreBytes bytes = (i : ℕ) → slice_index bytes i < 256

-- each number of the list is a word
abbrev pub AreWords : List ℕ → Type 0
AreWords words = (i : ℕ) → slice_index words i < 2 ^ 64
