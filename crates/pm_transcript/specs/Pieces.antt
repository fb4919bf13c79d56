-- Pieces of a file.
use Rattle.std.specs.Prelude.{ℕ, ◌+◌, List, ◌++◌, drop, length, take}

-- the bytes from a place on, so many
abbrev pub piece : List ℕ → ℕ → ℕ → List ℕ
piece file at count = take count (drop at file)

-- the file with these bytes from a place on
abbrev pub overwritten : List ℕ → ℕ → List ℕ → List ℕ
overwritten file at bytes = take at file ++ bytes ++ drop (at + length bytes) file
