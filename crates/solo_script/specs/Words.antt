-- The lines and words of a script: docs/COMMANDS.md, "Scripts".
use Rattle.std.specs.Prelude.{ℕ, nat_le, ◌&&◌, ◌==◌, Bool, not, List, [], ◌∷◌, map, length, slice_index, true}
use Rattle.std.specs.Borrow.{Bor}
use Rattle.std.specs.List.{filter, list_all, slice_split}

-- the lines of a text: what its line feeds part
abbrev pub lines : List ℕ → List (List ℕ)
lines text = slice_split (λ b. b == 10) text

-- the words of a line: what its spaces part, without the empty parts between two spaces and at the ends
abbrev pub words : List ℕ → List (List ℕ)
words line = filter (λ word. not (length word == 0)) (slice_split (λ b. b == 32) line)

-- bytes of 0x20 to 0x7E
abbrev pub is_text : List ℕ → Bool
is_text line = list_all (λ b. nat_le 0x20 b && nat_le b 0x7e) line

-- a line of these words says nothing: there are none, or the first begins with '#'
abbrev pub is_skipped : List (List ℕ) → Bool
is_skipped [] = true
is_skipped (word ∷ words) = slice_index word 0 == 35

-- lines or words in memory, as lists of bytes
abbrev pub texts : List (Bor (List ℕ)) → List (List ℕ)
texts parts = map (λ part. part.now) parts
