-- Lines of a text.
use Rattle.std.specs.Prelude.{ℕ, zero, suc, ◌-◌, ◌==◌, if◌then◌else◌, List, [], ◌∷◌, ◌++◌, codes}

-- the bytes with a line feed after them
abbrev pub with_feed : List ℕ → List ℕ
with_feed bytes = bytes ++ 10 ∷ []

-- the bytes so many times
abbrev pub repeated : ℕ → List ℕ → List ℕ
repeated zero bytes = []
repeated (suc n) bytes = repeated n bytes ++ bytes

-- the first lines of a text, so many, and `..` in place of the others, if there are any
abbrev pub shown : List ℕ → ℕ → List ℕ
shown [] count = []
shown (byte ∷ rest) count =
    if count == 0 then codes "..\n" else byte ∷ shown rest (if byte == 10 then count - 1 else count)
