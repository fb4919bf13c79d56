-- Layout names: docs/FORMAT.md, "Header page".
use Rattle.std.specs.Prelude.{◌≡◌, ℕ, ◌-◌, ◌≤◌, List, ◌++◌, length, take, replicate}
use Rattle.std.specs.List.{All}

-- a byte that a name may have: a printing character of ASCII that is no blank
abbrev pub IsNameByte : ℕ → Type 0
IsNameByte b = (0x21 ≤ b) × (b ≤ 0x7e)

-- a layout name
pub record IsName (name : List ℕ) : Type 0 where
  pub some : 1 ≤ length name
  pub short : length name ≤ 63
  pub bytes : All IsNameByte name

-- a name's line: the name, and zeros to its end
abbrev pub name_bytes : List ℕ → List ℕ
name_bytes name = name ++ replicate (64 - length name) 0

-- the first bytes of a line are a name, and the others are zeros
pub record IsNameIn (line : List ℕ) (len : ℕ) : Type 0 where
  pub name : IsName (take len line)
  pub fits : len ≤ 63
  pub zeros : line ≡ name_bytes (take len line)
