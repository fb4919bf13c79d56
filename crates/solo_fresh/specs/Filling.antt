-- How a block is made a new object: docs/FORMAT.md, "Sizes" and "Sequences".
use Rattle.std.specs.Prelude.{ℕ, ◌+◌, ◌*◌, ◌==◌, if◌then◌else◌}
use Rattle.solo_view.specs.Steps.Step.{Flush, Drain}
use Rattle.solo_world.specs.Sequences.{Sequence, counted, in_turn, one, stores}

-- a word of a new object's block, counted from the block's first: the object's type, then its size in bytes, then zeros
abbrev pub fresh_word : ℕ → ℕ → ℕ → ℕ
fresh_word kind size place = if place == 0 then kind else if place == 1 then size else 0

abbrev pub stores_fresh : ℕ → ℕ → ℕ → ℕ → Sequence
stores_fresh line kind size place = stores (8 * line + place) (fresh_word kind size place)

-- the eight words of a line of the block that begins at this line
unfoldable pub stores_line : ℕ → ℕ → ℕ → ℕ → Sequence
stores_line line kind size i = counted (λ j. stores_fresh line kind size (8 * i + j)) 8

-- and a flush of it
unfoldable pub fills_line : ℕ → ℕ → ℕ → ℕ → Sequence
fills_line line kind size i = in_turn (stores_line line kind size i) (one (Flush (line + i)))

-- so many lines, rising
unfoldable pub fills_lines : ℕ → ℕ → ℕ → ℕ → Sequence
fills_lines line lines kind size = counted (fills_line line kind size) lines

-- all of them, and then they are drained
unfoldable pub fills : ℕ → ℕ → ℕ → ℕ → Sequence
fills line lines kind size = in_turn (fills_lines line lines kind size) (one Drain)
