-- Texts that are put into a sink line by line.
use Rattle.std.specs.Prelude.{◌≡◌, ◌⊎◌, ℕ, ◌-◌, List, take, slice_index, Option}
use Rattle.pm_shelf.specs.Outside.{gained}

-- a line begins here: at the text's start, or behind a line feed
abbrev pub IsLineStart : List ℕ → ℕ → Type 0
IsLineStart text at = (at ≡ 0) ⊎ (slice_index text (at - 1) ≡ 10)

-- whole lines from the text's start on were put
abbrev pub GainedLines : Option (List ℕ) → Option (List ℕ) → List ℕ → Type 0
GainedLines old new text = (n : ℕ) × IsLineStart text n × (new ≡ gained old (take n text))
