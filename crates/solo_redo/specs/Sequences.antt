-- The sequences of redo logging: docs/FORMAT.md, "Sequences".
use Rattle.std.specs.Prelude.{ℕ, ◌+◌, ◌*◌, ◌/◌, List, [], ◌∷◌, ◌++◌, length, slice_index_or}
use Rattle.pm_record.specs.Redo.{op_code}
use Rattle.pm_record.specs.declared.redo.Op.{Op}
use Rattle.pm_record.specs.declared.redo.Op.TheVariants.{Set, Or, And}
use Rattle.pm_record.specs.declared.redo.Redo.{Redo}
use Rattle.solo_view.specs.Area.{area_word}
use Rattle.solo_world.specs.Entries.{entry_word}
use Rattle.solo_world.specs.Sequences.{Sequence, in_turn, counted, by_lane, ands, ors, stores, settles}
use Rattle.solo_undo.specs.Sequences.{persists, with_generation}

-- two consecutive words are stored
unfoldable pub stores_two : ℕ → ℕ → ℕ → Sequence
stores_two word first second = in_turn (stores word first) (stores (word + 1) second)

-- an entry's words are stored in the pair of this number
unfoldable pub writes_pair : ℕ → ℕ → Redo → Sequence
writes_pair lane i e = stores_two (entry_word lane i) (e.place + op_code e.op) e.value

unfoldable pub puts : ℕ → Redo → Sequence
puts i e = by_lane (λ lane. writes_pair lane i e)

abbrev pub no_entry : Redo
no_entry = record { place = 0; op = Set; value = 0 }

abbrev pub entry_at : List Redo → ℕ → Redo
entry_at entries i = slice_index_or entries i no_entry

-- the entry that ends this generation of the lane
abbrev pub ending_of : ℕ → ℕ → Redo
ending_of lane generation = record { place = 8 * area_word lane; op = Set; value = generation + 1 }

-- entries are stored in the pairs from the first on, in order
unfoldable pub writes_pairs : ℕ → List Redo → Sequence
writes_pairs lane entries = counted (λ i. writes_pair lane i (entry_at entries i)) (length entries)

-- and that is made persistent
unfoldable pub writes_entries : ℕ → List Redo → Sequence
writes_entries lane entries = in_turn (writes_pairs lane entries) settles

-- these entries are stored, and behind them the one that ends this generation
abbrev pub writes_log : List Redo → ℕ → ℕ → Sequence
writes_log entries lane generation = writes_entries lane (entries ++ ending_of lane generation ∷ [])

-- so it is for the lane's generation, which is looked at first
unfoldable pub logs : List Redo → Sequence
logs entries = with_generation (writes_log entries)

-- the seal becomes this number, and that is made persistent
unfoldable pub writes_seal : ℕ → ℕ → Sequence
writes_seal lane n = in_turn (stores (area_word lane + 1) n) (persists (area_word lane / 8))

-- so many entries are sealed
unfoldable pub seals : ℕ → Sequence
seals n = by_lane (λ lane. writes_seal lane n)

-- an operation takes effect on a word
abbrev pub does : Op → ℕ → ℕ → Sequence
does Set w x = stores w x
does Or w x = ors w x
does And w x = ands w x

-- an entry takes effect on its word
unfoldable pub applies_entry : Redo → Sequence
applies_entry e = does e.op (e.place / 8) e.value

-- the entries are applied, in order
unfoldable pub applies_each : List Redo → Sequence
applies_each entries = counted (λ i. applies_entry (entry_at entries i)) (length entries)

-- and that is made persistent
unfoldable pub applies : List Redo → Sequence
applies entries = in_turn (applies_each entries) settles

-- the seal is cleared
unfoldable pub clears : Sequence
clears = by_lane (λ lane. writes_seal lane 0)

-- the log is sealed, applied and cleared
unfoldable pub performs_on : ℕ → List Redo → Sequence
performs_on lane entries = in_turn (writes_seal lane (length entries)) (in_turn (applies entries) (writes_seal lane 0))

unfoldable pub performs : List Redo → Sequence
performs entries = by_lane (λ lane. performs_on lane entries)
