-- THE PLANS OF REDO LOGGING: docs/FORMAT.md, "Sequences".
use Rattle.std.specs.Prelude.{ℕ, ◌/◌, List, length}
use Rattle.pm_layout.specs.declared.shape.Shape.{Shape}
use Rattle.pm_layout.specs.Areas.{word_of_entry, word_of_seal}
use Rattle.pm_record.specs.Redo.{redo_words}
use Rattle.pm_record.specs.declared.redo.Op.{Op}
use Rattle.pm_record.specs.declared.redo.Op.TheVariants.{Set, Or, And}
use Rattle.pm_record.specs.declared.redo.Redo.{Redo}
use Rattle.pm_plan.specs.Plans.{Plan, ands, in_turn, ors, persists, persists_all, repeated, stores, stores_from}
use Rattle.pm_redo.specs.Entries.{ending, entry_at, listed_entries}

-- an entry's two words are stored in the pair of this number
unfoldable pub writes_pair : Shape → ℕ → ℕ → Redo → Plan
writes_pair sh lane i e = stores_from (word_of_entry sh lane i) (redo_words e)

-- entries are stored in the pairs from the first on
unfoldable pub writes_pairs : Shape → ℕ → List Redo → Plan
writes_pairs sh lane entries =
    repeated (λ i. writes_pair sh lane i (entry_at entries i)) (length entries)

-- the last entry is stored after them, and all is made persistent
unfoldable pub ends_entries : Shape → ℕ → ℕ → Redo → Plan
ends_entries sh lane i e = in_turn (writes_pair sh lane i e) persists_all

unfoldable pub writes_entries : Shape → ℕ → List Redo → Redo → Plan
writes_entries sh lane entries e =
    in_turn (writes_pairs sh lane entries) (ends_entries sh lane (length entries) e)

-- these entries are stored, and after them the one that ends the lane's generation; and all is
-- made persistent
unfoldable pub writes_log : List Redo → Plan
writes_log entries v = writes_entries v.fixed.shape v.fixed.lane entries
    (ending v.fixed.shape v.fixed.lane v.log.generation) v

-- a seal is stored and made persistent
unfoldable pub writes_seal : ℕ → ℕ → Plan
writes_seal word n = in_turn (stores word n) (persists (word / 8))

-- the seal becomes the number of the log's entries; and 0
unfoldable pub seals : Plan
seals v = writes_seal (word_of_seal v.fixed.shape v.fixed.lane) (length v.log.entries) v

unfoldable pub clears : Plan
clears v = writes_seal (word_of_seal v.fixed.shape v.fixed.lane) 0 v

-- an operation on a word: for what an OR or an AND finds in it
abbrev pub does : Op → ℕ → ℕ → ℕ → Plan
does Set w x found = stores w x
does Or w x found = ors w x found
does And w x found = ands w x found

unfoldable pub applies_entry : Redo → ℕ → Plan
applies_entry e found = does e.op (e.place / 8) e.value found

-- entries are applied in order, that of number i where found i is found
unfoldable pub applies_each : List Redo → (ℕ → ℕ) → Plan
applies_each entries found =
    repeated (λ i. applies_entry (entry_at entries i) (found i)) (length entries)

-- and all is made persistent
unfoldable pub applies_all : List Redo → (ℕ → ℕ) → Plan
applies_all entries found = in_turn (applies_each entries found) persists_all

-- the log's entries are applied
unfoldable pub applies : (ℕ → ℕ) → Plan
applies found v = applies_all (listed_entries v) found v

-- it is sealed, its entries are applied, and its seal is cleared
unfoldable pub performs : (ℕ → ℕ) → Plan
performs found = in_turn seals (in_turn (applies found) clears)
