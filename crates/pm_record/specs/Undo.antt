-- How an undo record is spelled in its slot of eight words: docs/FORMAT.md, "Undo slots".
use Rattle.std.specs.Prelude.{ℕ, Bool, ◌==◌, List, [], ◌∷◌, ◌++◌, take, drop, slice_index, if◌then◌else◌, Option, Some, None}
use Rattle.pm_words.specs.Sums.{sum64}
use Rattle.pm_record.specs.declared.undo.Undo.{Undo}

-- the seven words that the sum is over
abbrev pub undo_front : Undo → List ℕ
undo_front u = u.generation ∷ u.place ∷ u.count ∷ u.old

-- the slot's words: the front, and its sum
abbrev pub undo_words : Undo → List ℕ
undo_words u = undo_front u ++ sum64 (undo_front u) ∷ []

-- the slot's last word is the sum of the others
abbrev pub is_record : List ℕ → Bool
is_record slot = slice_index slot 7 == sum64 (take 7 slot)

-- the first seven words as they stand
abbrev pub undo_in : List ℕ → Undo
undo_in slot = record { generation = slice_index slot 0; place = slice_index slot 1; count = slice_index slot 2; old = take 4 (drop 3 slot) }

-- the undo record in the slot, if it holds one
abbrev pub undo_of : List ℕ → Option Undo
undo_of slot = if is_record slot then Some (undo_in slot) else None
