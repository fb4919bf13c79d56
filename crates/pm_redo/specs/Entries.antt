-- Redo entries: as a lane lists them, and as its log has them.
use Rattle.std.specs.Prelude.{ℕ, ◌+◌, ◌*◌, ◌/◌, ◌==◌, cond, List, [], ◌∷◌, map, slice_index_or, Option, None, Some}
use Rattle.pm_layout.specs.declared.shape.Shape.{Shape}
use Rattle.pm_record.specs.Redo.{outcome}
use Rattle.pm_record.specs.declared.redo.Op.TheVariants.{Set}
use Rattle.pm_record.specs.declared.redo.Redo.{Redo}
use Rattle.pm_view.specs.Entries.{Entry, first_of_two}
use Rattle.pm_view.specs.View.{View}
use Rattle.pm_world.specs.Lawful.{place_in}
use Rattle.pm_world.specs.Logs.{ends_with}

-- an entry of the lane's list as its log has it, and one of its log as its list has it
abbrev pub logged_entry : View → Redo → Entry
logged_entry v e =
    record { word = e.place / 8; place = place_in v (e.place / 8); op = e.op; value = e.value }

abbrev pub listed_entry : Entry → Redo
listed_entry e = record { place = 8 * e.word; op = e.op; value = e.value }

-- the log's entries, as the lane lists them
abbrev pub listed_entries : View → List Redo
listed_entries v = map listed_entry v.log.entries

-- the entry that ends a generation of a lane
abbrev pub ending : Shape → ℕ → ℕ → Redo
ending sh lane generation = listed_entry (ends_with sh lane generation)

abbrev pub no_entry : Redo
no_entry = record { place = 0; op = Set; value = 0 }

abbrev pub entry_at : List Redo → ℕ → Redo
entry_at entries i = slice_index_or entries i no_entry

-- what the last of some entries that is of this word makes of it, where these values are found
abbrev pub last_made : (ℕ → ℕ) → List Entry → ℕ → Option ℕ
last_made found [] w = None
last_made found (e ∷ t) w = first_of_two (last_made (λ i. found (i + 1)) t w)
    (cond (e.word == w) (Some (outcome e.op e.value (found 0))) None)
