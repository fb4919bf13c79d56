-- Where the parts of a lane's log stand, by the pool's shape, and how much room a log has. Words and lines go by their numbers: a word has 8
-- bytes, a line 8 words. A second version of the layout changes these functions and nothing that takes them.
use Rattle.std.specs.Prelude.{ℕ, ◌+◌, ◌*◌, ◌^◌}
use Rattle.pm_layout.specs.declared.shape.Shape.{Shape}

-- the words and the bytes of a page: the header, a zone's descriptors and each chunk have one
abbrev pub page_words : ℕ
page_words = 512

abbrev pub page_bytes : ℕ
page_bytes = 4096

-- the greatest generation; a lane that has it writes no more
abbrev pub greatest_generation : Shape → ℕ
greatest_generation shape = 2 ^ 62

-- the undo slots of a lane
abbrev pub undo_slots : Shape → ℕ
undo_slots shape = 64

-- the words of an undo slot
abbrev pub slot_words : Shape → ℕ
slot_words shape = 8

-- the old words that an undo record has room for
abbrev pub old_words : Shape → ℕ
old_words shape = 4

-- the redo entries that a lane has room for, the generation's among them
abbrev pub redo_entries : Shape → ℕ
redo_entries shape = 64

-- the word that has a lane's generation
abbrev pub word_of_generation : Shape → ℕ → ℕ
word_of_generation shape lane = 512 + 1024 * lane

-- the word that has a lane's seal: 0, or the number of its sealed entries
abbrev pub word_of_seal : Shape → ℕ → ℕ
word_of_seal shape lane = 513 + 1024 * lane

-- the first word of a lane's redo entry: it has the place and the operation, the next word the value
abbrev pub word_of_entry : Shape → ℕ → ℕ → ℕ
word_of_entry shape lane entry = 520 + 1024 * lane + 2 * entry

-- the line of a lane's undo slot
abbrev pub line_of_slot : Shape → ℕ → ℕ → ℕ
line_of_slot shape lane slot = 81 + 128 * lane + slot
