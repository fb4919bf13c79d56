-- What the logs of an image say, and the word that recovery gives for a word: docs/FORMAT.md, "Lane areas". Words go by their number, 8 bytes each.
use Rattle.std.specs.Prelude.{ℕ, ◌+◌, ◌-◌, ◌*◌, ◌/◌, ◌%◌, Bool, ◌&&◌, ◌==◌, nat_lt, nat_le, if◌then◌else◌, List, [], ◌∷◌, Option, None, Some, length, map, slice_index, slice_range, filter, find}
use Rattle.std.specs.List.{flat_map, filter_map, range_with_len}
use Rattle.pm_record.specs.Redo.{redo_of, applied}
use Rattle.pm_record.specs.Undo.{undo_of}
use Rattle.pm_record.specs.declared.redo.Redo.{Redo}
use Rattle.pm_record.specs.declared.undo.Undo.{Undo}

-- the word at which a lane's area begins
abbrev pub area_word : ℕ → ℕ
area_word lane = 512 + 1024 * lane

-- the generation as it stands in the lane's area
abbrev pub generation_word : List ℕ → ℕ → ℕ
generation_word image lane = slice_index image (area_word lane)

-- the number of entries that the lane sealed; 0 where it sealed none
abbrev pub seal_word : List ℕ → ℕ → ℕ
seal_word image lane = slice_index image (area_word lane + 1)

-- the lane sealed 1 to 64 entries
abbrev pub is_sealed : List ℕ → ℕ → Bool
is_sealed image lane = nat_le 1 (seal_word image lane) && nat_le (seal_word image lane) 64

-- the pair of words of entry i, 0 to 63
abbrev pub entry_pair : List ℕ → ℕ → ℕ → List ℕ
entry_pair image lane i = slice_index image (area_word lane + 8 + 2 * i) ∷ slice_index image (area_word lane + 9 + 2 * i) ∷ []

-- the line of undo slot i, 0 to 63
abbrev pub slot_line : ℕ → ℕ → ℕ
slot_line lane i = 81 + 128 * lane + i

-- its eight words
abbrev pub undo_slot : List ℕ → ℕ → ℕ → List ℕ
undo_slot image lane i = slice_range image (8 * slot_line lane i) (8 * slot_line lane i + 8)

-- the lane's generation: what its last entry sets where it is sealed, else its generation word
abbrev pub generation : List ℕ → ℕ → ℕ
generation image lane =
    if is_sealed image lane then slice_index image (area_word lane + 7 + 2 * seal_word image lane) else generation_word image lane

-- the entries of a sealed lane, in order; none of another
unfoldable pub entries : List ℕ → ℕ → List Redo
entries image lane = if is_sealed image lane then filter_map (λ i. redo_of (entry_pair image lane i)) (range_with_len 0 (seal_word image lane)) else []

-- the valid undo records of a lane: those of its generation
unfoldable pub records : List ℕ → ℕ → List Undo
records image lane = filter (λ u. u.generation == generation image lane) (filter_map (λ i. undo_of (undo_slot image lane i)) (range_with_len 0 64))

-- the record covers the word at this place: one of its words, four at most, stands there
abbrev pub covers : Undo → ℕ → Bool
covers u place = nat_le u.place place && nat_lt ((place - u.place) / 8) u.count && nat_lt ((place - u.place) / 8) 4 && (place - u.place) % 8 == 0

-- the old word that it has for it
abbrev pub old_word : Undo → ℕ → ℕ
old_word u place = slice_index u.old ((place - u.place) / 8)

-- the entries of all lanes for the word at this place, each lane's in order
unfoldable pub entries_for : List ℕ → ℕ → ℕ → List Redo
entries_for image lanes place = filter (λ e. e.place == place) (flat_map (entries image) (range_with_len 0 lanes))

-- the first valid record of any lane that covers the word at this place
unfoldable pub record_for : List ℕ → ℕ → ℕ → Option Undo
record_for image lanes place = find (λ u. covers u place) (flat_map (records image) (range_with_len 0 lanes))

-- what entries make of a word, one after the other
abbrev pub all_applied : List Redo → ℕ → ℕ
all_applied [] word = word
all_applied (e ∷ es) word = all_applied es (applied e word)

-- what a record restores
abbrev pub restored : Option Undo → ℕ → ℕ → ℕ
restored None place word = word
restored (Some u) place word = old_word u place

-- what recovery makes of a word: its entries applied, where it has some, else what a record restores
abbrev pub recovered_by : List Redo → Option Undo → ℕ → ℕ → ℕ
recovered_by [] record_there place word = restored record_there place word
recovered_by (e ∷ es) record_there place word = all_applied (e ∷ es) word

-- the recovered word i: the image's with the entries of sealed lanes for it applied, where there are any; else the old
-- word of a valid undo record that covers it; else the image's
unfoldable pub recovered : List ℕ → ℕ → ℕ → ℕ
recovered image lanes i = recovered_by (entries_for image lanes (8 * i)) (record_for image lanes (8 * i)) (8 * i) (slice_index image i)

-- the recovered words of an image
unfoldable pub recovered_words : List ℕ → ℕ → List ℕ
recovered_words image lanes = map (recovered image lanes) (range_with_len 0 (length image))

-- the recovered word of a place that is in the image; 0 elsewhere
abbrev pub recovered_at : List ℕ → ℕ → ℕ → ℕ
recovered_at image lanes = slice_index (recovered_words image lanes)
