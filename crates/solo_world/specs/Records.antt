-- A lane's undo records as its view has them: which words they are of, and how they stand in their slots.
use Rattle.std.specs.Prelude.{◌≡◌, ℕ, ◌+◌, ◌-◌, ◌*◌, ◌<◌, ◌==◌, Bool, false, not, ◌&&◌, ◌||◌, nat_le, nat_lt, if◌then◌else◌, List, [], ◌∷◌, ◌++◌, length, map, replicate, slice_get, slice_index, Some, flat_map}
use Rattle.std.specs.List.{filter, list_any, range_with_len}
use Rattle.pm_record.specs.Undo.{undo_words}
use Rattle.solo_view.specs.Area.{area_word, is_in_area}
use Rattle.solo_view.specs.Bits.{all_bits}
use Rattle.solo_view.specs.Changes.{is_in_line}
use Rattle.solo_view.specs.Log.{Phase, Recorded, Final}
use Rattle.solo_view.specs.Log.Phase.{Open, Applying, Retiring}
use Rattle.solo_view.specs.View.{View}
use Rattle.pm_image.specs.Logs.{slot_line}

-- the record stands in this slot
abbrev pub IsRecordAt : View → ℕ → Recorded → Type 0
IsRecordAt v slot r = slice_get v.log.records slot ≡ Some r

-- the lane's generation
abbrev pub generation_of : View → ℕ
generation_of v = slice_index v.words (area_word v.lane)

-- the first word of an undo slot
abbrev pub slot_word : ℕ → ℕ → ℕ
slot_word lane slot = 8 * slot_line lane slot

-- the record is of word w
abbrev pub covers : Recorded → ℕ → Bool
covers r w = nat_le r.word w && nat_lt w (r.word + length r.old)

-- one of these records is of word w
abbrev pub is_recorded : List Recorded → ℕ → Bool
is_recorded records w = list_any (λ r. covers r w) records

-- nothing undrained is of the slot
abbrev pub is_drained_slot : View → ℕ → Bool
is_drained_slot v slot = not (list_any (λ c. is_in_line (slot_line v.lane slot) c) v.changes)

-- one of these records, which stand in the slots from this one on, is drained and of word w
abbrev pub is_logged_from : View → ℕ → List Recorded → ℕ → Bool
is_logged_from v slot [] w = false
is_logged_from v slot (r ∷ records) w = (covers r w && is_drained_slot v slot) || is_logged_from v (slot + 1) records w

-- the lane's log would restore word w after a power failure
abbrev pub is_logged : View → ℕ → Bool
is_logged v w = is_logged_from v 0 v.log.records w

-- how a record of this generation stands in its slot: the old words are four, with zeros behind
abbrev pub spelled : ℕ → Recorded → List ℕ
spelled generation r = undo_words (record { generation = generation; place = 8 * r.word; count = length r.old; old = r.old ++ replicate (4 - length r.old) 0 })

-- the generation of the log's records: the lane's, or the one that it ends; once the seal is drained that which the last entry sets, and no
-- record is of it
abbrev pub records_generation : Phase → View → ℕ
records_generation Retiring v = generation_of v - 1
records_generation (Applying applied) v = if applied == length v.log.entries then generation_of v else generation_of v + 1
records_generation phase v = generation_of v

-- how many slots have words of this generation, that of a record in the making among them
abbrev pub used_slots : Phase → View → ℕ
used_slots (Open (x ∷ slot) pair) v = length v.log.records + 1
used_slots phase v = length v.log.records

-- the words of a record, with these values
abbrev pub finals_of : List ℕ → Recorded → List Final
finals_of words r = map (λ w. record { word = w; mask = all_bits; bits = slice_index words w; ors = false }) (range_with_len r.word (length r.old))

-- the entries of words outside of the lane's area: all but that of its generation
abbrev pub pool_entries : View → List Final
pool_entries v = filter (λ (f : Final). not (is_in_area v.lane f.word)) v.log.entries

-- what the open call makes final: the words that it recorded, as it left them, and then what its entries make. The words of new blocks come with
-- the heap.
abbrev pub difference_of : View → List Final
difference_of v = flat_map (finals_of v.words) v.log.records ++ pool_entries v

-- every recorded word has its old value again
abbrev pub AreRestored : View → Type 0
AreRestored v = (slot : ℕ) (r : Recorded) (i : ℕ) → IsRecordAt v slot r → i < length r.old → slice_index v.words (r.word + i) ≡ slice_index r.old i
