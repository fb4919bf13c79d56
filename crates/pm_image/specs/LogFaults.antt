-- What can be wrong with the lanes' logs of an image, row by row, each told of the least lane, entry, slot or place: docs/FORMAT.md, "Faults".
use Rattle.std.specs.Prelude.{ℕ, ◌+◌, ◌-◌, ◌*◌, ◌/◌, ◌%◌, ◌^◌, Bool, true, false, not, ◌==◌, ◌&&◌, ◌||◌, nat_lt, nat_le, if◌then◌else◌, List, [], ◌∷◌, length, filter, find, Option, None, Some, bit_and, bit_or}
use Rattle.std.specs.Option.{option_map, option_map_or, option_or}
use Rattle.std.specs.List.{flat_map, range_with_len, list_all, list_any}
use Rattle.pm_record.specs.Redo.{redo_of, redo_mask}
use Rattle.pm_record.specs.declared.redo.Redo.{Redo}
use Rattle.pm_record.specs.declared.redo.Op.{Op}
use Rattle.pm_record.specs.declared.redo.Op.TheVariants.{Set, Or, And}
use Rattle.pm_record.specs.declared.undo.Undo.{Undo}
use Rattle.pm_image.specs.declared.fault.ImageFault.{ImageFault}
use Rattle.pm_image.specs.declared.fault.ImageFault.TheVariants as fault
use Rattle.pm_image.specs.Logs.{area_word, generation_word, seal_word, is_sealed, entry_pair, entries, records, entries_for, covers}
use Rattle.pm_image.specs.Steps.{valid_record}

-- the lane's generation is 1 to 2^62 and its seal at most 64
unfoldable pub good_lane : List ℕ → ℕ → Bool
good_lane image lane =
    nat_le 1 (generation_word image lane) && nat_le (generation_word image lane) (2 ^ 62) && nat_le (seal_word image lane) 64

-- Lane: a generation or a seal out of range
unfoldable pub lane_fault : List ℕ → ℕ → Option ImageFault
lane_fault image lanes = option_map fault.Lane (find (λ lane. not (good_lane image lane)) (range_with_len 0 lanes))

-- the first word behind the lanes
abbrev pub zones_word : ℕ → ℕ
zones_word lanes = 512 + 1024 * lanes

-- the word is in a chunk of the zones
abbrev pub in_chunk : ℕ → ℕ → ℕ → Bool
in_chunk lanes zones word = nat_le (zones_word lanes) word && nat_lt ((word - zones_word lanes) / 33280) zones && nat_le 512 ((word - zones_word lanes) % 33280)

-- the word is a descriptor
abbrev pub in_descriptors : ℕ → ℕ → ℕ → Bool
in_descriptors lanes zones word = nat_le (zones_word lanes) word && nat_lt ((word - zones_word lanes) / 33280) zones && nat_lt ((word - zones_word lanes) % 33280) 64

-- an entry may change the root word, a descriptor, or a word in a chunk
abbrev pub is_target : ℕ → ℕ → ℕ → Bool
is_target lanes zones word = word == 64 || in_descriptors lanes zones word || in_chunk lanes zones word

-- the operation sets the whole word
abbrev pub is_set : Op → Bool
is_set Set = true
is_set Or = false
is_set And = false

-- the last entry sets the lane's own generation to v, from 2 to 2^62, the stored one being v or v - 1
abbrev pub ends_log : List ℕ → ℕ → Redo → Bool
ends_log image lane e =
    is_set e.op && e.place == 8 * area_word lane && nat_le 2 e.value && nat_le e.value (2 ^ 62)
    && (generation_word image lane == e.value || generation_word image lane + 1 == e.value)

-- entry i of a sealed lane: the last one ends the log, and the others change what entries may change
abbrev pub good_entry : List ℕ → ℕ → ℕ → ℕ → ℕ → Option Redo → Bool
good_entry image lanes zones lane i None = false
good_entry image lanes zones lane i (Some e) = if i + 1 == seal_word image lane then ends_log image lane e else is_target lanes zones (e.place / 8)

-- the lane is sealed, and its entry i is one that no log has
abbrev pub bad_entry : List ℕ → ℕ → ℕ → ℕ → ℕ → Bool
bad_entry image lanes zones lane i =
    is_sealed image lane && nat_lt i (seal_word image lane) && not (good_entry image lanes zones lane i (redo_of (entry_pair image lane i)))

-- Redo: a sealed entry that no log has; entry i of lane k is the one with the number 64 k + i
unfoldable pub redo_fault : List ℕ → ℕ → ℕ → Option ImageFault
redo_fault image lanes zones = option_map (λ n. fault.Redo (n / 64) (n % 64)) (find (λ n. bad_entry image lanes zones (n / 64) (n % 64)) (range_with_len 0 (64 * lanes)))

-- the record is of 1 to 4 words of chunks, and its generation can be raised
unfoldable pub good_record : ℕ → ℕ → Undo → Bool
good_record lanes zones u =
    nat_le 1 u.count && nat_le u.count 4 && u.place % 8 == 0 && list_all (λ k. in_chunk lanes zones (u.place / 8 + k)) (range_with_len 0 u.count)
    && not (u.generation == 2 ^ 62)

-- slot i of the lane holds a valid record that no log has
unfoldable pub bad_slot : List ℕ → ℕ → ℕ → ℕ → ℕ → Bool
bad_slot image lanes zones lane i = option_map_or (λ u. not (good_record lanes zones u)) (valid_record image lane i) false

-- Undo: a valid record that no log has; slot i of lane k is the one with the number 64 k + i
unfoldable pub undo_fault : List ℕ → ℕ → ℕ → Option ImageFault
undo_fault image lanes zones = option_map (λ n. fault.Undo (n / 64) (n % 64)) (find (λ n. bad_slot image lanes zones (n / 64) (n % 64)) (range_with_len 0 (64 * lanes)))

-- the valid records of all lanes that cover the word at this place
unfoldable pub records_for : List ℕ → ℕ → ℕ → List Undo
records_for image lanes place = filter (λ u. covers u place) (flat_map (records image) (range_with_len 0 lanes))

-- the bits that entries change
abbrev pub bits_of : List Redo → ℕ
bits_of [] = 0
bits_of (e ∷ es) = bit_or (redo_mask e) (bits_of es)

-- the bits of the word at this place that a lane's sealed entries change
unfoldable pub lane_mask : List ℕ → ℕ → ℕ → ℕ
lane_mask image place lane = bits_of (filter (λ e. e.place == place) (entries image lane))

-- two sealed lanes change a common bit of the word
unfoldable pub lanes_clash : List ℕ → ℕ → ℕ → Bool
lanes_clash image lanes place =
    list_any (λ k. list_any (λ j. not (bit_and (lane_mask image place j) (lane_mask image place k) == 0)) (range_with_len 0 k)) (range_with_len 0 lanes)

-- a valid record's word is in another one or has an entry, or two sealed lanes have entries with a common bit for it
unfoldable pub clashes : List ℕ → ℕ → ℕ → Bool
clashes image lanes place =
    nat_lt 1 (length (records_for image lanes place)) || (nat_lt 0 (length (records_for image lanes place)) && nat_lt 0 (length (entries_for image lanes place))) || lanes_clash image lanes place

-- Clash: two logs that speak of one word
unfoldable pub clash_fault : List ℕ → ℕ → Option ImageFault
clash_fault image lanes = option_map (λ i. fault.Clash (8 * i)) (find (λ i. clashes image lanes (8 * i)) (range_with_len 0 (length image)))

-- the first fault of the logs, row by row
unfoldable pub log_fault : List ℕ → ℕ → ℕ → Option ImageFault
log_fault image lanes zones = option_or (lane_fault image lanes) (option_or (redo_fault image lanes zones) (option_or (undo_fault image lanes zones) (clash_fault image lanes)))
