-- WHAT RECOVERY DOES, as a list of memory calls: docs/FORMAT.md, "Recovery". The list is a function
-- of the image as it is read. Lane goes after lane: first its words are restored and its entries
-- applied, then its stray records are cleared, then its log is ended. Each of the three is
-- persistent before the next begins.
use Rattle.std.specs.Prelude.{ℕ, ◌+◌, ◌*◌, ◌/◌, ◌==◌, if◌then◌else◌, List, [], ◌∷◌, ◌++◌, length, map, slice_index}
use Rattle.std.specs.List.{filter, flat_map, list_any, range_with_len}
use Rattle.pm_record.specs.declared.redo.Redo.{Redo}
use Rattle.pm_record.specs.declared.redo.Op.TheVariants.{Set}
use Rattle.pm_record.specs.declared.undo.Undo.{Undo}
use Rattle.pm_image.specs.Logs.{area_word, entries, generation, is_sealed, records, slot_line, undo_slot}
use Rattle.pm_recover.specs.Recovery.{generation_after, is_raised, is_stray}

-- a counted memory call: a store, OR or AND, which an entry spells; a flush of a line; a drain
pub data MemoryCall : Type 0 where
  Change : Redo → MemoryCall
  Flush : ℕ → MemoryCall
  Drain : MemoryCall

-- a store of x in word w
abbrev pub store_of : ℕ → ℕ → Redo
store_of w x = record { place = 8 * w; op = Set; value = x }

-- the old words of a record, each stored where it was
abbrev pub restores : Undo → List Redo
restores u = map (λ k. store_of (u.place / 8 + k) (slice_index u.old k)) (range_with_len 0 u.count)

-- what the lane's log does to the pool's words: its valid records, in the order of slots, are
-- restored, and its entries applied, if it is sealed. The last entry sets the generation
unfoldable pub writes : List ℕ → ℕ → List Redo
writes image lane = flat_map restores (records image lane) ++ entries image lane

-- the lines of these entries' words, rising
unfoldable pub lines_of : ℕ → List Redo → List ℕ
lines_of lines es = filter (λ line. list_any (λ (e : Redo). e.place / 64 == line) es) (range_with_len 0 lines)

-- what makes these changes persistent, in a pool of so many lines: a flush of each changed line, in
-- rising place, and a drain; nothing where there is no change
abbrev pub written_back : ℕ → List Redo → List MemoryCall
written_back lines [] = []
written_back lines (e ∷ es) = map Flush (lines_of lines (e ∷ es)) ++ Drain ∷ []

-- these changes made, and made persistent
abbrev pub persisted : ℕ → List Redo → List MemoryCall
persisted lines es = map Change es ++ written_back lines es

-- the slots with a stray record: one that the lane, as it goes on, might take for its own
unfoldable pub strays : List ℕ → ℕ → List ℕ
strays image lane = filter (λ slot. is_stray (generation_after image lane) (undo_slot image lane slot)) (range_with_len 0 64)

-- a line's eight words made 0
abbrev pub zeros : ℕ → List Redo
zeros line = map (λ k. store_of (8 * line + k) 0) (range_with_len 0 8)

abbrev pub cleared_slot : ℕ → ℕ → List MemoryCall
cleared_slot lane slot = map Change (zeros (slot_line lane slot)) ++ Flush (slot_line lane slot) ∷ []

-- these slots cleared, each flushed after its last word, then a drain; nothing where there is none
abbrev pub drained : List ℕ → List MemoryCall
drained [] = []
drained (slot ∷ slots) = Drain ∷ []

abbrev pub cleared : ℕ → List ℕ → List MemoryCall
cleared lane slots = flat_map (cleared_slot lane) slots ++ drained slots

-- the end of the log: a sealed lane's seal becomes 0; a lane that goes on with another generation
-- has that
unfoldable pub log_end : List ℕ → ℕ → List Redo
log_end image lane =
    if is_sealed image lane then store_of (area_word lane + 1) 0 ∷ []
    else if is_raised image lane then store_of (area_word lane) (generation image lane + 1) ∷ []
    else []

-- all calls of one lane
unfoldable pub lane_plan : List ℕ → ℕ → List MemoryCall
lane_plan image lane = persisted (length image / 8) (writes image lane) ++ (cleared lane (strays image lane) ++ persisted (length image / 8) (log_end image lane))

-- THE PLAN: all calls, for an image of so many lanes
unfoldable pub plan : List ℕ → ℕ → List MemoryCall
plan image lanes = flat_map (lane_plan image) (range_with_len 0 lanes)
