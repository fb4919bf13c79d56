-- A lane's log: its undo records, its redo entries, and how far its call has come.
use Rattle.std.specs.Prelude.{ℕ, ◌+◌, ◌/◌, ◌%◌, ◌==◌, ◌&&◌, nat_lt, Bool, true, false, cond, List, [], ◌∷◌, ◌++◌, length, slice_index, take, Option, None, Some, unwrap_or}
use Rattle.std.specs.Option.{option_map}
use Rattle.pm_layout.specs.declared.shape.Shape.{Shape}
use Rattle.pm_record.specs.Redo.{op_of}
use Rattle.pm_record.specs.declared.redo.Op.{Op}
use Rattle.pm_record.specs.declared.redo.Op.TheVariants.{Set}
use Rattle.pm_view.specs.Places.{Place, RootWord, is_after, distance}
use Rattle.pm_view.specs.Entries.{Entry, first_of_two}
use Rattle.pm_view.specs.Parts.{Part, GenerationPart, SealPart, EntryPart, SlotPart, place_in, pool_part}

-- how far the lane's call has come; a number counts those drawn before it
pub data Phase : Type 0 where
  -- no call is open: the log is retired, and that is drained
  Idle : Phase
  -- the log may grow
  Open : Phase
  -- the number is drawn, and the deciding store is to come
  Drawn : ℕ → Phase
  -- the seal is stored, and not drained
  Sealing : ℕ → Phase
  -- the seal is drained, and these entries are to be applied yet
  Applying : List Entry → Phase
  -- the seal 0 is stored, and not drained
  Clearing : Phase
  -- the next generation is stored, and not drained: it decides the call of this number
  Retiring : ℕ → Phase
  -- the next generation is stored, and not drained: it voids the records of a call that is aborted
  Voiding : Phase

-- an undo record: consecutive words from this place on, as they were
pub record Recorded : Type 0 where
  pub place : Place
  pub old : List ℕ

pub record Log : Type 0 where
  pub phase : Phase
  -- the generation of the records, and whether the next one is stored
  pub generation : ℕ
  pub bumped : Bool
  -- the records of this generation, in the order of their slots, and the entries, in order
  pub records : List Recorded
  pub entries : List Entry
  -- the words stored so far of the next record, and of the next entry
  pub slot : List ℕ
  pub pair : List ℕ

abbrev pub new_log : Phase → ℕ → Log
new_log phase generation = record { phase = phase; generation = generation; bumped = false; records = []; entries = []; slot = []; pair = [] }

-- the log of the generation after
abbrev pub next_log : Phase → Log → Log
next_log phase log = new_log phase (log.generation + 1)

-- ---- what the records and the entries say

-- the old word that a record has for a place, and the first of some records
abbrev pub old_in : Recorded → Place → Option ℕ
old_in r p = cond (is_after r.place p && nat_lt (distance r.place p) (length r.old)) (Some (slice_index r.old (distance r.place p))) None

abbrev pub old_of : List Recorded → Place → Option ℕ
old_of [] p = None
old_of (r ∷ t) p = first_of_two (old_in r p) (old_of t p)

-- ---- how it grows

-- the place that a word is, to a lane that knows these chunks as runs
abbrev pub place_at : Shape → (ℕ → ℕ) → ℕ → Option Place
place_at sh class w = place_in class (pool_part sh w)

-- the record that these eight words spell, and the entry that a pair does
abbrev pub recorded : Shape → (ℕ → ℕ) → List ℕ → Recorded
recorded sh class words = record {
  place = unwrap_or (place_at sh class (slice_index words 1 / 8)) RootWord;
  old = take (slice_index words 2) (slice_index words 3 ∷ slice_index words 4 ∷ slice_index words 5 ∷ slice_index words 6 ∷ []);
}

abbrev pub entered : Shape → (ℕ → ℕ) → ℕ → ℕ → Entry
entered sh class head value = record { word = head / 8; place = place_at sh class (head / 8); op = unwrap_or (op_of (head % 8)) Set; value = value }

-- the log with these words stored in the next slot: a record is whole with its eighth word
abbrev pub with_slot : Shape → (ℕ → ℕ) → List ℕ → Log → Log
with_slot sh class words log = cond (length words == 8) (record log { records = log.records ++ recorded sh class words ∷ []; slot = [] }) (record log { slot = words })

-- the log with these words stored of the next entry: an entry is whole with its second word
abbrev pub with_pair : Shape → (ℕ → ℕ) → List ℕ → ℕ → Log → Log
with_pair sh class [] x log = record log { pair = x ∷ [] }
with_pair sh class (head ∷ rest) x log = record log { entries = log.entries ++ entered sh class head x ∷ []; pair = [] }

-- all but the first
abbrev pub rest_of : List Entry → List Entry
rest_of [] = []
rest_of (e ∷ t) = t

-- ---- how it goes on

-- the log in this phase after a store of x into such a word
abbrev pub log_stored : Shape → (ℕ → ℕ) → Phase → Part → ℕ → Log → Log
log_stored sh class Open SlotPart x log = with_slot sh class (log.slot ++ x ∷ []) log
log_stored sh class Open EntryPart x log = with_pair sh class log.pair x log
log_stored sh class Open GenerationPart x log = record log { phase = Voiding; bumped = true }
log_stored sh class (Drawn n) GenerationPart x log = record log { phase = Retiring n; bumped = true }
log_stored sh class (Drawn n) SealPart x log = record log { phase = Sealing n }
log_stored sh class (Applying todo) SealPart x log = record log { phase = Clearing }
log_stored sh class (Applying todo) GenerationPart x log = record log { phase = Applying (rest_of todo); bumped = true }
log_stored sh class (Applying todo) part x log = record log { phase = Applying (rest_of todo) }
log_stored sh class phase part x log = log

-- the log in this phase after an OR or an AND of a word
abbrev pub log_changed : Phase → Log → Log
log_changed (Applying todo) log = record log { phase = Applying (rest_of todo) }
log_changed phase log = log

-- the log in this phase once nothing is undrained
abbrev pub log_drained : Phase → Log → Log
log_drained (Sealing n) log = record log { phase = Applying log.entries }
log_drained Clearing log = next_log Idle log
log_drained (Retiring n) log = next_log Idle log
log_drained Voiding log = next_log Open log
log_drained phase log = log

-- what is to be decided of a call that takes its number with these records and entries
abbrev pub phase_drawn : ℕ → List Recorded → List Entry → Phase
phase_drawn n [] [] = Idle
phase_drawn n records entries = Drawn n

-- calls, locks and blocks are begun, taken and reserved, and loads teach, before the number is drawn
abbrev pub is_early : Phase → Bool
is_early Idle = true
is_early Open = true
is_early phase = false
