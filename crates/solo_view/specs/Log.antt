-- A lane's log: its undo records, its redo entries, and how far its call has come.
use Rattle.std.specs.Prelude.{ℕ, ◌+◌, ◌/◌, ◌%◌, ◌==◌, Bool, true, false, if◌then◌else◌, List, [], ◌∷◌, ◌++◌, take}
use Rattle.std.specs.Int.{bit_not, w64}
use Rattle.solo_view.specs.Bits.{all_bits}
use Rattle.solo_view.specs.Area.{Part}
use Rattle.solo_view.specs.Area.Part.{GenerationWord, SealWord, EntryWord, SlotWord}

-- how far the lane's call has come
pub data Phase : Type 0 where
  -- the log is retired and drained, and the last call's number is drawn: nothing is open
  Idle : Phase
  -- the log may grow: these words of the next record are stored, and these of the next entry
  Open : List ℕ → List ℕ → Phase
  -- the number is drawn, and the deciding store is to come
  Drawn : Phase
  -- the seal is stored, and not drained
  Sealing : Phase
  -- the seal is drained, and so many entries are applied
  Applying : ℕ → Phase
  -- the seal 0 is stored, and not drained
  Clearing : Phase
  -- the next generation is stored, and not drained
  Retiring : Phase

-- an undo record: consecutive words from this one on, as they were
pub record Recorded : Type 0 where
  pub word : ℕ
  pub old : List ℕ

-- a redo entry: the bits of the word under the mask become these
pub record Final : Type 0 where
  pub word : ℕ
  pub mask : ℕ
  pub bits : ℕ
  -- an OR does it: that leaves what a word of more than 64 bits has above them, and so is no SET even where it is of all bits
  pub ors : Bool

pub record Log : Type 0 where
  pub phase : Phase
  -- the records of this generation, in the order of their slots
  pub records : List Recorded
  -- the entries, in order
  pub entries : List Final

abbrev pub no_log : Phase → Log
no_log phase = record { phase = phase; records = []; entries = [] }

-- the bits of an operation's entry: SET, OR or AND
abbrev pub final_of : ℕ → ℕ → ℕ → Final
final_of operation word value =
    if operation == 0 then record { word = word; mask = all_bits; bits = value; ors = false } else
    if operation == 1 then record { word = word; mask = value; bits = value; ors = true } else record { word = word; mask = bit_not w64 value; bits = 0; ors = false }

-- the log with these words stored in the next slot: a record is whole with its eighth word
abbrev pub with_slot : Log → List ℕ → List ℕ → Log
with_slot log (generation ∷ place ∷ count ∷ a ∷ b ∷ c ∷ d ∷ sum ∷ []) pair =
    record log { phase = Open [] pair; records = log.records ++ record { word = place / 8; old = take count (a ∷ b ∷ c ∷ d ∷ []) } ∷ [] }
with_slot log slot pair = record log { phase = Open slot pair }

-- the log with these words of the next entry stored: an entry is whole with its second word
abbrev pub with_pair : Log → List ℕ → List ℕ → Log
with_pair log slot (place ∷ value ∷ []) = record log { phase = Open slot []; entries = log.entries ++ final_of (place % 8) (place / 8) value ∷ [] }
with_pair log slot pair = record log { phase = Open slot pair }

-- the log in this phase after a store of x
abbrev pub log_stored : Phase → Part → ℕ → Log → Log
log_stored (Open slot pair) SlotWord x log = with_slot log (slot ++ x ∷ []) pair
log_stored (Open slot pair) EntryWord x log = with_pair log slot (pair ++ x ∷ [])
-- an abort ends the generation before its number is drawn
log_stored (Open slot pair) GenerationWord x log = record log { phase = Retiring }
log_stored Drawn GenerationWord x log = record log { phase = Retiring }
log_stored Drawn SealWord x log = record log { phase = Sealing }
log_stored (Applying applied) SealWord x log = record log { phase = Clearing }
log_stored (Applying applied) part x log = record log { phase = Applying (applied + 1) }
log_stored phase part x log = log

-- the log in this phase after an OR or an AND of a word
abbrev pub log_changed : Phase → Log → Log
log_changed (Applying applied) log = record log { phase = Applying (applied + 1) }
log_changed phase log = log

-- the log in this phase once nothing is undrained, where the call's number is drawn or not
abbrev pub log_drained : Phase → Bool → Log → Log
-- the call is decided: its records are void
log_drained Sealing drawn log = record log { phase = Applying 0; records = [] }
log_drained Clearing drawn log = no_log Idle
log_drained Retiring true log = no_log Idle
log_drained Retiring false log = no_log (Open [] [])
log_drained phase drawn log = log

-- what the call leaves to be decided when its number is drawn
abbrev pub phase_drawn : List Recorded → List Final → Phase
phase_drawn [] [] = Idle
phase_drawn records entries = Drawn

-- the log in this phase after the draw
abbrev pub log_drawn : Phase → Log → Log
log_drawn (Open slot pair) log = record log { phase = phase_drawn log.records log.entries }
log_drawn phase log = log
