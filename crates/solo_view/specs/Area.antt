-- Where a lane's area lies, in words, and which part of it a word is: docs/FORMAT.md, "Lane areas".
use Rattle.std.specs.Prelude.{ℕ, ◌+◌, ◌*◌, ◌-◌, ◌==◌, ◌&&◌, nat_lt, nat_le, Bool, if◌then◌else◌}

-- the first word of a lane's area
abbrev pub area_word : ℕ → ℕ
area_word lane = 512 + 1024 * lane

-- the word is in the lane's area
abbrev pub is_in_area : ℕ → ℕ → Bool
is_in_area lane w = nat_le (area_word lane) w && nat_lt w (area_word lane + 1024)

-- what a word is to a lane
pub data Part : Type 0 where
  GenerationWord : Part
  SealWord : Part
  -- one of the redo entries' 128 words
  EntryWord : Part
  -- one of the undo slots' 512 words
  SlotWord : Part
  -- any other word of the pool
  OtherWord : Part

abbrev pub part_in_area : ℕ → Part
part_in_area offset =
    if offset == 0 then GenerationWord else
    if offset == 1 then SealWord else
    if nat_le 8 offset && nat_lt offset 136 then EntryWord else
    if nat_le 136 offset && nat_lt offset 648 then SlotWord else OtherWord

abbrev pub part_of : ℕ → ℕ → Part
part_of lane w = if is_in_area lane w then part_in_area (w - area_word lane) else OtherWord
