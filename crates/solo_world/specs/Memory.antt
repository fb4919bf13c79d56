-- The words that all lanes share, by their location.
use Rattle.std.specs.Prelude.{◌≡◌, ◌≢◌, ℕ, ◌/◌}
use Rattle.solo_view.specs.declared.occ.Occ.{Occ}
use Rattle.solo_view.specs.declared.occ.Occ.TheVariants.{Run, Zone}

pub data Location : Type 0 where
  -- a word of the pool, by its number
  PoolWord : ℕ → Location
  -- the lock word of a line
  LockWord : ℕ → Location
  -- the occupancy words: of a run, by the page that it is, and of a zone; and the lock of a zone, 0 where it is free, else its holder's number and 1
  RunWord : ℕ → Location
  ZoneWord : ℕ → Location
  ZoneLock : ℕ → Location
  -- how many commit numbers were drawn
  CommitCounter : Location
  -- 0 until a lane says that it is at its stop number
  StopWord : Location

-- where an occupancy word is
abbrev pub occ_at : Occ → Location
occ_at (Run place) = RunWord (place / 4096)
occ_at (Zone zone) = ZoneWord zone

abbrev pub Memory : Type 0
Memory = Location → ℕ

abbrev pub IsSame : Memory → Memory → Type 0
IsSame old new = (l : Location) → new l ≡ old l

-- only the word at this location may have changed
abbrev pub IsSameBut : Location → Memory → Memory → Type 0
IsSameBut at old new = (l : Location) → l ≢ at → new l ≡ old l

-- it changed to x, and no other did
abbrev pub Becomes : Location → ℕ → Memory → Memory → Type 0
Becomes at x old new = IsSameBut at old new × (new at ≡ x)
