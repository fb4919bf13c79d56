-- The words that all lanes share, by their location, and the same bit by bit.
use Rattle.std.specs.Prelude.{◌≡◌, ◌≢◌, ℕ, ◌+◌, ◌*◌, ◌/◌, ◌%◌, nat_lt, Bool, true, cond, ◌==◌, ◌&&◌, not}
use Rattle.std.specs.Int.{bit_at}
use Rattle.pm_layout.specs.declared.shape.Shape.{Shape}
use Rattle.pm_layout.specs.Areas.{page_bytes, word_of_generation, word_of_seal, word_of_entry, line_of_slot}
use Rattle.pm_layout.specs.Chunks.{page_of_chunk, word_of_descriptor}
use Rattle.pm_view.specs.declared.occ.Occ.{Occ}
use Rattle.pm_view.specs.declared.occ.Occ.TheVariants.{Run, Zone}
use Rattle.pm_view.specs.Places.{InRun, InHuge, Descr, RootWord, Block, Small, Big, Root, is_place, word_of}
use Rattle.pm_view.specs.Claims.{is_run}
use Rattle.pm_world.specs.States.{State, Cells}

pub data Location : Type 0 where
  -- a word of the pool, by its number
  PoolWord : ℕ → Location
  -- the lock word of a line
  LockWord : ℕ → Location
  -- the occupancy words: of a run, by the page that it is, and of a zone; and the lock of a zone, 0 where it is free, else its holder's number and 1
  RunWord : ℕ → Location
  ZoneWord : ℕ → Location
  ZoneLock : ℕ → Location
  -- how many commit numbers were drawn
  CommitCounter : Location
  -- 0 until a lane says that it is at its stop number
  StopWord : Location

-- where an occupancy word is
abbrev pub occ_at : Occ → Location
occ_at (Run place) = RunWord (place / page_bytes)
occ_at (Zone zone) = ZoneWord zone

abbrev pub Memory : Type 0
Memory = Location → ℕ

abbrev pub IsSame : Memory → Memory → Type 0
IsSame old new = (l : Location) → new l ≡ old l

-- only the word at this location may have changed
abbrev pub IsSameBut : Location → Memory → Memory → Type 0
IsSameBut at old new = (l : Location) → l ≢ at → new l ≡ old l

-- it changed to x, and no other did
abbrev pub Becomes : Location → ℕ → Memory → Memory → Type 0
Becomes at x old new = IsSameBut at old new × (new at ≡ x)

-- ---- BIT BY BIT

abbrev pub bit : ℕ → ℕ → Bool
bit word b = bit_at word b == 1

-- a descriptor word is one of two: what it tells of a run, 0 or the lines of its blocks; or of a huge block, bits that are 0 where it is a run's
abbrev pub run_told : ℕ → ℕ
run_told descriptor = cond (is_run descriptor) (descriptor / 256) 0

abbrev pub huge_told : ℕ → ℕ → Bool
huge_told descriptor b = not (is_run descriptor) && bit descriptor b

-- the bits of the pool's words, at places
abbrev pub bits_of : Shape → (ℕ → ℕ) → State
bits_of sh words (InRun c w) b = is_place sh (InRun c w) && bit (words (word_of sh (InRun c w))) b
bits_of sh words (InHuge c w) b = is_place sh (InHuge c w) && bit (words (word_of sh (InHuge c w))) b
bits_of sh words (Descr c) b = is_place sh (Descr c) && huge_told (words (word_of_descriptor sh c)) b
bits_of sh words RootWord b = bit (words (word_of sh RootWord)) b

abbrev pub descriptor_told : Shape → (ℕ → ℕ) → ℕ → ℕ
descriptor_told sh words c = cond (is_place sh (Descr c)) (run_told (words (word_of_descriptor sh c))) 0

abbrev pub occupancy_bit : Shape → (ℕ → ℕ) → (ℕ → ℕ) → Block → Bool
occupancy_bit sh runs zones (Small c i) = bit (runs (page_of_chunk sh c)) i
occupancy_bit sh runs zones (Big c) = bit (zones (c / 64)) (c % 64)
occupancy_bit sh runs zones Root = true

-- by the pool's words, the lock words, the occupancy words of runs and zones, the zones' locks, the counter and the stop word
abbrev pub cells_by : Shape → (ℕ → ℕ) → (ℕ → ℕ) → (ℕ → ℕ) → (ℕ → ℕ) → (ℕ → ℕ) → ℕ → ℕ → Cells
cells_by sh words locks runs zones zone_locks counter stop = record {
  pool = bits_of sh words;
  descr = descriptor_told sh words;
  generation = λ k. words (word_of_generation sh k);
  seal = λ k. words (word_of_seal sh k);
  entry = λ k i half. words (word_of_entry sh k i + half);
  slot = λ k j i. words (8 * line_of_slot sh k j + i);
  writer = λ l k. bit (locks l) (32 + k);
  reader = λ l k. nat_lt k 32 && bit (locks l) k;
  occ = occupancy_bit sh runs zones;
  zone = zone_locks;
  counter = counter;
  stop = stop;
}

abbrev pub pool_words : Memory → ℕ → ℕ
pool_words mem w = mem (PoolWord w)

abbrev pub cells_of : Shape → Memory → Cells
cells_of sh mem = cells_by sh (λ w. mem (PoolWord w)) (λ l. mem (LockWord l)) (λ c. mem (RunWord c)) (λ z. mem (ZoneWord z)) (λ z. mem (ZoneLock z)) (mem CommitCounter) (mem StopWord)
