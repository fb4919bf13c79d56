-- One lane alone, and how its memory is seen.
use Rattle.std.specs.Prelude.{◌≡◌, ℕ, bit_and, bit_or, ◌+◌, ◌/◌, ◌%◌, ◌^◌, ◌<◌, ◌≤◌, ◌==◌, Bool, true, false, if◌then◌else◌, IsTrue, All, Contains, replicate, List, [], ◌∷◌, ◌++◌, length, slice_index, slice_index_or, slice_set, Option, Some, None, IsSomeAnd}
use Rattle.std.specs.Option.{ForSome}
use Rattle.std.specs.List.{list_any}
use Rattle.solo_view.specs.declared.change.Change.{Change}
use Rattle.solo_view.specs.Changes.{store_change, or_change, and_change, flushed, drained}
use Rattle.solo_view.specs.declared.occ.Occ.{Occ}
use Rattle.solo_view.specs.declared.occ.Occ.TheVariants.{Run, Zone}
use Rattle.solo_view.specs.View.{View, Lock, Numbered, blank}
use Rattle.solo_view.specs.Steps.{Step}
use Rattle.solo_view.specs.Steps.Step.{Load, Store, Or, And, Flush, Drain, TakeWrite, TakeRead, Raise, Give, ZoneTry, ZoneGive, Occupied, Occupy, Vacate, Draw, NumberSeen}
use Rattle.solo_view.specs.Counts.{HasRoom, FlushesSome, DrainsSome}
use Rattle.solo_memory.specs.LockWords.{reader_bit, writer_bit}

-- what one lane's memory holds; lines, zones and pages of 512 words are given by their numbers
pub record Solo : Type 0 where
  pub words : List ℕ
  -- undrained, the oldest first
  pub changes : List Change
  -- counted calls made, and after how many the lane stops
  pub calls : ℕ
  pub stop : Option ℕ
  -- the volatile words: the numbers drawn, whether the lane has said that it stopped, a lock word a line, an occupancy word a page and
  -- a zone, a lock a zone
  pub number : ℕ
  pub stopped : Bool
  pub locks : List ℕ
  pub runs : List ℕ
  pub zones : List ℕ
  pub zone_locks : List Bool

-- the lock word of a line, as the held locks say for lane 0
abbrev pub lock_word : List Lock → ℕ → ℕ
lock_word [] line = 0
lock_word (l ∷ locks) line = if l.line == line then (if l.write then writer_bit 0 else reader_bit 0) else lock_word locks line

-- no try of a lock was refused
abbrev pub IsGranted : Step → Type 0
IsGranted (TakeWrite line won) = IsTrue won
IsGranted (TakeRead line won) = IsTrue won
IsGranted (Raise line won) = IsTrue won
IsGranted (ZoneTry zone won) = IsTrue won
IsGranted s = Unit {0}

-- the entries have the numbers from this one on
unfoldable pub AreNumbered : ℕ → List Numbered → Type 0
AreNumbered n [] = Unit {0}
AreNumbered n (e ∷ entries) = (e.number ≡ n) × AreNumbered (n + 1) entries

-- The view of lane 0 has the memory's words, changes, calls, numbers and locks. What else it has is no concern of the memory.
pub record Sees (m : Solo) (v : View) : Type 0 where
  pub lane : v.lane ≡ 0
  pub words : v.words ≡ m.words
  pub changes : v.changes ≡ m.changes
  pub stop : v.stop ≡ m.stop
  -- the calls are counted modulo 2 ^ 64, and exactly up to a stop number
  pub calls : v.calls % 2 ^ 64 ≡ m.calls
  pub within : ForSome m.stop (λ stop. v.calls ≤ stop)
  -- all numbers drawn are its own, and what it saw of the counter before its draw is the counter still
  pub numbers : AreNumbered 1 v.entries
  pub count : m.number ≡ length v.entries
  pub counter : v.number ≡ None → (n : ℕ) → Contains v.seen (NumberSeen n) → m.number ≡ n
  -- each line has its lock word
  pub lines : length m.locks ≡ length m.words / 8
  -- a lock word has the lane's bit where the view has the lock, and no other
  pub locks : (line : ℕ) → line < length m.locks → slice_index m.locks line ≡ lock_word v.locks line
  pub zone_locks : (zone : ℕ) → zone < length m.zone_locks → slice_index_or m.zone_locks zone false ≡ list_any (λ other. other == zone) v.zone_locks
  -- the occupancy words are the view's: one a page, and one a zone
  pub runs : v.run_words ≡ m.runs
  pub zones : v.zone_words ≡ m.zones
  pub pages : length m.runs ≡ length m.words / 512
  pub zone_count : length m.zones ≡ 32
  pub zone_lock_count : length m.zone_locks ≡ 32
  -- alone, a lane is refused no lock
  pub alone : All IsGranted v.seen

-- the view of a memory that knows no more than its words, the occupancy words among them, changes and calls
abbrev pub view_of : Solo → View
view_of m = record blank { words = m.words; run_words = m.runs; zone_words = m.zones; changes = m.changes; calls = m.calls; stop = m.stop }

-- one more counted call
abbrev pub counted : Solo → Solo
counted m = record m { calls = (m.calls + 1) % 2 ^ 64 }

-- a counted call is made, or the lane is at its stop number
abbrev pub IsDue : Solo → Type 0
IsDue m = ForSome m.stop (λ stop. m.calls < stop)

abbrev pub IsSpent : Solo → Type 0
IsSpent m = IsSomeAnd m.stop (λ stop. stop ≤ m.calls)

-- the change's word became x
abbrev pub with_change : Solo → Change → ℕ → Solo
with_change m c x = record m { words = slice_set m.words c.word x; changes = m.changes ++ c ∷ [] }

-- the memory after each counted call
abbrev pub after_store : Solo → ℕ → ℕ → Solo
after_store m w x = with_change (counted m) (store_change w (slice_index m.words w) x) x

abbrev pub after_or : Solo → ℕ → ℕ → Solo
after_or m w bits = let found = slice_index m.words w in with_change (counted m) (or_change w bits found) (bit_or found bits)

abbrev pub after_and : Solo → ℕ → ℕ → Solo
after_and m w bits = let found = slice_index m.words w in with_change (counted m) (and_change w bits found) (bit_and found bits)

abbrev pub after_flush : Solo → ℕ → Solo
after_flush m line = record (counted m) { changes = flushed line m.changes }

abbrev pub after_drain : Solo → Solo
after_drain m = record (counted m) { changes = drained m.changes }

-- the lane has said that it stopped
abbrev pub says_stopped : Solo → Solo
says_stopped m = record m { stopped = true }

-- an occupancy word is there
abbrev pub HasOcc : Solo → Occ → Type 0
HasOcc m (Run place) = place / 4096 < length m.runs
HasOcc m (Zone zone) = zone < length m.zones

-- what the memory asks of a step: places in range, room for a change, no idle flush or drain, no lock that is held already
abbrev pub CanStep : Solo → Step → Type 0
CanStep m (Load w found) = w < length m.words
CanStep m (Store w x) = (w < length m.words) × HasRoom m.changes
CanStep m (Or w bits found) = (w < length m.words) × HasRoom m.changes
CanStep m (And w bits found) = (w < length m.words) × HasRoom m.changes
CanStep m (Flush line) = FlushesSome line m.changes
CanStep m Drain = DrainsSome m.changes
CanStep m (TakeWrite line won) = (line < length m.locks) × (slice_index m.locks line ≡ 0)
CanStep m (TakeRead line won) = (line < length m.locks) × (slice_index m.locks line ≡ 0)
CanStep m (Raise line won) = (line < length m.locks) × (slice_index m.locks line ≡ reader_bit 0)
CanStep m (Give line) = line < length m.locks
CanStep m (ZoneTry zone won) = (zone < length m.zone_locks) × (slice_index_or m.zone_locks zone false ≡ false)
CanStep m (ZoneGive zone) = zone < length m.zone_locks
CanStep m (Occupied at found) = HasOcc m at
CanStep m (Occupy at bits won) = HasOcc m at
CanStep m (Vacate at bits) = HasOcc m at
CanStep m (Draw n) = m.number < 2 ^ 62 + 32
CanStep m s = Unit {0}

-- the memory of these words before the first call
abbrev pub opened : List ℕ → Option ℕ → Solo
opened words stop = record {
  words = words;
  changes = [];
  calls = 0;
  stop = stop;
  number = 0;
  stopped = false;
  locks = replicate (length words / 8) 0;
  runs = replicate (length words / 512) 0;
  zones = replicate 32 0;
  zone_locks = replicate 32 false;
}

abbrev pub occ_word : Solo → Occ → ℕ
occ_word m (Run place) = slice_index m.runs (place / 4096)
occ_word m (Zone zone) = slice_index m.zones zone

-- the memory with another occupancy word
abbrev pub with_occ : Solo → Occ → ℕ → Solo
with_occ m (Run place) word = record m { runs = slice_set m.runs (place / 4096) word }
with_occ m (Zone zone) word = record m { zones = slice_set m.zones zone word }

-- the memory with another lock word of a line, or with a zone's lock taken or free
abbrev pub with_lock : Solo → ℕ → ℕ → Solo
with_lock m line word = record m { locks = slice_set m.locks line word }

abbrev pub with_zone_lock : Solo → ℕ → Bool → Solo
with_zone_lock m zone taken = record m { zone_locks = slice_set m.zone_locks zone taken }

-- the line's lock word became this one, if there is one, and the answer is whether there is
abbrev pub SetsLock : Solo → Solo → ℕ → Option ℕ → Bool → Type 0
SetsLock old new line None won = (won ≡ false) × (new ≡ old)
SetsLock old new line (Some word) won = (won ≡ true) × (new ≡ with_lock old line word)
