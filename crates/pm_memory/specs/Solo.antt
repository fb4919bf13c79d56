-- One lane's memory where no other lane runs, and the views that it may be seen as.
use Rattle.std.specs.Prelude.{◌≡◌, ℕ, bit_and, bit_or, ◌+◌, ◌/◌, ◌%◌, ◌^◌, ◌<◌, ◌≤◌, ◌==◌, Bool, true, false, Contains, replicate, List, [], ◌∷◌, ◌++◌, length, slice_index, slice_index_or, slice_set, Option, Some, None, IsSomeAnd}
use Rattle.pm_layout.specs.Areas.{page_words, page_bytes}
use Rattle.std.specs.Option.{ForSome}
use Rattle.std.specs.List.{list_any}
use Rattle.pm_layout.specs.declared.shape.Shape.{Shape}
use Rattle.pm_layout.specs.Chunks.{words_of}
use Rattle.pm_view.specs.declared.change.Change.{Change}
use Rattle.pm_view.specs.Changes.{store_change, or_change, and_change}
use Rattle.pm_view.specs.declared.occ.Occ.{Occ}
use Rattle.pm_view.specs.declared.occ.Occ.TheVariants.{Run, Zone}
use Rattle.pm_view.specs.Claims.{Claim, locked, reads, pictured}
use Rattle.pm_view.specs.LockWords.{reader_bit, writer_bit}
use Rattle.pm_view.specs.View.{View, Constants, Seen, Numbered}
use Rattle.pm_view.specs.Views.{occupancy_of}
use Rattle.pm_view.specs.Steps.{Step}
use Rattle.pm_view.specs.Steps.Step.{Load, Store, Or, And, Flush, Drain, TakeWrite, TakeRead, Raise, Give, ZoneTry, ZoneGive, Occupied, Occupy, Vacate, Draw, NumberSeen}
use Rattle.pm_memory.specs.Changes.{changes_flushed, changes_drained, CanAdd, CanFlush, CanDrain, AreUndrained}

-- what one lane's memory holds; lines, zones and pages are given by their numbers
pub record Solo : Type 0 where
  pub words : List ℕ
  -- undrained, the oldest first
  pub changes : List Change
  -- counted calls made, and after how many the lane stops
  pub calls : ℕ
  pub stop : Option ℕ
  -- the volatile words: how many commit numbers were drawn, whether the lane has said that it
  -- stopped, a lock word a line, an occupancy word a page and a zone, a lock a zone
  pub number : ℕ
  pub stopped : Bool
  pub locks : List ℕ
  pub runs : List ℕ
  pub zones : List ℕ
  pub zone_locks : List Bool

-- ---- WHAT A VIEW OF LANE 0, WHERE ONE LANE RUNS, HAS OF SUCH A MEMORY

pub record IsFixed (fixed : Constants) (stop : Option ℕ) (words : ℕ) : Type 0 where
  pub lane : fixed.lane ≡ 0
  pub lanes : fixed.lanes ≡ 1
  pub stop_is : fixed.stop ≡ stop
  pub size : words ≡ words_of fixed.shape

-- what the lane last saw or made of a word is there still
abbrev pub AreKnown : Shape → List Claim → List ℕ → Type 0
AreKnown sh claims words = (w x : ℕ) → pictured sh claims w ≡ Some x → slice_index words w ≡ x

-- an occupancy word is there, of a page by its place in bytes or of a zone; and its value
abbrev pub HasWord : List ℕ → List ℕ → Occ → Type 0
HasWord runs zones (Run place) = (place % page_bytes ≡ 0) × (place / page_bytes < length runs)
HasWord runs zones (Zone zone) = zone < length zones

abbrev pub occ_word : List ℕ → List ℕ → Occ → ℕ
occ_word runs zones (Run place) = slice_index runs (place / page_bytes)
occ_word runs zones (Zone zone) = slice_index zones zone

-- what the lane last saw or made of an occupancy word is there still
abbrev pub AreSeen : List Seen → List ℕ → List ℕ → Type 0
AreSeen seen runs zones = (at : Occ) (x : ℕ) → HasWord runs zones at → occupancy_of seen at ≡ Some x → occ_word runs zones at ≡ x

-- the calls are counted modulo 2 ^ 64, and exactly up to a stop number
pub record IsCount (stop : Option ℕ) (counted calls : ℕ) : Type 0 where
  pub is : calls % 2 ^ 64 ≡ counted
  pub within : ForSome stop (λ stop. calls ≤ stop)

-- the numbers of these entries, the latest first, are all that were drawn
unfoldable pub AreNumbered : List Numbered → Type 0
AreNumbered [] = Unit {0}
AreNumbered (e ∷ entries) = (e.number ≡ length entries + 1) × AreNumbered entries

-- all numbers drawn are the lane's own, and what its call saw of the counter, before it took a
-- number, is the counter still
pub record IsCounter (counter : ℕ) (entries : List Numbered) (number : Option ℕ) (seen : List Step) : Type 0 where
  pub numbers : AreNumbered entries
  pub count : counter ≡ length entries
  pub still : number ≡ None → (n : ℕ) → Contains seen (NumberSeen n) → counter ≡ n

-- the lock word of a line that lane 0 has locked for writing, or reads, and that no other lane has
abbrev pub IsLockWord : Bool → Bool → ℕ → Type 0
IsLockWord true true word = ⊥
IsLockWord true false word = word ≡ writer_bit 0
IsLockWord false true word = word ≡ reader_bit 0
IsLockWord false false word = word ≡ 0

-- each line's lock word, and each zone's lock, is as the lane holds it
abbrev pub AreLocked : List Claim → List ℕ → Type 0
AreLocked claims locks = (line : ℕ) → line < length locks → IsLockWord (locked claims line) (reads claims line) (slice_index locks line)

abbrev pub AreZonesLocked : List ℕ → List Bool → Type 0
AreZonesLocked zones locks = (zone : ℕ) → zone < length locks → slice_index_or locks zone false ≡ list_any (λ other. other == zone) zones

-- a lock word a line, an occupancy word a page and a zone, and a lock a zone
pub record AreSized (words locks runs zones zone_locks : ℕ) : Type 0 where
  pub lines : locks ≡ words / 8
  pub pages : runs ≡ words / page_words
  pub zones_are : zones ≡ 32
  pub zone_locks_are : zone_locks ≡ 32

-- THE MEMORY MAY BE SEEN AS THIS VIEW. What else the view has is no concern of the memory
pub record Sees (m : Solo) (v : View) : Type 0 where
  pub fixed : IsFixed v.fixed m.stop (length m.words)
  pub words : AreKnown v.fixed.shape v.claims m.words
  pub occupancy : AreSeen v.occupancy m.runs m.zones
  pub changes : AreUndrained m.changes v.changes
  pub calls : IsCount m.stop m.calls (length v.calls)
  pub counter : IsCounter m.number v.entries v.number v.seen
  pub locks : AreLocked v.claims m.locks
  pub zone_locks : AreZonesLocked v.zones m.zone_locks
  pub sizes : AreSized (length m.words) (length m.locks) (length m.runs) (length m.zones) (length m.zone_locks)

-- one more counted call
abbrev pub counted : Solo → Solo
counted m = record m { calls = (m.calls + 1) % 2 ^ 64 }

-- a counted call is made, or the lane is at its stop number
abbrev pub IsDue : Solo → Type 0
IsDue m = ForSome m.stop (λ stop. m.calls < stop)

abbrev pub IsSpent : Solo → Type 0
IsSpent m = IsSomeAnd m.stop (λ stop. stop ≤ m.calls)

-- the change's word became x
abbrev pub with_change : Solo → Change → ℕ → Solo
with_change m c x = record m { words = slice_set m.words c.word x; changes = m.changes ++ c ∷ [] }

-- the memory after each counted call
abbrev pub after_store : Solo → ℕ → ℕ → Solo
after_store m w x = with_change (counted m) (store_change w (slice_index m.words w) x) x

abbrev pub after_or : Solo → ℕ → ℕ → Solo
after_or m w bits = let found = slice_index m.words w in with_change (counted m) (or_change w bits found) (bit_or found bits)

abbrev pub after_and : Solo → ℕ → ℕ → Solo
after_and m w bits = let found = slice_index m.words w in with_change (counted m) (and_change w bits found) (bit_and found bits)

abbrev pub after_flush : Solo → ℕ → Solo
after_flush m line = record (counted m) { changes = changes_flushed line m.changes }

abbrev pub after_drain : Solo → Solo
after_drain m = record (counted m) { changes = changes_drained m.changes }

-- the lane has said that it stopped
abbrev pub says_stopped : Solo → Solo
says_stopped m = record m { stopped = true }

-- what the memory asks of a step: places in range, room for a change, no idle flush or drain, no
-- lock that is held already
abbrev pub CanStep : Solo → Step → Type 0
CanStep m (Load w found) = w < length m.words
CanStep m (Store w x) = (w < length m.words) × CanAdd m.changes
CanStep m (Or w bits found) = (w < length m.words) × CanAdd m.changes
CanStep m (And w bits found) = (w < length m.words) × CanAdd m.changes
CanStep m (Flush line) = CanFlush line m.changes
CanStep m Drain = CanDrain m.changes
CanStep m (TakeWrite line won) = (line < length m.locks) × (slice_index m.locks line ≡ 0)
CanStep m (TakeRead line won) = (line < length m.locks) × (slice_index m.locks line ≡ 0)
CanStep m (Raise line won) = (line < length m.locks) × (slice_index m.locks line ≡ reader_bit 0)
CanStep m (Give line) = line < length m.locks
CanStep m (ZoneTry zone won) = (zone < length m.zone_locks) × (slice_index_or m.zone_locks zone false ≡ false)
CanStep m (ZoneGive zone) = zone < length m.zone_locks
CanStep m (Occupied at found) = HasWord m.runs m.zones at
CanStep m (Occupy at bits won) = HasWord m.runs m.zones at
CanStep m (Vacate at bits) = HasWord m.runs m.zones at
CanStep m (Draw n) = m.number < 2 ^ 62 + 32
CanStep m s = Unit {0}

-- the memory of these words before the first call, with these occupancy words
abbrev pub opened_with : List ℕ → Option ℕ → List ℕ → List ℕ → Solo
opened_with words stop runs zones = record {
  words = words;
  changes = [];
  calls = 0;
  stop = stop;
  number = 0;
  stopped = false;
  locks = replicate (length words / 8) 0;
  runs = runs;
  zones = zones;
  zone_locks = replicate 32 false;
}

-- and with none of their bits set
abbrev pub opened : List ℕ → Option ℕ → Solo
opened words stop = opened_with words stop (replicate (length words / page_words) 0) (replicate 32 0)

-- the memory with another occupancy word
abbrev pub with_occ : Solo → Occ → ℕ → Solo
with_occ m (Run place) word = record m { runs = slice_set m.runs (place / page_bytes) word }
with_occ m (Zone zone) word = record m { zones = slice_set m.zones zone word }

-- the memory with another lock word of a line, or with a zone's lock taken or free
abbrev pub with_lock : Solo → ℕ → ℕ → Solo
with_lock m line word = record m { locks = slice_set m.locks line word }

abbrev pub with_zone_lock : Solo → ℕ → Bool → Solo
with_zone_lock m zone taken = record m { zone_locks = slice_set m.zone_locks zone taken }

-- the line's lock word became this one, if there is one, and the answer is whether there is
abbrev pub SetsLock : Solo → Solo → ℕ → Option ℕ → Bool → Type 0
SetsLock old new line None won = (won ≡ false) × (new ≡ old)
SetsLock old new line (Some word) won = (won ≡ true) × (new ≡ with_lock old line word)
