-- WHERE THE SHARED WORDS LIE in the table: one sort after another, and of each sort as many as the pool has. Behind them lies a word a lane that says
-- nothing: a flush and a drain load it.
use Rattle.std.specs.Prelude.{ℕ, zero, suc, ◌+◌, ◌*◌, ◌/◌, ◌^◌, nat_lt, cond, ◌==◌, List, [], ◌∷◌, slice_index}
use Rattle.pm_layout.specs.Areas.{page_words, page_bytes}
use Rattle.pm_layout.specs.Chunks.{words_of}
use Rattle.pm_layout.specs.declared.shape.Shape.{Shape}
use Rattle.pm_world.specs.Memory.{Memory, Location, PoolWord, LockWord, RunWord, ZoneWord, ZoneLock, CommitCounter, StopWord}

-- the sorts in their order: words of the pool, lock words, occupancy words of pages and of zones, zones' locks, the counter, the stop word, the lanes'
abbrev pub sort_of : Location → ℕ
sort_of (PoolWord w) = 0
sort_of (LockWord line) = 1
sort_of (RunWord page) = 2
sort_of (ZoneWord zone) = 3
sort_of (ZoneLock zone) = 4
sort_of CommitCounter = 5
sort_of StopWord = 6

-- the number of a location among those of its sort
abbrev pub number_of : Location → ℕ
number_of (PoolWord w) = w
number_of (LockWord line) = line
number_of (RunWord page) = page
number_of (ZoneWord zone) = zone
number_of (ZoneLock zone) = zone
number_of CommitCounter = 0
number_of StopWord = 0

-- how many words there are of each sort
abbrev pub counts : Shape → List ℕ
counts sh = words_of sh ∷ words_of sh / 8 ∷ words_of sh / page_words ∷ sh.zones ∷ sh.zones ∷ 1 ∷ 1 ∷ sh.lanes ∷ []

abbrev pub count_of : Shape → ℕ → ℕ
count_of sh s = slice_index (counts sh) s

-- where a sort begins
abbrev pub start_of : Shape → ℕ → ℕ
start_of sh zero = 0
start_of sh (suc s) = start_of sh s + count_of sh s

abbrev pub table_size : Shape → ℕ
table_size sh = start_of sh 8

-- the word of the table that a location is; none of its words, where the pool does not have it
abbrev pub place : Shape → Location → ℕ
place sh l = cond (nat_lt (number_of l) (count_of sh (sort_of l))) (start_of sh (sort_of l) + number_of l) (table_size sh)

-- that of a run's occupancy word, by the place of its chunk in bytes
abbrev pub run_place : Shape → ℕ → ℕ
run_place sh at = place sh (RunWord (at / page_bytes))

-- the lane's own word that says nothing
abbrev pub pulse_place : Shape → ℕ → ℕ
pulse_place sh lane = start_of sh 7 + lane

-- WHAT A WORD OF THE TABLE SAYS. Where a lane writes, the readers' bits of a lock word say nothing: they are left by lanes that tried to read
abbrev pub lock_said : ℕ → ℕ
lock_said x = cond (x / 2 ^ 32 == 0) x (x / 2 ^ 32 * 2 ^ 32)

abbrev pub said : Location → ℕ → ℕ
said (LockWord line) x = lock_said x
said (PoolWord w) x = x
said (RunWord page) x = x
said (ZoneWord zone) x = x
said (ZoneLock zone) x = x
said CommitCounter x = x
said StopWord x = x

-- the memory of the world that the table's words are
abbrev pub memory_of : Shape → List ℕ → Memory
memory_of sh words l = said l (slice_index words (place sh l))
