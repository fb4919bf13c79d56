-- Which steps a lane may make, by its own view alone, whatever a load or a lock answers. A step that no line allows comes with its stage: raises.
use Rattle.std.specs.Prelude.{◌≡◌, ◌≢◌, ◌⊎◌, ℕ, ◌+◌, ◌-◌, ◌*◌, ◌/◌, ◌^◌, ◌<◌, ◌≤◌, ◌==◌, Bool, true, false, IsTrue, All, Any, Contains, List, [], ◌∷◌, ◌++◌, length, take, slice_index, None}
use Rattle.std.specs.Int.{bit_at}
use Rattle.std.specs.List.{list_any}
use Rattle.pm_layout.specs.Sizes.{blocks_of}
use Rattle.pm_record.specs.Redo.{redo_words}
use Rattle.pm_record.specs.declared.redo.Op.{Op}
use Rattle.pm_record.specs.declared.redo.Op.TheVariants as op
use Rattle.solo_view.specs.declared.change.Change.{Change}
use Rattle.solo_view.specs.declared.occ.Occ.{Occ}
use Rattle.solo_view.specs.declared.occ.Occ.TheVariants.{Run, Zone}
use Rattle.solo_view.specs.Area.{Part, part_of}
use Rattle.solo_view.specs.Bits.{all_bits}
use Rattle.solo_view.specs.Area.Part.{GenerationWord, SealWord, EntryWord, SlotWord, OtherWord}
use Rattle.solo_view.specs.Blocks.{bitmap_word, covers, descriptor_word, is_run, tells_nothing, zone_of}
use Rattle.solo_view.specs.Founds.{IsAlone}
use Rattle.solo_view.specs.Counts.{is_counted, MayCount, IsAtStop, HasRoom, FlushesSome, DropsSome}
use Rattle.solo_view.specs.Held.{is_under, is_known, is_reserved}
use Rattle.solo_view.specs.Log.{Phase, Recorded, Final}
use Rattle.solo_view.specs.Log.Phase.{Idle, Open, Drawn, Applying}
use Rattle.solo_view.specs.Rights.{is_written}
use Rattle.solo_view.specs.Steps.{Step}
use Rattle.solo_view.specs.Steps.Step.{Load, Store, Or, And, Flush, Drain, TakeWrite, TakeRead, Give, ZoneTry, ZoneGive, Occupied, Occupy, Vacate, Draw, NumberSeen, StopSeen, SetStop, Tell}
use Rattle.solo_view.specs.View.{View, Lock}
use Rattle.solo_view.specs.Views.{changes_heap, chunk_bit, exchanged, has_bit, has_chunk, is_made, zone_at}
use Rattle.solo_world.specs.Entries.{AreWhole, IsEnterable, IsEntryAt, IsKnownWord, ends_with, entry_word, final_by, is_entered, redo_on, set_word, KnowsOrs}
use Rattle.solo_world.specs.Heap.{IsOcc, holds_zone}
use Rattle.solo_world.specs.Opening.{IsChunk}
use Rattle.solo_world.specs.Records.{generation_of, slot_word, is_recorded, is_logged, spelled, AreRestored}

-- generations, and the numbers after which a call begins, are below this
abbrev pub generation_limit : ℕ
generation_limit = 2 ^ 62

-- a word that the record is to be of: it has this value, the lane may write it, and it has no record yet
pub record CanRecordWord (v : View) (w old : ℕ) : Type 0 where
  pub own : IsTrue (is_written v w)
  pub known : IsTrue (is_known v w)
  pub present : slice_index v.words w ≡ old
  pub new : is_recorded v.log.records w ≡ false

-- a record of one to four such words
pub record CanRecord (v : View) (r : Recorded) : Type 0 where
  pub some : 1 ≤ length r.old
  pub most : length r.old ≤ 4
  pub each : (i : ℕ) → i < length r.old → CanRecordWord v (r.word + i) (slice_index r.old i)

-- x is the next word of a record's slot: the slots are taken in order, and their words too
pub record AppendsToSlot (v : View) (w x : ℕ) (slot : List ℕ) : Type 0 where
  pub next : Recorded
  pub can : CanRecord v next
  pub spells : slot ++ x ∷ [] ≡ take (length slot + 1) (spelled (generation_of v) next)
  pub at : w ≡ slot_word v.lane (length v.log.records) + length slot
  pub free : length v.log.records < 64
  pub below : generation_of v < generation_limit

-- x is the next word of an entry's pair: the pairs are taken in order, and their words too, and the entry is of a word that it may be of
pub record AppendsToPair (v : View) (w x : ℕ) (pair : List ℕ) : Type 0 where
  pub op : Op
  pub word : ℕ
  pub value : ℕ
  pub may : IsEnterable v op word value
  pub spells : pair ++ x ∷ [] ≡ take (length pair + 1) (redo_words (redo_on op word value))
  pub at : w ≡ entry_word v.lane (length v.log.entries) + length pair
  pub free : length v.log.entries < 64
  pub below : generation_of v < generation_limit

-- the word may be written: it is under a write lock, and its record is drained
pub record MayWrite (v : View) (w : ℕ) : Type 0 where
  pub own : IsTrue (is_written v w)
  pub logged : IsTrue (is_logged v w)

-- the word may be filled: it is in a block that the lane reserved, and tells of no block
pub record MayFill (v : View) (w : ℕ) : Type 0 where
  pub reserved : IsTrue (is_reserved v w)
  pub plain : IsTrue (tells_nothing v.lanes v.words w)

-- an undrained change of all of a word that the lane may fill; no meaning reads the word
pub record FilledChange (v : View) (c : Change) : Type 0 where
  pub whole : c.mask ≡ all_bits
  pub may : MayFill v c.word

-- nothing is undrained but such words
abbrev pub OnlyFilled : View → Type 0
OnlyFilled v = All (FilledChange v) v.changes

-- A chunk that the lane reserved may become a run of some class: its descriptor is 0 so far, and its bitmap is 0 and persistent.
pub record MayDescribe (v : View) (w x : ℕ) : Type 0 where
  pub page : ℕ
  pub chunk : IsChunk v.lanes page
  pub at : w ≡ descriptor_word v.lanes page
  pub reserved : IsTrue (has_chunk v page)
  pub undescribed : slice_index v.words w ≡ 0
  pub known : IsTrue (is_known v (bitmap_word page))
  pub no_block : slice_index v.words (bitmap_word page) ≡ 0
  pub drained : All (λ (c : Change). c.word ≢ bitmap_word page) v.changes
  pub lines : ℕ
  pub some_blocks : 0 < blocks_of lines
  pub is : x ≡ 256 * lines + 1

-- x ends the generation of a call without entries: it is the next one, and nothing is undrained
pub record EndsGeneration (v : View) (x : ℕ) : Type 0 where
  pub next : x ≡ generation_of v + 1
  pub below : generation_of v < generation_limit
  pub drained : v.changes ≡ []
  pub unentered : v.log.entries ≡ []

-- x seals the entries: it is their number, the last of them ends the generation, the lane knows the words that some OR, and nothing is undrained
pub record SealsEntries (v : View) (x : ℕ) : Type 0 where
  pub all : x ≡ length v.log.entries
  pub whole : AreWhole v (generation_of v + 1)
  pub known : KnowsOrs v
  pub below : generation_of v < generation_limit
  pub drained : v.changes ≡ []

-- x seals the entries of a lane that is alone, which allocates or frees blocks by some of them: it is their number, the last of them ends the generation,
-- and nothing is undrained
pub record SealsAlone (v : View) (x : ℕ) : Type 0 where
  pub alone : IsAlone v
  pub heap : changes_heap v ≡ true
  pub all : x ≡ length v.log.entries
  pub front : List Final
  pub ends : v.log.entries ≡ front ++ ends_with v (generation_of v + 1) ∷ []
  pub below : generation_of v < generation_limit
  pub drained : v.changes ≡ []

-- the next entry makes word w be x
abbrev pub IsNextEntry : View → ℕ → ℕ → ℕ → Type 0
IsNextEntry v applied w x = IsEntryAt v applied (set_word w x)

-- x clears the seal: all entries are applied, and nothing is undrained
pub record ClearsSeal (v : View) (x applied : ℕ) : Type 0 where
  pub zero : x ≡ 0
  pub all : applied ≡ length v.log.entries
  pub drained : v.changes ≡ []

-- x ends the generation of a call that is given up: every recorded word has its old value, and no record and no entry is in the making
pub record GivesUp (v : View) (x : ℕ) (slot pair : List ℕ) : Type 0 where
  pub ends : EndsGeneration v x
  pub restored : AreRestored v
  pub whole : slot ≡ []
  pub no_pair : pair ≡ []

-- by how far the call has come, and what the word is to the lane: in a block that it reserved it may store what it likes, and it may make a chunk that it
-- reserved a run
abbrev pub StoreFits : View → ℕ → ℕ → Phase → Part → Type 0
StoreFits v w x (Open slot pair) SlotWord = AppendsToSlot v w x slot
StoreFits v w x (Open slot pair) OtherWord = MayWrite v w ⊎ (MayFill v w ⊎ MayDescribe v w x)
StoreFits v w x (Open slot pair) EntryWord = AppendsToPair v w x pair
StoreFits v w x (Open slot pair) GenerationWord = GivesUp v x slot pair
StoreFits v w x Drawn GenerationWord = EndsGeneration v x
StoreFits v w x Drawn SealWord = SealsEntries v x ⊎ SealsAlone v x
StoreFits v w x (Applying applied) OtherWord = IsNextEntry v applied w x
StoreFits v w x (Applying applied) GenerationWord = IsNextEntry v applied w x
StoreFits v w x (Applying applied) SealWord = ClearsSeal v x applied
StoreFits v w x phase part = ⊥

pub record MayStore (v : View) (w x : ℕ) : Type 0 where
  pub inside : w < length v.words
  pub room : HasRoom v.changes
  pub fits : StoreFits v w x v.log.phase (part_of v.lane w)

-- by how far the call has come, and what the word is to the lane: the next entry sets or clears these bits of it, also where another operation
-- does so, as a SET of all bits
abbrev pub BitsFit : View → Op → ℕ → ℕ → Phase → Part → Type 0
BitsFit v op w bits (Applying applied) OtherWord = (ors : Bool) × IsEntryAt v applied (record (final_by op w bits) { ors = ors })
BitsFit v op w bits phase part = ⊥

-- the lane is alone, and has each word as it is; it allocates or frees blocks
pub record ChangesAlone (v : View) (w : ℕ) : Type 0 where
  pub alone : IsAlone v
  pub heap : changes_heap v ≡ true
  pub small : slice_index v.words w < 2 ^ 64

-- bits of a word may be set or cleared, which the lane knows, and so what is found there
pub record MayChange (v : View) (op : Op) (w bits : ℕ) : Type 0 where
  pub inside : w < length v.words
  pub room : HasRoom v.changes
  pub fits : BitsFit v op w bits v.log.phase (part_of v.lane w)
  pub known : IsKnownWord v w ⊎ ChangesAlone v w
  pub word : bits < 2 ^ 64

-- locks are taken before the draw
abbrev pub IsEarly : Phase → Type 0
IsEarly Idle = Unit {0}
IsEarly (Open slot pair) = Unit {0}
IsEarly phase = ⊥

-- the lane holds the line's lock
abbrev pub is_holder : List Lock → ℕ → Bool
is_holder locks line = list_any (λ (l : Lock). l.line == line) locks

pub record MayTake (v : View) (line : ℕ) : Type 0 where
  pub inside : line < length v.words / 8
  pub free : is_holder v.locks line ≡ false
  pub early : IsEarly v.log.phase

-- a lock goes back where nothing was found under it, or once the call's log is retired and nothing undrained lies under it
abbrev pub GiveFits : View → Lock → Phase → Type 0
GiveFits v l Idle = All (λ (c : Change). is_under c.word l ≡ false) v.changes
GiveFits v l (Open slot pair) = l.block ≡ None
GiveFits v l phase = ⊥

pub record MayGive (v : View) (line : ℕ) : Type 0 where
  pub inside : line < length v.words / 8
  pub held : is_holder v.locks line ≡ true
  pub fits : All (λ (l : Lock). l.line ≡ line → GiveFits v l v.log.phase) v.locks

-- nothing is undrained, or, of a call that has no record and no entry, nothing but words that the lane may fill
abbrev pub HasDrained : View → Type 0
HasDrained v = (v.changes ≡ []) ⊎ ((v.log.records ≡ []) × (v.log.entries ≡ []) × OnlyFilled v)

-- the call draws its one number, having seen a number below the limit, with no record in the making
pub record MayDraw (v : View) : Type 0 where
  pub is_open : v.log.phase ≡ Open [] []
  pub first : v.number ≡ None
  pub drained : HasDrained v
  pub found : ℕ
  pub seen : Contains v.seen (NumberSeen found)
  pub below : found < generation_limit
  -- where it has entries, one of them at least changes the pool
  pub entered : (v.log.entries ≡ []) ⊎ (Any (λ (f : Final). IsTrue (is_written v f.word)) v.log.entries ⊎ IsTrue (changes_heap v))

-- operations are told while the call is open
abbrev pub MayTell : Phase → Type 0
MayTell (Open slot pair) = Unit {0}
MayTell phase = ⊥

-- the pool has the occupancy word, and it lies in the words that the view has; no pool has more than 32 zones
abbrev pub LiesInside : View → Occ → Type 0
LiesInside v (Run place) = place / 4096 < length v.words / 512
LiesInside v (Zone zone) = zone < 32

pub record HasOcc (v : View) (at : Occ) : Type 0 where
  pub of_pool : IsOcc v.lanes v.zones at
  pub inside : LiesInside v at

-- bits are one block's of a run, or those of chunks of a zone that lie one after another
abbrev pub IsOneBlock : Occ → ℕ → Type 0
IsOneBlock (Run place) bits = (block : ℕ) × (bits ≡ 2 ^ block)
IsOneBlock (Zone zone) bits = (first : ℕ) × (count : ℕ) × (bits ≡ 2 ^ first * (2 ^ count - 1))

-- chunks are taken under the zone's lock
abbrev pub IsLocked : View → Occ → Type 0
IsLocked v (Run place) = Unit {0}
IsLocked v (Zone zone) = holds_zone v zone ≡ true

-- blocks are taken of what the lane saw to be a run
abbrev pub IsSeenRun : View → Occ → Type 0
IsSeenRun v (Run place) = IsTrue (is_run (slice_index v.words (descriptor_word v.lanes (place / 4096))))
IsSeenRun v (Zone zone) = Unit {0}

-- a lane tries to take what these bits are of before its call's draw
pub record MayOccupy (v : View) (at : Occ) (bits : ℕ) : Type 0 where
  pub there : HasOcc v at
  pub small : bits < 2 ^ 64
  pub one : IsOneBlock at bits
  pub locked : IsLocked v at
  pub run : IsSeenRun v at
  pub early : IsEarly v.log.phase

-- A chunk that the lane made a run is given back by its blocks alone, and first when nothing of it is undrained.
abbrev pub IsGivenWhole : View → Occ → ℕ → Type 0
IsGivenWhole v (Run place) bits =
    let page = place / 4096 in
    is_made v page ≡ true → All (λ (c : Change). covers v.lanes v.words (zone_at v.lanes page) (2 ^ chunk_bit v.lanes page) c.word ≡ false) v.changes
IsGivenWhole v (Zone zone) bits = (page : ℕ) → IsChunk v.lanes page → zone_of v.lanes page ≡ zone → bit_at bits (chunk_bit v.lanes page) ≡ 1 → is_made v page ≡ false

-- the lane has what the bit is of: it reserved it, or the chunk of the run that it made, or it freed it
abbrev pub MayGiveBit : View → Occ → ℕ → Type 0
MayGiveBit v at bit = (list_any (has_bit at bit) (exchanged v at) ≡ true) ⊎ (list_any (has_bit at bit) v.freed ≡ true)

-- A lane gives back what it reserved, or blocks of a run that it made of a chunk that it reserved, or what it freed: nothing undrained is of it, nor any
-- record or entry of its log.
pub record MayVacate (v : View) (at : Occ) (bits : ℕ) : Type 0 where
  pub there : HasOcc v at
  pub small : bits < 2 ^ 64
  pub own : (bit : ℕ) → bit_at bits bit ≡ 1 → MayGiveBit v at bit
  pub whole : IsGivenWhole v at bits
  pub drained : All (λ (c : Change). covers v.lanes v.words at bits c.word ≡ false) v.changes
  pub unlogged : (w : ℕ) → covers v.lanes v.words at bits w ≡ true → (is_recorded v.log.records w ≡ false) × (is_entered v.log.entries w ≡ false)
  pub early : IsEarly v.log.phase

-- a zone's lock is tried once where the lane does not hold it, and given back where it does
pub record MayTryZone (v : View) (zone : ℕ) : Type 0 where
  pub inside : zone < v.zones
  pub few : zone < 32
  pub free : holds_zone v zone ≡ false
  pub early : IsEarly v.log.phase

pub record MayGiveZone (v : View) (zone : ℕ) : Type 0 where
  pub inside : zone < v.zones
  pub few : zone < 32
  pub held : holds_zone v zone ≡ true

-- the lane may ask for the step
abbrev pub Allowed : View → Step → Type 0
Allowed v (Load w found) = w < length v.words
Allowed v (Store w x) = MayStore v w x
Allowed v (Or w bits found) = MayChange v op.Or w bits
Allowed v (And w bits found) = MayChange v op.And w bits
Allowed v (Flush line) = FlushesSome line v.changes
Allowed v Drain = DropsSome v.changes
Allowed v (TakeWrite line won) = MayTake v line
Allowed v (TakeRead line won) = MayTake v line
Allowed v (Give line) = MayGive v line
Allowed v (ZoneTry zone won) = MayTryZone v zone
Allowed v (ZoneGive zone) = MayGiveZone v zone
Allowed v (Occupied at found) = HasOcc v at
Allowed v (Occupy at bits won) = MayOccupy v at bits
Allowed v (Vacate at bits) = MayVacate v at bits
Allowed v (Draw n) = MayDraw v
Allowed v (NumberSeen n) = Unit {0}
Allowed v (StopSeen set) = Unit {0}
Allowed v SetStop = IsAtStop v
Allowed v (Tell operation reply) = MayTell v.log.phase
Allowed v s = ⊥

-- the lane makes the step: it may, and a counted call is not beyond its stop number
pub record IsLawful (v : View) (s : Step) : Type 0 where
  pub allowed : Allowed v s
  pub due : is_counted s ≡ true → MayCount v
