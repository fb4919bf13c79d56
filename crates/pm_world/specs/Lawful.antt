-- WHICH STEPS A LANE MAY MAKE, by its own view alone, whatever a load or a lock answers.
use Rattle.std.specs.Prelude.{◌≡◌, ◌≢◌, ◌⊎◌, ℕ, zero, suc, ◌+◌, ◌-◌, ◌*◌, ◌/◌, ◌^◌, ◌<◌, ◌≤◌, ◌==◌, ◌&&◌, ◌||◌, nat_le, Bool, true, false, not, IsTrue, All, Contains, List, [], ◌∷◌, ◌++◌, length, slice_index, take, Option, None, Some, IfSome, IsSomeAnd}
use Rattle.std.specs.Int.{bit_at}
use Rattle.std.specs.List.{list_any}
use Rattle.pm_layout.specs.Areas.{page_words, page_bytes, greatest_generation, undo_slots, old_words, redo_entries, word_of_generation, word_of_seal, word_of_entry, line_of_slot}
use Rattle.pm_layout.specs.Chunks.{words_of, chunks_of, word_of_chunk, word_of_descriptor, page_of_chunk}
use Rattle.pm_layout.specs.Sizes.{blocks_of}
use Rattle.pm_record.specs.Redo.{op_code}
use Rattle.pm_record.specs.declared.redo.Op.{Op}
use Rattle.pm_record.specs.declared.redo.Op.TheVariants as op
use Rattle.pm_objects.specs.declared.calls.Operation.{Operation}
use Rattle.pm_objects.specs.declared.calls.Operation.TheVariants.{Reserve, Publish, Cancel}
use Rattle.pm_objects.specs.declared.history.Value.{Value}
use Rattle.pm_objects.specs.declared.history.Value.TheVariants.{Offset}
use Rattle.pm_view.specs.declared.occ.Occ.{Occ}
use Rattle.pm_view.specs.declared.occ.Occ.TheVariants.{Run, Zone}
use Rattle.pm_view.specs.Changes.{Undrained}
use Rattle.pm_view.specs.Places.{Place, InRun, InHuge, Descr, RootWord, Block, Small, Big, Root, block_of, is_data, word_of, place_after, is_place}
use Rattle.pm_view.specs.Entries.{Entry, given_bit, latest, redos, turn}
use Rattle.pm_view.specs.Parts.{Part, GenerationPart, SealPart, EntryPart, SlotPart, RootPart, DescriptorPart, ChunkPart}
use Rattle.pm_view.specs.Log.{Phase, Idle, Open, Drawn, Applying, Recorded, is_early, place_at}
use Rattle.pm_view.specs.Claims.{locked, reads, holds, class, making, header_in, found, here, mine, span, first, geometry, block_at, passes, is_among, run_chunk}
use Rattle.pm_view.specs.Counts.{is_counted, MayCount, IsAtStop, HasRoom, FlushesSome, DropsSome}
use Rattle.pm_view.specs.Founds.{knows}
use Rattle.pm_view.specs.Steps.{Step}
use Rattle.pm_view.specs.Steps.Step.{Load, Store, Or, And, Flush, Drain, TakeWrite, TakeRead, Raise, Give, ZoneTry, ZoneGive, Occupied, Occupy, Vacate, Draw, NumberSeen, StopSeen, SetStop, Tell}
use Rattle.pm_view.specs.View.{View, Told}
use Rattle.pm_view.specs.Views.{part_in, value_in}
use Rattle.pm_world.specs.States.{given, root_line}
use Rattle.pm_world.specs.Sights.{is_recorded, is_logged, picture}
use Rattle.pm_world.specs.Lanes.{all_held}
use Rattle.pm_world.specs.Logs.{spelled, EntryOf, AreInRow, AreWhole, AreRestored}

-- ---- words of the view

-- a place's block, and the word's distance from the block's header; 0 for a place that is no data
abbrev pub place_in : View → ℕ → Option Place
place_in v w = place_at v.fixed.shape (class v.claims) w

abbrev pub block_in : View → Place → ℕ → Block
block_in v p b = block_of (geometry v.fixed.shape v.claims) p b

abbrev pub offset_in : View → Place → ℕ
offset_in v (InRun c w) = w - 8 * (1 + class v.claims c * ((w / 8 - 1) / class v.claims c))
offset_in v (InHuge c w) = page_words * (c - first v.fixed.shape v.claims c) + w
offset_in v (Descr c) = 0
offset_in v RootWord = 0

-- the word that has the size of the object that a data word is in
abbrev pub size_in : View → Place → ℕ
size_in v (InRun c w) = word_of_chunk v.fixed.shape c + (8 * (1 + class v.claims c * ((w / 8 - 1) / class v.claims c)) + 1)
size_in v (InHuge c w) = word_of_chunk v.fixed.shape (first v.fixed.shape v.claims c) + 1
size_in v (Descr c) = 0
size_in v RootWord = 0

abbrev pub is_mine : View → Block → Bool
is_mine v B = mine v.fixed.shape v.claims B

abbrev pub is_here : View → Block → Bool
is_here v B = here v.fixed.shape v.claims B

-- of a block's words those that its own lock guards: type, first member, and the data; and the links are guarded by a list's lock. The size stays
abbrev pub is_guarded : ℕ → Bool
is_guarded offset = offset == 0 || offset == 5 || nat_le 8 offset

-- the lines that guard the root word, by the value that the lane knows of it: line 0 and the root object's
abbrev pub HoldsRoot : View → ℕ → Type 0
HoldsRoot v x = all_held (locked v.claims) (0 ∷ root_line x) ≡ true

-- THE LANE MAY CHANGE THE WORD ITSELF: it is data of an object found under its write lock, or the root word under its guards
abbrev pub MayChangeAt : View → Place → Type 0
MayChangeAt v (InRun c w) = IsTrue (is_here v (block_in v (InRun c w) 64)) × IsTrue (is_data (InRun c w)) × IsTrue (is_guarded (offset_in v (InRun c w)))
MayChangeAt v (InHuge c w) = IsTrue (is_here v (block_in v (InHuge c w) 64)) × IsTrue (is_guarded (offset_in v (InHuge c w)))
MayChangeAt v (Descr c) = ⊥
MayChangeAt v RootWord = IsSomeAnd (value_in v (word_of v.fixed.shape RootWord)) (λ x. HoldsRoot v x)

-- ---- STORES IN AN UNDO SLOT: the slots are taken in order, and their words too; a record is of one to four present values of words that the lane may
-- change, none of them recorded before, and no entry is stored yet
pub record IsRecordable (v : View) (p : Place) (x : ℕ) : Type 0 where
  pub own : MayChangeAt v p
  pub plain : is_data p ≡ true
  pub place : is_place v.fixed.shape p ≡ true
  pub use_ : place_in v (word_of v.fixed.shape p) ≡ Some p
  pub present : knows v (word_of v.fixed.shape p) ≡ Some x
  pub new : is_recorded v.log.records p ≡ false

-- and the word is in a line that its object has
pub record CanRecordAt (v : View) (p : Place) (x : ℕ) : Type 0 where
  pub word : IsRecordable v p x
  pub small : x < 2 ^ 64
  pub size : ℕ
  pub sized : knows v (size_in v p) ≡ Some size
  pub within : offset_in v p / 8 ≤ (size + 63) / 64

pub record CanRecord (v : View) (r : Recorded) : Type 0 where
  pub some : 1 ≤ length r.old
  pub most : length r.old ≤ old_words v.fixed.shape
  pub each : (i : ℕ) → i < length r.old → CanRecordAt v (place_after r.place i) (slice_index r.old i)
  pub use_ : place_in v (word_of v.fixed.shape r.place) ≡ Some r.place
  pub row : AreInRow v.fixed.shape r

pub record AppendsToSlot (v : View) (w x : ℕ) : Type 0 where
  pub next : Recorded
  pub can : CanRecord v next
  pub spells : v.log.slot ++ x ∷ [] ≡ take (length v.log.slot + 1) (spelled v.fixed.shape v.log.generation next)
  pub at : w ≡ 8 * line_of_slot v.fixed.shape v.fixed.lane (length v.log.records) + length v.log.slot
  pub free : length v.log.records < undo_slots v.fixed.shape
  pub below : v.log.generation < greatest_generation v.fixed.shape
  pub unentered : v.log.entries ≡ []

-- ---- STORES OF AN ENTRY: the pairs are taken in order, and their words too; the entry's bits are under a right. It changes data that the lane may change or
-- that is in a block of its own; or it allocates blocks of the lane's own, or frees blocks that are found under its lock; or it ends the generation
abbrev pub EntersBitmap : View → ℕ → Op → ℕ → Type 0
EntersBitmap v c how value = (how ≢ op.Set) × ((b : ℕ) (y : Bool) → given_bit how value b ≡ Some y → (y ≡ true → IsTrue (is_mine v (Small c b))) × (y ≡ false → IsTrue (is_here v (Small c b))))

abbrev pub EntersDescriptor : View → ℕ → Op → ℕ → Type 0
EntersDescriptor v c how value = (how ≡ op.Set) × (making v.fixed.shape v.claims c ≡ false)
    × (((value ≡ 2 + 256 * span v.fixed.shape v.claims c) × IsTrue (is_mine v (Big c))) ⊎ ((value ≡ 0) × IsTrue (is_here v (Big c))))

-- data of a block of the lane's own, after its header's words
abbrev pub IsOwnData : View → Place → Type 0
IsOwnData v p = IsTrue (is_data p) × IsTrue (is_mine v (block_in v p 64)) × (8 ≤ offset_in v p)

abbrev pub EntersAt : View → Place → Op → ℕ → Type 0
EntersAt v (InRun c zero) how value = EntersBitmap v c how value
EntersAt v (InRun c (suc w)) how value = MayChangeAt v (InRun c (suc w)) ⊎ IsOwnData v (InRun c (suc w))
EntersAt v (InHuge c w) how value = MayChangeAt v (InHuge c w) ⊎ IsOwnData v (InHuge c w)
EntersAt v (Descr c) how value = EntersDescriptor v c how value
EntersAt v RootWord how value = MayChangeAt v RootWord × (how ≡ op.Set) × HoldsRoot v value

-- the word that the entry is of is a place where that may be, or the lane's generation, which becomes the next one
abbrev pub EntersWord : View → ℕ → Op → ℕ → Option Place → Type 0
EntersWord v w how value (Some p) = EntersAt v p how value
EntersWord v w how value None = (w ≡ word_of_generation v.fixed.shape v.fixed.lane) × (how ≡ op.Set) × (value ≡ v.log.generation + 1)

pub record AppendsToPair (v : View) (w x : ℕ) : Type 0 where
  pub how : Op
  pub word : ℕ
  pub value : ℕ
  pub may : EntersWord v word how value (place_in v word)
  pub gives : IfSome (place_in v word) (λ p. EntryOf p how value)
  pub small : value < 2 ^ 64
  pub spells : v.log.pair ++ x ∷ [] ≡ take (length v.log.pair + 1) ((8 * word + op_code how) ∷ value ∷ [])
  pub at : w ≡ word_of_entry v.fixed.shape v.fixed.lane (length v.log.entries) + length v.log.pair
  pub free : length v.log.entries < redo_entries v.fixed.shape
  pub below : v.log.generation < greatest_generation v.fixed.shape

-- ---- STORES OF A USER WORD: its record is drained; or it is in a block of the lane's own
pub record MayWrite (v : View) (w : ℕ) : Type 0 where
  pub place : Place
  pub at : place_in v w ≡ Some place
  pub logged : IsTrue (is_logged v.fixed.shape v.fixed.lane v.changes v.log.records place)
  pub unentered : v.log.entries ≡ []

pub record MayFill (v : View) (w : ℕ) : Type 0 where
  pub place : Place
  pub at : place_in v w ≡ Some place
  pub plain : is_data place ≡ true
  pub own : is_mine v (block_in v place 64) ≡ true
  pub unentered : v.log.entries ≡ []

-- ---- A CHUNK IS MADE A RUN of a class: it is one chunk of the lane's own, its bitmap is 0 and nothing of it is undrained, and no entry is stored
pub record MayMark (v : View) (c x : ℕ) : Type 0 where
  pub lines : ℕ
  pub is : x ≡ 1 + 256 * lines
  pub some_blocks : 0 < blocks_of lines
  pub own : is_mine v (Big c) ≡ true
  pub one : span v.fixed.shape v.claims c ≡ 1
  pub unknown : class v.claims c ≡ 0
  pub no_block : knows v (word_of_chunk v.fixed.shape c) ≡ Some 0
  pub clear : value_in v (word_of_descriptor v.fixed.shape c) ≡ Some 0
  pub drained : All (λ (u : Undrained). u.word / page_words ≢ page_of_chunk v.fixed.shape c) v.changes
  pub unentered : v.log.entries ≡ []

-- ---- STORES THAT DECIDE: of the seal, once the number is drawn and all is drained, with all entries, the last of which ends the generation; of the next
-- generation for a call without entries. The lane knows what the word was, so that a crash image may have that
pub record Seals (v : View) (x : ℕ) : Type 0 where
  pub all : x ≡ length v.log.entries
  pub known : value_in v (word_of_seal v.fixed.shape v.fixed.lane) ≡ Some 0
  pub whole : AreWhole v.fixed.shape v.fixed.lane v.log
  pub below : v.log.generation < greatest_generation v.fixed.shape
  pub drained : v.changes ≡ []

pub record EndsGeneration (v : View) (x : ℕ) : Type 0 where
  pub next : x ≡ v.log.generation + 1
  pub known : value_in v (word_of_generation v.fixed.shape v.fixed.lane) ≡ Some v.log.generation
  pub below : v.log.generation < greatest_generation v.fixed.shape
  pub drained : v.changes ≡ []
  pub unentered : v.log.entries ≡ []

-- of a call that is aborted, whose recorded words have their old values
pub record Voids (v : View) (x : ℕ) : Type 0 where
  pub ends : EndsGeneration v x
  pub restored : AreRestored (picture v.fixed.shape v.claims) v.log.records
  pub whole : (v.log.slot ≡ []) × (v.log.pair ≡ [])

-- ---- ENTRIES ARE APPLIED IN ORDER, once the seal is drained; the seal is cleared once all are, and nothing is undrained
abbrev pub IsNext : List Entry → ℕ → Op → ℕ → Type 0
IsNext [] w op value = ⊥
IsNext (e ∷ todo) w op value = (e.word ≡ w) × (e.op ≡ op) × (e.value ≡ value)

pub record Clears (v : View) (x : ℕ) (todo : List Entry) : Type 0 where
  pub zero_ : x ≡ 0
  pub known : value_in v (word_of_seal v.fixed.shape v.fixed.lane) ≡ Some (length v.log.entries)
  pub all : todo ≡ []
  pub drained : v.changes ≡ []

-- by how far the call has come, and what the word is to the lane
abbrev pub StoreFits : View → ℕ → ℕ → Phase → Part → Type 0
StoreFits v w x Idle (ChunkPart c i) = MayFill v w
StoreFits v w x Open SlotPart = AppendsToSlot v w x
StoreFits v w x Open EntryPart = AppendsToPair v w x
StoreFits v w x Open (ChunkPart c i) = MayWrite v w ⊎ MayFill v w
StoreFits v w x Open (DescriptorPart c) = MayMark v c x
StoreFits v w x Open GenerationPart = Voids v x
StoreFits v w x (Drawn n) GenerationPart = EndsGeneration v x
StoreFits v w x (Drawn n) SealPart = Seals v x
StoreFits v w x (Applying todo) GenerationPart = IsNext todo w op.Set x × (value_in v w ≡ Some v.log.generation)
StoreFits v w x (Applying todo) RootPart = IsNext todo w op.Set x
StoreFits v w x (Applying todo) (DescriptorPart c) = IsNext todo w op.Set x
StoreFits v w x (Applying todo) (ChunkPart c i) = IsNext todo w op.Set x
StoreFits v w x (Applying todo) SealPart = Clears v x todo
StoreFits v w x phase part = ⊥

pub record MayStore (v : View) (w x : ℕ) : Type 0 where
  pub inside : w < words_of v.fixed.shape
  pub room : HasRoom v.changes
  pub small : x < 2 ^ 64
  pub fits : StoreFits v w x v.log.phase (part_in v w)

abbrev pub ChangeFits : View → Op → ℕ → ℕ → Phase → Part → Type 0
ChangeFits v op w bits (Applying todo) (ChunkPart c i) = IsNext todo w op bits
ChangeFits v op w bits (Applying todo) (DescriptorPart c) = IsNext todo w op bits
ChangeFits v op w bits phase part = ⊥

pub record MayChange (v : View) (op : Op) (w bits : ℕ) : Type 0 where
  pub inside : w < words_of v.fixed.shape
  pub room : HasRoom v.changes
  pub small : bits < 2 ^ 64
  pub fits : ChangeFits v op w bits v.log.phase (part_in v w)

-- ---- LOCKS are taken before the number is drawn, where no lock of the line is held, and raised where it is held for reading
pub record MayTake (v : View) (line : ℕ) : Type 0 where
  pub inside : line < words_of v.fixed.shape / 8
  pub free : holds v.claims line ≡ false
  pub early : is_early v.log.phase ≡ true

pub record MayRaise (v : View) (line : ℕ) : Type 0 where
  pub inside : line < words_of v.fixed.shape / 8
  pub held : reads v.claims line ≡ true
  pub early : is_early v.log.phase ≡ true

-- a lock goes back once the call's number is drawn and its log is retired and drained; or, where nothing was found under it, as long as no entry changes the
-- root word, which the line may guard
abbrev pub GiveFits : View → ℕ → Phase → Type 0
GiveFits v line Idle = Unit {0}
GiveFits v line Open = ((B : Block) → found v.fixed.shape v.claims B ≡ true → header_in v.fixed.shape v.claims B ≢ line)
    × All (λ (e : Entry). e.place ≢ Some RootWord) v.log.entries
GiveFits v line phase = ⊥

pub record MayGive (v : View) (line : ℕ) : Type 0 where
  pub inside : line < words_of v.fixed.shape / 8
  pub held : holds v.claims line ≡ true
  pub fits : GiveFits v line v.log.phase

-- ---- OCCUPANCY BITS: of one block of a run that the lane knows, or of chunks of a zone that lie one after another, under the zone's lock
abbrev pub HasOcc : View → Occ → Type 0
HasOcc v (Run place) = (c : ℕ) × (c < chunks_of v.fixed.shape) × (place ≡ page_bytes * page_of_chunk v.fixed.shape c)
HasOcc v (Zone zone) = zone < v.fixed.shape.zones

abbrev pub IsOneBlock : Occ → ℕ → Type 0
IsOneBlock (Run place) bits = (block : ℕ) × (block < 64) × (bits ≡ 2 ^ block)
IsOneBlock (Zone zone) bits = (first : ℕ) × (count : ℕ) × (1 ≤ count) × (first + count ≤ 64) × (bits ≡ 2 ^ first * (2 ^ count - 1))

abbrev pub IsOpenTo : View → Occ → Type 0
IsOpenTo v (Run place) = class v.claims (run_chunk v.fixed.shape place) ≢ 0
IsOpenTo v (Zone zone) = list_any (λ other. other == zone) v.zones ≡ true

pub record MayOccupy (v : View) (at : Occ) (bits : ℕ) : Type 0 where
  pub there : HasOcc v at
  pub one : IsOneBlock at bits
  pub open_ : IsOpenTo v at
  pub early : is_early v.log.phase ≡ true

-- each bit is of a block of the lane's own that is no run in the making, and a huge block's bits go together
abbrev pub GivesWhole : View → Occ → ℕ → Type 0
GivesWhole v (Run place) bits = (i : ℕ) → bit_at bits i ≡ 1 → is_mine v (Small (run_chunk v.fixed.shape place) i) ≡ true
GivesWhole v (Zone zone) bits = (i : ℕ) → bit_at bits i ≡ 1 → i < 64
    × ((f : ℕ) × (is_mine v (Big (64 * zone + f)) ≡ true) × (making v.fixed.shape v.claims (64 * zone + f) ≡ false) × (f ≤ i) × (i < f + span v.fixed.shape v.claims (64 * zone + f))
    × ((m : ℕ) → f ≤ m → m < f + span v.fixed.shape v.claims (64 * zone + f) → bit_at bits m ≡ 1))

-- the word is in one of these blocks
abbrev pub is_in_blocks : View → Occ → ℕ → ℕ → Bool
is_in_blocks v at bits w = passes (is_among v.fixed.shape at bits) (block_at v.fixed.shape v.claims w)

-- the operation's reply names one of these blocks
abbrev pub names_by : View → Occ → ℕ → Option Value → Bool
names_by v at bits (Some (Offset off)) = is_in_blocks v at bits (off / 8)
names_by v at bits reply = false

abbrev pub names : View → Occ → ℕ → Told → Bool
names v at bits t = names_by v at bits t.reply

-- what was reserved before these operations is cancelled by them, and was not published before
abbrev pub cancels : Operation → Option Value → Bool → Bool
cancels Cancel None later = true
cancels Publish None later = false
cancels operation reply later = later

abbrev pub is_cancelled : List Told → Bool
is_cancelled [] = false
is_cancelled (t ∷ later) = cancels t.operation t.reply (is_cancelled later)

abbrev pub is_reserve : Operation → Bool
is_reserve (Reserve size kind) = true
is_reserve operation = false

-- no reply of these operations names a block of these, but that of a reservation that later ones of them cancel
abbrev pub IsUnnamed : View → Occ → ℕ → List Told → Type 0
IsUnnamed v at bits [] = Unit {0}
IsUnnamed v at bits (t ∷ later) = ((names v at bits t && not (is_reserve t.operation && is_cancelled later)) ≡ false) × IsUnnamed v at bits later

-- the entry changes no bit of these blocks
abbrev pub IsApartFrom : View → Occ → ℕ → Entry → Type 0
IsApartFrom v at bits e = (p : Place) (b : ℕ) → e.place ≡ Some p → given (given_bit e.op e.value b) ≡ true → is_among v.fixed.shape at bits (block_in v p b) ≡ false

-- A LANE GIVES BACK blocks of its own: nothing undrained is in them, no entry changes a bit of them, and its call is not in flight or to be applied. Before the call has its number none goes back that a reply of the call names, but for a cancelled reservation, nor one that the call published
pub record MayVacate (v : View) (at : Occ) (bits : ℕ) : Type 0 where
  pub there : HasOcc v at
  pub small : bits < 2 ^ 64
  pub whole : GivesWhole v at bits
  pub drained : All (λ (u : Undrained). is_in_blocks v at bits u.word ≡ false) v.changes
  pub unentered : All (IsApartFrom v at bits) v.log.entries
  pub early : is_early v.log.phase ≡ true
  pub unnamed : v.log.phase ≡ Open → IsUnnamed v at bits v.call
  pub unpublished : v.log.phase ≡ Open → All (λ (t : Told). names v at bits t ≡ false) v.published

-- ---- A NUMBER IS DRAWN once a call, which saw a number below the limit, with no record and no entry in the making and all drained; or, of a call that has
-- none, all but words of blocks of its own. The new blocks are marked, and their lines that their objects have are stored
pub record IsInitialised (v : View) (B : Block) (word : ℕ → ℕ) (lines : ℕ) : Type 0 where
  pub marked : locked v.claims (header_in v.fixed.shape v.claims B) ≡ true
  pub size : ℕ
  pub sized : value_in v (word 1) ≡ Some size
  pub some : 1 ≤ size
  pub small : size < 2 ^ 64
  pub fits : (size + 63) / 64 < lines
  pub filled : (l i : ℕ) → l ≤ (size + 63) / 64 → i < 8 → value_in v (word (8 * l + i)) ≢ None

-- the words of a block, and its lines
abbrev pub NewBlock : View → Block → Type 0
NewBlock v (Small c i) = IsInitialised v (Small c i) (λ n. word_of_chunk v.fixed.shape c + 8 * (1 + class v.claims c * i) + n) (class v.claims c)
NewBlock v (Big f) = IsInitialised v (Big f) (λ n. word_of_chunk v.fixed.shape f + n) (64 * span v.fixed.shape v.claims f)
NewBlock v Root = ⊥

abbrev pub is_chunk_part : Part → Bool
is_chunk_part (ChunkPart c i) = true
is_chunk_part part = false

abbrev pub FilledChange : View → Undrained → Type 0
FilledChange v u = (is_chunk_part (part_in v u.word) ≡ true) × (passes (is_mine v) (block_at v.fixed.shape v.claims u.word) ≡ true)

-- the lane has locked the lines that are to guard the root word
abbrev pub KeepsRoot : View → Entry → Type 0
KeepsRoot v e = e.place ≡ Some RootWord → (e.op ≡ op.Set) × (e.value < 2 ^ 64) × HoldsRoot v e.value

abbrev pub HasDrained : View → Type 0
HasDrained v = (v.changes ≡ []) ⊎ ((v.log.records ≡ []) × (v.log.entries ≡ []) × All (FilledChange v) v.changes)

pub record MayDraw (v : View) : Type 0 where
  pub is_open : v.log.phase ≡ Open
  pub whole : (v.log.slot ≡ []) × (v.log.pair ≡ [])
  pub first : v.number ≡ None
  pub drained : HasDrained v
  pub found : ℕ
  pub seen : Contains v.seen (NumberSeen found)
  pub below : found < greatest_generation v.fixed.shape
  pub new_blocks : (B : Block) → turn (latest (redos v.log.entries)) B ≡ Some true → NewBlock v B
  pub root : All (KeepsRoot v) v.log.entries
  -- the entries end in that of the generation, where there are any
  pub entries : (v.log.entries ≡ []) ⊎ AreWhole v.fixed.shape v.fixed.lane v.log

-- ---- ZONES' LOCKS are tried once where the lane does not hold them, and given back where it does
pub record MayTryZone (v : View) (zone : ℕ) : Type 0 where
  pub inside : zone < v.fixed.shape.zones
  pub free : list_any (λ other. other == zone) v.zones ≡ false
  pub early : is_early v.log.phase ≡ true

pub record MayGiveZone (v : View) (zone : ℕ) : Type 0 where
  pub inside : zone < v.fixed.shape.zones
  pub held : list_any (λ other. other == zone) v.zones ≡ true

-- ---- THE LANE MAY ASK FOR THE STEP
abbrev pub Allowed : View → Step → Type 0
Allowed v (Load w found) = w < words_of v.fixed.shape
Allowed v (Store w x) = MayStore v w x
Allowed v (Or w bits found) = MayChange v op.Or w bits
Allowed v (And w bits found) = MayChange v op.And w bits
Allowed v (Flush line) = FlushesSome line v.changes
Allowed v Drain = DropsSome v.changes
Allowed v (TakeWrite line won) = MayTake v line
Allowed v (TakeRead line won) = MayTake v line
Allowed v (Raise line won) = MayRaise v line
Allowed v (Give line) = MayGive v line
Allowed v (ZoneTry zone won) = MayTryZone v zone
Allowed v (ZoneGive zone) = MayGiveZone v zone
Allowed v (Occupied at found) = HasOcc v at
Allowed v (Occupy at bits won) = MayOccupy v at bits
Allowed v (Vacate at bits) = MayVacate v at bits
Allowed v (Draw n) = MayDraw v
Allowed v (NumberSeen n) = IsTrue (is_early v.log.phase)
Allowed v (StopSeen set) = Unit {0}
Allowed v SetStop = IsAtStop v
Allowed v (Tell operation reply) = v.log.phase ≡ Open

-- and a counted call is not beyond its stop number
pub record IsLawful (v : View) (s : Step) : Type 0 where
  pub allowed : Allowed v s
  pub due : is_counted s ≡ true → MayCount v
