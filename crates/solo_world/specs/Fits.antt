-- How a lane's view fits the memory: what it knows, what it holds, and its log by how far its call has come.
use Rattle.std.specs.Prelude.{◌≡◌, ℕ, ◌+◌, ◌*◌, ◌^◌, ◌<◌, ◌≤◌, ◌⊎◌, Bool, true, false, IsTrue, IfSome, All, Contains, List, [], drop, length, slice_index, take, Option, Some, None}
use Rattle.std.specs.Option.{ForSome}
use Rattle.std.specs.Int.{bit_at}
use Rattle.pm_record.specs.Undo.{undo_of}
use Rattle.pm_record.specs.declared.undo.Undo.{Undo}
use Rattle.solo_view.specs.declared.change.Change.{Change}
use Rattle.solo_view.specs.Area.{area_word, is_in_area, part_of}
use Rattle.solo_view.specs.Area.Part.{EntryWord, SlotWord}
use Rattle.solo_view.specs.Bits.{all_bits}
use Rattle.solo_view.specs.Blocks.{block_at, describes, descriptor_word, tells_nothing}
use Rattle.solo_view.specs.Counts.{max_changes}
use Rattle.solo_view.specs.Held.{is_held, is_reserved}
use Rattle.solo_view.specs.Log.{Phase, Recorded, Final}
use Rattle.solo_view.specs.Log.Phase.{Idle, Open, Drawn, Sealing, Applying, Clearing, Retiring}
use Rattle.solo_view.specs.Rights.{is_written}
use Rattle.solo_view.specs.View.{View, Lock}
use Rattle.pm_image.specs.Logs.{undo_slot}
use Rattle.solo_memory.specs.LockWords.{writer_bit}
use Rattle.solo_world.specs.Entries.{AgreeBeside, AreWhole, EntryStands, HasNone, IsEntryAt, applied_in, entry_word, is_bit_entered, is_entered, is_redone, seal_in, KnowsOrs, is_or_entered}
use Rattle.solo_world.specs.Heap.{BlocksFit, heap_words}
use Rattle.solo_world.specs.History.{made_final}
use Rattle.solo_world.specs.Lawful.{OnlyFilled, generation_limit}
use Rattle.solo_world.specs.Memory.{Memory}
use Rattle.solo_world.specs.Memory.Location.{PoolWord, LockWord}
use Rattle.solo_world.specs.Opening.{Opening, IsChunk}
use Rattle.solo_world.specs.Records.{IsRecordAt, generation_of, slot_word, covers, is_logged, spelled, records_generation, used_slots, difference_of, AreRestored}

-- the view is that of lane k of this pool
pub record IsLane (o : Opening) (k : ℕ) (v : View) : Type 0 where
  pub lanes : v.lanes ≡ o.lanes
  pub zones : v.zones ≡ o.zones
  pub lane : v.lane ≡ k
  pub size : length v.words ≡ length o.words

-- the view has the descriptor as it was at the opening, or as it is now
abbrev pub IsDescriptorSeen : Opening → (ℕ → ℕ) → View → ℕ → Type 0
IsDescriptorSeen o heap v w = (slice_index v.words w ≡ slice_index o.words w) ⊎ (slice_index v.words w ≡ heap w)

-- the view's picture of the pool: of its own area and of what it knows it has the values, and what it knows stays, being held
pub record PictureFits (o : Opening) (mem : Memory) (v : View) : Type 0 where
  pub area : (w : ℕ) → IsTrue (is_in_area v.lane w) → mem (PoolWord w) ≡ slice_index v.words w
  pub known : (w : ℕ) → Contains v.known w → mem (PoolWord w) ≡ slice_index v.words w
  pub held : (w : ℕ) → Contains v.known w → IsTrue (is_held v w)
  -- what describes chunks is as at the opening, or as it is now: a run stays one
  pub descriptors : (page : ℕ) → IsChunk o.lanes page → IsDescriptorSeen o (heap_words o mem) v (descriptor_word o.lanes page)

-- the lock word shows that lane k holds it, for writing or for reading
abbrev pub ShowsHold : ℕ → Bool → ℕ → Type 0
ShowsHold k true word = word ≡ writer_bit k
ShowsHold k false word = (bit_at word k ≡ 1) × (word < 2 ^ 32)

-- a held lock: its word shows the hold, and what was found under it is there
pub record LockFits (o : Opening) (mem : Memory) (k : ℕ) (l : Lock) : Type 0 where
  pub shows : ShowsHold k l.write (mem (LockWord l.line))
  pub found : IfSome l.block (λ lines. block_at o.lanes o.words l.line ≡ Some lines)

-- a recorded word: the lane may write it, knows it, and recorded its settled value
pub record RecordedWordFits (settled : ℕ → ℕ) (v : View) (w old : ℕ) : Type 0 where
  pub own : IsTrue (is_written v w)
  pub known : Contains v.known w
  pub before : old ≡ settled w

-- a record of one to four such words
pub record RecordFits (settled : ℕ → ℕ) (v : View) (r : Recorded) : Type 0 where
  pub some : 1 ≤ length r.old
  pub most : length r.old ≤ 4
  pub each : (i : ℕ) → i < length r.old → RecordedWordFits settled v (r.word + i) (slice_index r.old i)

-- the log: its records stand in their slots in this generation and have no word twice, all other slots are of earlier ones
pub record LogFits (settled : ℕ → ℕ) (v : View) (generation : ℕ) : Type 0 where
  pub most : length v.log.records ≤ 64
  pub stored : (slot : ℕ) (r : Recorded) → IsRecordAt v slot r → undo_slot v.words v.lane slot ≡ spelled generation r
  pub each : (slot : ℕ) (r : Recorded) → IsRecordAt v slot r → RecordFits settled v r
  pub once : (slot other : ℕ) (r q : Recorded) (w : ℕ) → IsRecordAt v slot r → IsRecordAt v other q → IsTrue (covers r w) → IsTrue (covers q w) → slot ≡ other
  pub stale : (slot : ℕ) (u : Undo) → used_slots v.log.phase v ≤ slot → slot < 64 → undo_of (undo_slot v.words v.lane slot) ≡ Some u → u.generation < generation

-- the redo log: its entries stand in their pairs, and the seal says how many of them are sealed
pub record EntriesFit (v : View) : Type 0 where
  pub most : length v.log.entries ≤ 64
  pub each : (i : ℕ) (f : Final) → IsEntryAt v i f → EntryStands v i f
  pub seal : slice_index v.words (area_word v.lane + 1) ≡ seal_in v.log.phase v
  pub none : HasNone v.log.phase v

-- A word that the log would redo: with those entries that are not applied yet it is what it is to be, and with all of them whatever has, beside the bits
-- that they are of, the bits that it is to have.
pub record RedoneWord (mem : Memory) (settled : ℕ → ℕ) (v : View) (w : ℕ) : Type 0 where
  pub again : (x : ℕ) → AgreeBeside v.log.entries w x (settled w) → made_final v.log.entries w x ≡ settled w
  pub rest : made_final (drop (applied_in v.log.phase v) v.log.entries) w (mem (PoolWord w)) ≡ settled w

-- nothing is open; a lane at rest may have words undrained that it filled
pub record IdleFits (v : View) : Type 0 where
  pub no_records : v.log.records ≡ []
  pub changes : OnlyFilled v

-- a change in a block that the lane reserved: of a word that tells of no block, or of a chunk's descriptor, which was 0
pub record ReservedChange (v : View) (c : Change) : Type 0 where
  pub reserved : IsTrue (is_reserved v c.word)
  pub plain : IsTrue (tells_nothing v.lanes v.words c.word) ⊎ (IsTrue (describes v.lanes c.word) × (c.old ≡ 0))

-- an undrained change while the log may grow: a store of a slot's or a pair's word, of a word that the log would restore, or in a block that the
-- lane reserved
pub record OpenChange (v : View) (c : Change) : Type 0 where
  pub whole : c.mask ≡ all_bits
  pub of : (part_of v.lane c.word ≡ SlotWord) ⊎ ((part_of v.lane c.word ≡ EntryWord) ⊎ (IsTrue (is_logged v c.word) ⊎ ReservedChange v c))

-- the log may grow: these words of the next record stand in their slot, and these of the next entry in its pair
pub record OpenFits (v : View) (slot pair : List ℕ) : Type 0 where
  pub undrawn : v.number ≡ None
  pub short : length slot < 8
  pub stands : (i : ℕ) → i < length slot → slice_index v.words (slot_word v.lane (length v.log.records) + i) ≡ slice_index slot i
  pub short_pair : length pair < 2
  pub in_pairs : 2 * length v.log.entries + length pair ≤ 128
  pub pair_stands : (i : ℕ) → i < length pair → slice_index v.words (entry_word v.lane (length v.log.entries) + i) ≡ slice_index pair i
  pub changes : All (OpenChange v) v.changes

-- the number is drawn
pub record DrawnFits (flies : ℕ → List Final → Type 0) (v : View) : Type 0 where
  pub number : ℕ
  pub drawn : v.number ≡ Some number
  pub flying : flies number (difference_of v)
  pub drained : v.changes ≡ []

-- an undrained change while the generation ends: the store of the next one over the last
pub record RetiringChange (v : View) (c : Change) : Type 0 where
  pub whole : c.mask ≡ all_bits
  pub of : c.word ≡ area_word v.lane
  pub before : c.old + 1 ≡ generation_of v

-- the call is in flight, or given up and taken back
abbrev pub EndFits : (ℕ → List Final → Type 0) → View → Option ℕ → Type 0
EndFits flies v (Some number) = flies number (difference_of v)
EndFits flies v None = AreRestored v

-- the next generation is stored
pub record RetiringFits (flies : ℕ → List Final → Type 0) (v : View) : Type 0 where
  pub changes : All (RetiringChange v) v.changes
  pub ends : EndFits flies v v.number

-- an undrained change of the seal, from this
pub record SealChange (v : View) (old : ℕ) (c : Change) : Type 0 where
  pub whole : c.mask ≡ all_bits
  pub of : c.word ≡ area_word v.lane + 1
  pub before : c.old ≡ old

-- the seal is stored: the number is drawn, and the last entry ends the generation
pub record SealingFits (flies : ℕ → List Final → Type 0) (v : View) : Type 0 where
  pub number : ℕ
  pub drawn : v.number ≡ Some number
  pub flying : flies number (difference_of v)
  pub changes : All (SealChange v 0) v.changes
  pub whole : AreWhole v (generation_of v + 1)
  pub known : KnowsOrs v
  pub below : generation_of v < generation_limit

-- the change is of bits that these entries are of, and found a word of 64 bits where one ORs it
pub record IsOfEntries (entries : List Final) (c : Change) : Type 0 where
  pub mask : c.mask < 2 ^ 64
  pub bits : (i : ℕ) → i < 64 → is_bit_entered entries c.word i ≡ false → (bit_at c.mask i ≡ 0) × (bit_at c.old i ≡ 0)
  pub small : is_or_entered entries c.word ≡ true → c.old < 2 ^ 64

-- an undrained change while entries are applied: of bits of a word of one that is; of the generation it is that of the next one over the last
pub record AppliedChange (v : View) (applied : ℕ) (c : Change) : Type 0 where
  pub of : IsTrue (is_entered (take applied v.log.entries) c.word)
  pub bits : IsOfEntries v.log.entries c
  pub next : c.word ≡ area_word v.lane → (c.mask ≡ all_bits) × (c.old + 1 ≡ generation_of v)

-- so many entries are applied, the seal being drained; no records are left
pub record ApplyingFits (v : View) (applied : ℕ) : Type 0 where
  pub no_records : v.log.records ≡ []
  pub most : applied ≤ length v.log.entries
  pub changes : All (AppliedChange v applied) v.changes
  pub whole : AreWhole v (records_generation (Applying applied) v)
  pub known : KnowsOrs v
  pub last : records_generation (Applying applied) v ≤ generation_limit

-- the seal 0 is stored, and the generation is the next one
pub record ClearingFits (v : View) : Type 0 where
  pub no_records : v.log.records ≡ []
  pub changes : All (SealChange v (length v.log.entries)) v.changes
  pub whole : AreWhole v (generation_of v)
  pub known : KnowsOrs v

-- by how far the lane's call has come
abbrev pub PhaseFits : (ℕ → List Final → Type 0) → View → Phase → Type 0
PhaseFits flies v Idle = IdleFits v
PhaseFits flies v (Open slot pair) = OpenFits v slot pair
PhaseFits flies v Drawn = DrawnFits flies v
PhaseFits flies v Retiring = RetiringFits flies v
PhaseFits flies v Sealing = SealingFits flies v
PhaseFits flies v (Applying applied) = ApplyingFits v applied
PhaseFits flies v Clearing = ClearingFits v

-- The view v is one of lane k: `settled` has the words after all decided entries, and `flies` says that the lane's entry of some number and
-- difference is drawn and not decided.
pub record LaneFits (o : Opening) (mem : Memory) (settled : ℕ → ℕ) (flies : ℕ → List Final → Type 0) (k : ℕ) (v : View) : Type 0 where
  pub lane : IsLane o k v
  pub picture : PictureFits o mem v
  pub locks : All (LockFits o mem k) v.locks
  pub log : LogFits settled v (records_generation v.log.phase v)
  pub entries : EntriesFit v
  pub redone : (w : ℕ) → IsTrue (is_redone v w) → IsTrue (is_written v w) → RedoneWord mem settled v w
  pub phase : PhaseFits flies v v.log.phase
  pub blocks : BlocksFit o (heap_words o mem) v
  pub first_generation : 1 ≤ generation_of v
  pub last_generation : generation_of v ≤ generation_limit
  pub room : length v.changes ≤ max_changes
  pub within : ForSome v.stop (λ stop. v.calls ≤ stop)
