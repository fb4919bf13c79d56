-- What a lane's view shows of an operation of the open call: the view before, and the one after the operation is told with its reply.
use Rattle.std.specs.Prelude.{◌≡◌, ◌⊎◌, ℕ, ◌+◌, ◌*◌, ◌/◌, ◌%◌, ◌<◌, ◌≤◌, ◌==◌, ◌&&◌, ◌||◌, Bool, true, false, not, All, IsTrue, List, [], ◌∷◌, ◌++◌, map, filter, length, slice_index, take, drop, Contains, Option, Some, None}
use Rattle.std.specs.List.{list_any}
use Rattle.pm_layout.specs.Sizes.{class_of}
use Rattle.pm_words.specs.Words.{bytes_of, AreBytes}
use Rattle.pm_objects.specs.declared.calls.Operation.{Operation}
use Rattle.pm_objects.specs.declared.calls.Operation.TheVariants.{AddRange, Alloc, Begin, Commit, Free, Read, Write}
use Rattle.pm_objects.specs.declared.calls.Want.{Want}
use Rattle.pm_objects.specs.declared.history.Value.{Value}
use Rattle.pm_objects.specs.declared.history.Value.TheVariants.{Bytes, Offset, Refused}
use Rattle.pm_objects.specs.declared.ids.Oid.{Oid}
use Rattle.pm_objects.specs.declared.refusal.Refusal.{Refusal}
use Rattle.pm_objects.specs.declared.refusal.Refusal.TheVariants as refusal
use Rattle.solo_model.specs.Bytes.{covered_words, new_words, records_of}
use Rattle.solo_model.specs.Checks.{Range, range_of, is_record, is_write, needs_write}
use Rattle.solo_model.specs.Actions.{max_entries}
use Rattle.solo_model.specs.Answers.{IsBesideReserved}
use Rattle.solo_model.specs.NewObjects.{new_object}
use Rattle.solo_model.specs.Places.{CanHold, can_begin}
use Rattle.solo_model.specs.Transaction.{Lock as Locked, is_locked, locked_all}
use Rattle.solo_view.specs.Area.{is_in_area}
use Rattle.solo_view.specs.Blocks.{is_chunk}
use Rattle.solo_view.specs.Log.{Recorded}
use Rattle.solo_view.specs.View.{View, Lock}
use Rattle.solo_world.specs.Records.{IsRecordAt, is_recorded, pool_entries}
use Rattle.solo_crash.specs.CallBlocks.{IsMadeIn, IsOldIn, NewObject, block_of, blocks_in, is_freed_in, is_gone_in, is_made_in, is_new_in, object_made}
use Rattle.solo_crash.specs.HeapChanges.{AreDisjoint}
use Rattle.solo_crash.specs.Locks.{AreSameLocks}
use Rattle.solo_crash.specs.OpenCall.{IsUnderBlock, block_at_line, locks_of, words_recorded}
use Rattle.solo_crash.specs.Pending.{pending_in, published_in}
use Rattle.solo_crash.specs.Performing.{entry_for}
use Rattle.solo_crash.specs.Writes.{words_written}

-- the lane is the same, knows what it knew, and drew no number
pub record KeepsLane (v next : View) : Type 0 where
  pub lanes : next.lanes ≡ v.lanes
  pub zones : next.zones ≡ v.zones
  pub pool : next.pool ≡ v.pool
  pub lane : next.lane ≡ v.lane
  pub entries : next.entries ≡ v.entries
  pub known : (i : ℕ) → Contains v.known i → Contains next.known i

-- the operation is told with its reply, under the locks that are held
pub record Tells (v next : View) (op : Operation) (reply : Option Value) : Type 0 where
  pub keeps : KeepsLane v next
  pub locks : next.locks ≡ v.locks
  pub call : next.call ≡ v.call ++ record { operation = op; reply = reply } ∷ []

-- nothing is told
pub record TellsNothing (v next : View) : Type 0 where
  pub keeps : KeepsLane v next
  pub locks : next.locks ≡ v.locks
  pub call : next.call ≡ v.call

-- no word changed but in the lane's own area
pub record KeepsWords (v next : View) : Type 0 where
  pub words : (i : ℕ) → is_in_area v.lane i ≡ false → slice_index next.words i ≡ slice_index v.words i

-- no word that it knew or recorded changed, but in the lane's own area: others may have been looked at for the first time
pub record KeepsKnown (v next : View) : Type 0 where
  pub known : (i : ℕ) → is_in_area v.lane i ≡ false → Contains v.known i → slice_index next.words i ≡ slice_index v.words i
  pub recorded : (i : ℕ) → is_in_area v.lane i ≡ false → is_recorded v.log.records i ≡ true → slice_index next.words i ≡ slice_index v.words i

-- nor was a word recorded or entered
pub record KeepsLog (v next : View) : Type 0 where
  pub records : next.log.records ≡ v.log.records
  pub entries : next.log.entries ≡ v.log.entries

-- the lane holds the lock of the object, for writing if so asked, and found its block
pub record IsHeld (v : View) (id : Oid) (write : Bool) : Type 0 where
  pub lock : Lock
  pub lines : ℕ
  pub held : Contains v.locks lock
  pub block : lock.block ≡ Some lines
  pub allows : (lock.write || not write) ≡ true
  pub of_pool : id.pool ≡ v.pool
  pub place : id.off ≡ 64 * lock.line + 64

-- it holds the object, and the range ends where the object ends, or before. It knows the word of the object's size
pub record HasRange (v : View) (id : Oid) (off len : ℕ) (write : Bool) : Type 0 where
  pub object : IsHeld v id write
  pub size_known : Contains v.known (8 * object.lock.line + 1)
  pub inside : off + len ≤ slice_index v.words (8 * object.lock.line + 1)

-- the lane wrote the bytes into words that it had recorded, changed no other but in its own area, and told so
pub record WritesBytes (v next : View) (id : Oid) (off : ℕ) (bytes : List ℕ) : Type 0 where
  pub tells : Tells v next (Write id off bytes) None
  pub logs : KeepsLog v next
  pub range : HasRange v id off (length bytes) true
  pub are_bytes : AreBytes bytes
  pub added : (i : ℕ) → Contains (covered_words (id.off + off) (length bytes)) i → is_recorded v.log.records i ≡ true
  pub written : (i : ℕ) → is_in_area v.lane i ≡ false → slice_index next.words i ≡ words_written (id.off + off) bytes (slice_index v.words) i

-- the bytes of a range as the lane's words have them
abbrev pub bytes_seen : View → Oid → ℕ → ℕ → List ℕ
bytes_seen v id off len = take len (drop (off % 8) (bytes_of (map (slice_index v.words) (covered_words (id.off + off) len))))

-- the lane read the range, whose words it knows, and told the bytes
pub record ReadsBytes (v next : View) (id : Oid) (off len : ℕ) : Type 0 where
  pub tells : Tells v next (Read id off len) (Some (Bytes (bytes_seen v id off len)))
  pub logs : KeepsLog v next
  pub keeps : KeepsWords v next
  pub range : HasRange v id off len false
  pub known : (i : ℕ) → Contains (covered_words (id.off + off) len) i → Contains v.known i

-- a record's first word, and how many it has
abbrev pub extent : Recorded → ℕ × ℕ
extent r = (r.word, length r.old)

-- the record has its words as the lane knows them
pub record IsPresent (v : View) (r : Recorded) : Type 0 where
  pub known : (i : ℕ) → i < length r.old → Contains v.known (r.word + i)
  pub value : (i : ℕ) → i < length r.old → slice_index r.old i ≡ slice_index v.words (r.word + i)

-- the lane recorded those words of the range that were not recorded yet, as they were, and told so
pub record AddsRange (v next : View) (id : Oid) (off len : ℕ) : Type 0 where
  pub tells : Tells v next (AddRange id off len) None
  pub keeps : KeepsWords v next
  pub range : HasRange v id off len true
  pub added : List Recorded
  pub records : next.log.records ≡ v.log.records ++ added
  pub entries : next.log.entries ≡ v.log.entries
  pub extents : map extent added ≡ records_of (new_words (words_recorded v.log.records) (covered_words (id.off + off) len))
  pub present : (r : Recorded) → Contains added r → IsPresent v r
  pub under : (i : ℕ) → is_recorded added i ≡ true → IsUnderBlock v i
  pub room : length v.log.records + length added ≤ 64

-- every recorded word is known to have its old value again, and no other word changed but in the lane's own area. The log has the records
-- that it had, or none
pub record TakesBack (v next : View) : Type 0 where
  pub restored : (slot : ℕ) (r : Recorded) (i : ℕ) → IsRecordAt v slot r → i < length r.old → slice_index next.words (r.word + i) ≡ slice_index r.old i
  pub known : (slot : ℕ) (r : Recorded) (i : ℕ) → IsRecordAt v slot r → i < length r.old → Contains next.known (r.word + i)
  pub others : (i : ℕ) → is_in_area v.lane i ≡ false → is_recorded v.log.records i ≡ false → slice_index next.words i ≡ slice_index v.words i
  pub records : (next.log.records ≡ []) ⊎ (next.log.records ≡ v.log.records)

-- the lane holds no lock of the object, for writing if so asked; of an object of another pool none is held
abbrev pub IsNotHeld : View → Oid → Bool → Type 0
IsNotHeld v id write = id.pool ≡ v.pool → is_locked (locks_of v) id.off write ≡ false

-- it holds the object, and the range passes its end
pub record PassesEnd (v : View) (id : Oid) (off len : ℕ) (write : Bool) : Type 0 where
  pub object : IsHeld v id write
  pub size_known : Contains v.known (8 * object.lock.line + 1)
  pub outside : slice_index v.words (8 * object.lock.line + 1) < off + len

-- a word that would be written is not recorded
pub record IsNotAdded (v : View) (id : Oid) (off len : ℕ) (write : Bool) : Type 0 where
  pub range : HasRange v id off len write
  pub word : ℕ
  pub written : Contains (covered_words (id.off + off) len) word
  pub unrecorded : is_recorded v.log.records word ≡ false

-- the new words need more records than there is room for
pub record Overfills (v : View) (id : Oid) (off len : ℕ) (write : Bool) : Type 0 where
  pub range : HasRange v id off len write
  pub overfull : 64 < length v.log.records + length (records_of (new_words (words_recorded v.log.records) (covered_words (id.off + off) len)))

-- why an operation on a range is refused, by what the lane has
abbrev pub IsReason : View → Operation → Range → Refusal → Type 0
IsReason v op range refusal.NotLocked = IsNotHeld v range.id (needs_write op)
IsReason v op range refusal.OutOfRange = PassesEnd v range.id range.off range.len (needs_write op)
IsReason v op range refusal.NotAdded = IsTrue (is_write op) × IsNotAdded v range.id range.off range.len (needs_write op)
IsReason v op range refusal.LogFull = IsTrue (is_record op) × Overfills v range.id range.off range.len (needs_write op)
IsReason v op range r = ⊥

-- the lane refused the operation on a range, took back what the call did, and told so
pub record Refuses (v next : View) (op : Operation) (range : Range) (r : Refusal) : Type 0 where
  pub is_range : range_of op ≡ Some range
  pub reason : IsReason v op range r
  pub tells : Tells v next op (Some (Refused r))
  pub takes_back : TakesBack v next

-- a lock that is wanted can be of an object, and the lane holds it
pub record IsWantHeld (v : View) (want : Want) : Type 0 where
  pub place : IsTrue (can_begin v.lanes v.zones want.id.off)
  pub held : IsHeld v want.id want.write

-- the lane has exactly the locks that were held and are wanted, in any order, 64 at most, each of a line of a chunk where it found a block
pub record TakesWanted (v : View) (before : List Locked) (wants : List Want) : Type 0 where
  pub few : length v.locks ≤ 64
  pub locks : AreSameLocks (locks_of v) (locked_all wants before)
  pub wanted : (want : Want) → Contains wants want → IsWantHeld v want
  pub chunks : (l : Lock) (lines : ℕ) → Contains v.locks l → l.block ≡ Some lines → is_chunk v.lanes (l.line / 64) ≡ true

-- the lane began a call with the locks that were wanted, and told so. It recorded and entered nothing yet
pub record BeginsCall (v : View) (wants : List Want) : Type 0 where
  pub call : v.call ≡ record { operation = Begin wants; reply = None } ∷ []
  pub no_records : v.log.records ≡ []
  pub no_entries : v.log.entries ≡ []
  pub in_lanes : v.lane < v.lanes
  pub takes : TakesWanted v [] wants

-- the lane holds the lock of this line, and found a block of so many lines under it
pub record IsFoundUnder (v : View) (line lines : ℕ) : Type 0 where
  pub lock : Lock
  pub held : Contains v.locks lock
  pub of_line : lock.line ≡ line
  pub block : lock.block ≡ Some lines

-- the lane keeps the locks under which it found a block: it may hold them for writing now
abbrev pub KeepsFound : View → View → Type 0
KeepsFound v next = (l : Lock) (lines : ℕ) → Contains v.locks l → l.block ≡ Some lines → IsFoundUnder next l.line lines

-- the lane began a further level with the locks that were wanted, and told so
pub record BeginsLevel (v next : View) (wants : List Want) : Type 0 where
  pub keeps : KeepsLane v next
  pub finds : KeepsFound v next
  pub call : next.call ≡ v.call ++ record { operation = Begin wants; reply = None } ∷ []
  pub logs : KeepsLog v next
  pub words : KeepsWords v next
  pub takes : TakesWanted next (locks_of v) wants

-- what is wanted has the form of an object's id in the lane's pool
abbrev pub is_placed : View → Want → Bool
is_placed v want = want.id.pool == v.pool && can_begin v.lanes v.zones want.id.off

-- one of the wants has not
abbrev pub lacks_place : View → List Want → Bool
lacks_place v wants = list_any (λ (want : Want). not (is_placed v want)) wants

-- the locks that were held, with those of the wants that have
abbrev pub locks_wanted : View → List Locked → List Want → List Locked
locks_wanted v before wants = locked_all (filter (is_placed v) wants) before

-- a lock is wanted that is not held so, or not at all
abbrev pub wants_more : List Locked → List Want → Bool
wants_more before wants = list_any (λ (want : Want). not (is_locked before want.id.off want.write)) wants

abbrev pub wants_first : List Locked → List Want → Bool
wants_first before wants = list_any (λ (want : Want). not (is_locked before want.id.off false)) wants

-- the outermost level is committed, and that is told: the log has what it had, and behind it an entry for each action that the call published
pub record CommitsCall (v next : View) : Type 0 where
  pub tells : Tells v next Commit None
  pub records : next.log.records ≡ v.log.records
  pub words : KeepsWords v next
  pub entries : pool_entries next ≡ map entry_for (published_in v)

-- why a begin at this level, with these locks held, is refused: for its depth, for too many locks, since something wanted has not the form
-- of an object's id, since a lock that it tried was another lane's, or since it found no object under one that it took. What it saw of other
-- lanes is not asked for here: the model allows the last two wherever such a lock is wanted
abbrev pub IsBeginReason : View → ℕ → List Locked → List Want → Refusal → Type 0
IsBeginReason v level before wants refusal.Deep = 64 ≤ level
IsBeginReason v level before wants refusal.LocksFull = (level < 64) × (64 < length (locks_wanted v before wants))
IsBeginReason v level before wants refusal.NoObject =
    (level < 64) × (length (locks_wanted v before wants) ≤ 64) × (IsTrue (lacks_place v wants) ⊎ IsTrue (wants_first before wants))
IsBeginReason v level before wants refusal.Busy =
    (level < 64) × (length (locks_wanted v before wants) ≤ 64) × (lacks_place v wants ≡ false) × (1 ≤ level) × IsTrue (wants_more before wants)
IsBeginReason v level before wants r = ⊥

-- the lane refused to begin a call, recorded nothing, and told so
pub record RefusesCall (v : View) (wants : List Want) (r : Refusal) : Type 0 where
  pub call : v.call ≡ record { operation = Begin wants; reply = Some (Refused r) } ∷ []
  pub no_records : v.log.records ≡ []
  pub reason : IsBeginReason v 0 [] wants r

-- the lane refused to begin a further level, took back what the call did, and told so
pub record RefusesLevel (v next : View) (level : ℕ) (wants : List Want) (r : Refusal) : Type 0 where
  pub keeps : KeepsLane v next
  pub finds : KeepsFound v next
  pub call : next.call ≡ v.call ++ record { operation = Begin wants; reply = Some (Refused r) } ∷ []
  pub reason : IsBeginReason v level (locks_of v) wants r
  pub takes_back : TakesBack v next

-- ---- objects that the call makes

-- so many entries the call's log would have: for what it published, made and freed
abbrev pub entries_so_far : View → ℕ
entries_so_far v = length (published_in v) + (length (blocks_in v).made + length (blocks_in v).freed)

-- The lane made a new object of zeros in a block that was nobody's, and told its offset. No word that it knew changed. The block lies apart from those of what
-- it found under its locks, and of what its call made before; and the log has room for the object's entry, and for the one that ends its generation
pub record AllocatesObject (v next : View) (n : NewObject) : Type 0 where
  pub tells : Tells v next (Alloc n.size n.kind) (Some (Offset n.off))
  pub logs : KeepsLog v next
  pub keeps : KeepsKnown v next
  pub some : 1 ≤ n.size
  pub most : n.size ≤ 262080
  pub place : CanHold v.lanes v.zones (class_of n.size) n.off
  pub made : IsMadeIn next n
  pub zeros : object_made next n ≡ new_object n.kind n.size
  pub apart_found : (l : Lock) (lines : ℕ) → Contains v.locks l → l.block ≡ Some lines → AreDisjoint (block_of n) (block_at_line l.line lines)
  pub apart_made : (m : NewObject) → Contains ((blocks_in v).made ++ (blocks_in v).dropped) m → AreDisjoint (block_of n) (block_of m)
  pub unfreed : is_freed_in v n.off ≡ false
  pub unreserved : All (IsBesideReserved n.size n.off) (pending_in v).reserved
  pub room : entries_so_far v + 2 ≤ max_entries

-- the object is one that the call made and has
pub record IsMade (v : View) (id : Oid) : Type 0 where
  pub new : NewObject
  pub has : Contains (blocks_in v).made new
  pub of_pool : id.pool ≡ v.pool
  pub place : id.off ≡ new.off

-- the range ends where such an object ends, or before
pub record HasNewRange (v : View) (id : Oid) (off len : ℕ) : Type 0 where
  pub made : IsMade v id
  pub inside : off + len ≤ made.new.size

-- the lane read a range of it, and told the bytes
pub record ReadsNewBytes (v next : View) (id : Oid) (off len : ℕ) : Type 0 where
  pub tells : Tells v next (Read id off len) (Some (Bytes (bytes_seen v id off len)))
  pub logs : KeepsLog v next
  pub keeps : KeepsWords v next
  pub range : HasNewRange v id off len

-- the lane was asked to record a range of it, which needs no record, and told so
pub record AddsNewRange (v next : View) (id : Oid) (off len : ℕ) : Type 0 where
  pub tells : Tells v next (AddRange id off len) None
  pub logs : KeepsLog v next
  pub keeps : KeepsWords v next
  pub range : HasNewRange v id off len

-- the lane wrote the bytes into it, changed no other word but in its own area, and told so
pub record WritesNewBytes (v next : View) (id : Oid) (off : ℕ) (bytes : List ℕ) : Type 0 where
  pub tells : Tells v next (Write id off bytes) None
  pub logs : KeepsLog v next
  pub range : HasNewRange v id off (length bytes)
  pub are_bytes : AreBytes bytes
  pub written : (i : ℕ) → is_in_area v.lane i ≡ false → slice_index next.words i ≡ words_written (id.off + off) bytes (slice_index v.words) i

-- the range passes the end of such an object
pub record PassesNewEnd (v : View) (id : Oid) (off len : ℕ) : Type 0 where
  pub made : IsMade v id
  pub outside : made.new.size < off + len

-- why an allocation is refused: for its size, since the log has no room for the entry, or since no free block was found. What the lane saw of free blocks is
-- not asked for here: the model allows the last wherever the others don't apply
abbrev pub IsAllocReason : View → ℕ → Refusal → Type 0
IsAllocReason v size refusal.BadSize = (size ≡ 0) ⊎ (262080 < size)
IsAllocReason v size refusal.ActionsFull = (1 ≤ size) × (size ≤ 262080) × (max_entries < entries_so_far v + 2)
IsAllocReason v size refusal.NoSpace = (1 ≤ size) × (size ≤ 262080) × (entries_so_far v + 2 ≤ max_entries)
IsAllocReason v size r = ⊥

-- the lane refused to make an object, took back what the call did, and told so
pub record RefusesAlloc (v next : View) (size kind : ℕ) (r : Refusal) : Type 0 where
  pub reason : IsAllocReason v size r
  pub tells : Tells v next (Alloc size kind) (Some (Refused r))
  pub takes_back : TakesBack v next

-- the lane refused an operation on a range that passes the end of such an object, took back what the call did, and told so
pub record RefusesNewRange (v next : View) (op : Operation) (range : Range) : Type 0 where
  pub is_range : range_of op ≡ Some range
  pub past : PassesNewEnd v range.id range.off range.len
  pub tells : Tells v next op (Some (Refused refusal.OutOfRange))
  pub takes_back : TakesBack v next

-- ---- objects that the call frees

-- The lane freed an object that it found and holds for writing, and told so. No word that it knew changed; and the log has room for the entry that frees the
-- object's block, and for the one that ends its generation
pub record FreesFound (v next : View) (id : Oid) : Type 0 where
  pub tells : Tells v next (Free id) None
  pub logs : KeepsLog v next
  pub keeps : KeepsKnown v next
  pub held : IsHeld v id true
  pub old : IsOldIn v id.off
  pub fits : entries_so_far v + 2 ≤ max_entries

-- It freed an object that it made, and told so. That needs no room: the object's entry is taken back
pub record FreesMade (v next : View) (id : Oid) : Type 0 where
  pub tells : Tells v next (Free id) None
  pub logs : KeepsLog v next
  pub keeps : KeepsKnown v next
  pub made : IsMade v id

-- the lane has what is at the offset, for writing if so asked: its call made an object there, whether it freed it again or not, or it holds the lock
abbrev pub has_at : View → ℕ → Bool → Bool
has_at v off write = is_new_in v off || is_locked (locks_of v) off write

-- so it has, and the object there is gone: the call freed it, or made it and freed it again
pub record IsGone (v : View) (id : Oid) (write : Bool) : Type 0 where
  pub of_pool : id.pool ≡ v.pool
  pub has : has_at v id.off write ≡ true
  pub gone : is_gone_in v id.off ≡ true

-- or it is not gone
pub record IsLeft (v : View) (id : Oid) (write : Bool) : Type 0 where
  pub of_pool : id.pool ≡ v.pool
  pub has : has_at v id.off write ≡ true
  pub left : is_gone_in v id.off ≡ false

-- the lane refused an operation on a range of an object that is gone, took back what the call did, and told so
pub record RefusesGone (v next : View) (op : Operation) (range : Range) : Type 0 where
  pub is_range : range_of op ≡ Some range
  pub gone : IsGone v range.id (needs_write op)
  pub tells : Tells v next op (Some (Refused refusal.NoObject))
  pub takes_back : TakesBack v next

-- Why a free is refused: the lane has not the object for writing, or it is gone, or it is the root, or the log has no room for its entry, which an object that
-- the call made needs not. Which object is the root is not asked for here: the reply tells it (`TellsOfRoot`). No object is in a list or has members
abbrev pub IsFreeReason : View → Oid → Refusal → Type 0
IsFreeReason v id refusal.NotLocked = id.pool ≡ v.pool → has_at v id.off true ≡ false
IsFreeReason v id refusal.NoObject = IsGone v id true
IsFreeReason v id refusal.RootKept = IsLeft v id true
IsFreeReason v id refusal.ActionsFull = IsLeft v id true × (is_made_in v id.off ≡ false) × (max_entries < entries_so_far v + 2)
IsFreeReason v id r = ⊥

-- the lane refused to free an object, took back what the call did, and told so
pub record RefusesFree (v next : View) (id : Oid) (r : Refusal) : Type 0 where
  pub reason : IsFreeReason v id r
  pub tells : Tells v next (Free id) (Some (Refused r))
  pub takes_back : TakesBack v next
