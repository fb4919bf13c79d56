-- WHAT AN OPERATION OWES, with no bits in it: that its first refusal is none, what it replies, and what
-- becomes of the bits as the call has made them.
use Rattle.std.specs.Prelude.{◌+◌, ◌⊎◌, ◌≢◌, ◌-◌, ◌/◌, ◌%◌, ◌^◌, ◌<◌, ◌≤◌, Contains, length, ◌≡◌, ℕ, Bool, true, false, All, List, [], Option, None, Some}
use Rattle.pm_header.specs.declared.header.Header.{Header}
use Rattle.pm_objects.specs.declared.calls.Operation.{Operation}
use Rattle.pm_objects.specs.declared.calls.Operation.TheVariants.{Begin, Lock, AddRange, Write, Increment, Read, WriteReserved, DeferFree, SetValue, Cancel, Abort}
use Rattle.pm_objects.specs.declared.calls.Want.{Want}
use Rattle.pm_objects.specs.declared.history.Value.{Value}
use Rattle.pm_objects.specs.declared.history.Value.TheVariants.{Bytes, Number, Refused}
use Rattle.pm_objects.specs.declared.pool.PoolView.{PoolView}
use Rattle.pm_objects.specs.declared.refusal.Refusal.{Refusal}
use Rattle.pm_model.specs.Inside.{Ran, is_action, is_inside, is_kept_by, is_untraced, wants_of}
use Rattle.pm_model.specs.Items.{number_bytes, number_of, plain_pool}
use Rattle.pm_model.specs.Transaction.{covered_words}
use Rattle.pm_words.specs.Words.{AreBytes}
use Rattle.pm_objects.specs.declared.ids.Oid.{Oid}
use Rattle.pm_model.specs.Refusals.{is_first_lock}
use Rattle.pm_view.specs.Entries.{Entry}
use Rattle.pm_view.specs.Log.{Recorded}
use Rattle.pm_view.specs.Places.{Block, Place}
use Rattle.pm_view.specs.View.{View}
use Rattle.pm_world.specs.Memory.{bit}
use Rattle.pm_world.specs.Sights.{is_recorded}
use Rattle.pm_world.specs.States.{State}
use Rattle.pm_crash.specs.Footprints.{bit_before, has_found}
use Rattle.pm_crash.specs.Looked.{Enters, HasRoot, KnowsSizes, IsObject, KnowsRange, KnowsSize, KnowsWord, bytes_seen, refusal_by, word_place, words_in}
use Rattle.pm_crash.specs.Looks.{ids_freed}
use Rattle.pm_crash.specs.Sim.{Agrees, change_so_far, Grows, MayTell, SameBits, Sim, Tells, known_offset, lists_of}
use Rattle.pm_crash.specs.Spelled.{Holds}
use Rattle.pm_crash.specs.Writes.{written_word}

-- the root was looked at, as far as the operation frees an object: so it is in all bits that the lane
-- agrees with
abbrev pub KnowsRoot : View → Option ℕ → Operation → Type 0
KnowsRoot v root op = (kept : Bool) (classes : ℕ → ℕ) (s : State) (header : Header) (pool : PoolView)
    → Agrees classes v kept s → Holds v.fixed.shape classes s header pool
    → HasRoot v root op (plain_pool pool)

-- of an operation that frees nothing no root is asked
abbrev pub NoRootIsAsked : Type 0
NoRootIsAsked = (v : View) (root : Option ℕ) (op : Operation) → ids_freed (lists_of v) op ≡ []
    → KnowsRoot v root op

-- WHAT THE LANE LOOKED AT for an operation: sizes and the root
pub record LookedAt (v : View) (entries : List Entry) (root : Option ℕ) (op : Operation) : Type 0 where
  pub enters : Enters v entries
  pub sizes : KnowsSizes v entries root op
  pub knows_root : KnowsRoot v root op

-- ---- OPERATIONS THAT LEAVE THE COPY, and make or reserve no object

abbrev pub leaves_copy : Operation → Bool
leaves_copy (Begin wants) = true
leaves_copy (Lock want) = true
leaves_copy (AddRange id at len) = true
leaves_copy (Read id at len) = true
leaves_copy (WriteReserved id at bytes) = true
leaves_copy (DeferFree id) = true
leaves_copy (SetValue id at value) = true
leaves_copy Cancel = true
leaves_copy op = false

-- what they reply: bytes that the lane knows, or nothing
abbrev pub RepliesBy : View → List Entry → Operation → Option Value → Type 0
RepliesBy v entries (Read id at len) reply = (words : ℕ → ℕ)
    × KnowsRange v entries id.off at len words
    × (reply ≡ Some (Bytes (bytes_seen words id.off at len)))
RepliesBy v entries op reply = reply ≡ None

-- an object is there to the lane
pub record Finds (v : View) (entries : List Entry) (off : ℕ) : Type 0 where
  pub block : Block
  pub at : known_offset v block ≡ off
  pub object : IsObject v entries block

pub record Extends (v : View) (entries : List Entry) (next : View) (entries' : List Entry)
    (root : Option ℕ) (ran : Ran) : Type 0 where
  pub leaves : leaves_copy ran.operation ≡ true
  pub looks : LookedAt v entries root ran.operation
  pub unrefused : refusal_by ran.seen v root ran.operation ≡ None
  pub replies : RepliesBy v entries ran.operation ran.reply
  -- each object of which it took a first lock is there
  pub enters : Enters next entries'
  pub there : All (λ (want : Want). is_first_lock (lists_of v) want ≡ true
      → Finds next entries' want.id.off) (wants_of ran.operation)
  pub same : SameBits v entries next entries'

abbrev pub SimExtends : Type 0
SimExtends = (v next : View) (entries entries' : List Entry) (root : Option ℕ) (ran : Ran)
    → Sim v entries → Tells v next ran → MayTell v
    → ((kept : Bool) → Grows v (is_kept_by ran.operation kept) next kept)
    → Extends v entries next entries' root ran → Sim next entries'

-- ---- REFUSED OPERATIONS, and abort

-- an operation on the pending list alone leaves all as it was; any other leaves nothing of the call
abbrev pub LeavesBits : View → List Entry → View → List Entry → Bool → Type 0
LeavesBits v entries next entries' true = SameBits v entries next entries'
LeavesBits v entries next entries' false = (next.log.records ≡ []) × (entries' ≡ [])

pub record IsRefusedBy (v : View) (entries : List Entry) (next : View) (entries' : List Entry)
    (root : Option ℕ) (ran : Ran) : Type 0 where
  pub inside : is_inside ran.operation ≡ true
  pub looks : LookedAt v entries root ran.operation
  pub refusal : Refusal
  pub first : refusal_by ran.seen v root ran.operation ≡ Some refusal
  pub traced : is_untraced refusal ≡ false
  pub replied : ran.reply ≡ Some (Refused refusal)
  pub left : LeavesBits v entries next entries' (is_action ran.operation)

abbrev pub SimRefuses : Type 0
SimRefuses = (v next : View) (entries entries' : List Entry) (root : Option ℕ) (ran : Ran)
    → Sim v entries → Tells v next ran → MayTell v
    → ((kept : Bool) → Grows v (is_kept_by ran.operation kept) next kept)
    → IsRefusedBy v entries next entries' root ran → Sim next entries'

pub record IsAborted (v : View) (entries : List Entry) (next : View) (root : Option ℕ) (ran : Ran)
    : Type 0 where
  pub number : ℕ
  pub aborts : ran.operation ≡ Abort number
  pub replied : ran.reply ≡ None
  pub looks : LookedAt v entries root ran.operation
  pub unrefused : refusal_by ran.seen v root ran.operation ≡ None
  pub records : next.log.records ≡ []

abbrev pub SimAborts : Type 0
SimAborts = (v next : View) (entries : List Entry) (root : Option ℕ) (ran : Ran)
    → Sim v entries → Tells v next ran → MayTell v
    → ((kept : Bool) → Grows v (is_kept_by ran.operation kept) next kept)
    → IsAborted v entries next root ran → Sim next []

-- ---- A TRANSACTION THAT RECORDED WORDS is rolled back: it puts them back and retires its records

-- the view, with these records in its log
abbrev pub with_records : List Recorded → View → View
with_records records v = record v { log = record v.log { records = records } }

-- a word that they cover is one of an object that the lane found, as far as the object's size says;
-- and without them the lane knows the word as it was before the call
pub record KnowsWithoutRecords (v : View) (records : List Recorded) (p : Place) : Type 0 where
  pub off : ℕ
  pub object : KnowsSize v [] off
  pub found : has_found v object.block ≡ true
  pub index : ℕ
  pub at : p ≡ word_place v object.block index
  pub within : index < words_in v object.block
  pub alive : index / 8 ≤ (object.size + 63) / 64
  pub old : (b : ℕ) (y : Bool) → bit_before (with_records records v) p b ≡ Some y
      → bit_before v p b ≡ Some y

-- with its records the lane would know no less then, and it put back what they cover
pub record RollsBack (v next : View) (op : Operation) : Type 0 where
  pub grows : (kept : Bool) → Grows v (is_kept_by op kept) (with_records v.log.records next) kept
  pub put_back : (p : Place) → is_recorded v.log.records p ≡ true
      → KnowsWithoutRecords next v.log.records p
  pub retired : next.log.records ≡ []

-- the operation is an abort, or is refused and is not on the pending list alone
abbrev pub IsRolledBack : View → List Entry → View → Option ℕ → Ran → Type 0
IsRolledBack v entries next root ran = IsAborted v entries next root ran
    ⊎ ((is_action ran.operation ≡ false) × IsRefusedBy v entries next [] root ran)

abbrev pub SimRollsBack : Type 0
SimRollsBack = (v next : View) (entries : List Entry) (root : Option ℕ) (ran : Ran)
    → Sim v entries → Tells v next ran → MayTell v → RollsBack v next ran.operation
    → IsRolledBack v entries next root ran → Sim next []

-- ---- A WRITE: bytes of an object are put in, in words that the lane knows

-- the words that a range of an object covers have these bytes then, and all other bits stay
pub record PutsBytes (v : View) (entries : List Entry) (next : View) (entries' : List Entry)
    (off at : ℕ) (bytes : List ℕ) : Type 0 where
  pub object : KnowsSize v entries off
  pub inside : at + length bytes ≤ object.size
  pub are_bytes : AreBytes bytes
  -- the words before, by their numbers
  pub words : ℕ → ℕ
  pub knows : (i : ℕ) → Contains (covered_words (off + at) (length bytes)) i
      → KnowsWord v entries object.block (i - (off / 8 - 8)) (words i)
  pub small : (i : ℕ) → Contains (covered_words (off + at) (length bytes)) i
      → written_word (off + at) bytes i (words i) < 2 ^ 64
  pub puts : (i b : ℕ) → Contains (covered_words (off + at) (length bytes)) i → b < 64
      → change_so_far next entries' (word_place v object.block (i - (off / 8 - 8))) b
      ≡ Some (bit (written_word (off + at) bytes i (words i)) b)
  pub others : (p : Place) (b : ℕ)
      → ((i : ℕ) → Contains (covered_words (off + at) (length bytes)) i
      → p ≢ word_place v object.block (i - (off / 8 - 8)))
      → change_so_far next entries' p b ≡ change_so_far v entries p b

-- which bytes the operation puts where, with its reply
abbrev pub Puts : View → List Entry → Ran → ℕ → ℕ → List ℕ → Type 0
Puts v entries ran off at bytes =
    ((id : Oid) × (ran.operation ≡ Write id at bytes) × (id.off ≡ off) × (ran.reply ≡ None))
    ⊎ ((id : Oid) × (by : ℕ) × (words : ℕ → ℕ) × (ran.operation ≡ Increment id at by)
    × (id.off ≡ off) × KnowsRange v entries off at 8 words
    × (bytes ≡ number_bytes ((number_of (bytes_seen words off at 8) + by) % 2 ^ 64))
    × (ran.reply ≡ Some (Number ((number_of (bytes_seen words off at 8) + by) % 2 ^ 64))))

pub record IsWrite (v : View) (entries : List Entry) (next : View) (entries' : List Entry)
    (root : Option ℕ) (ran : Ran) : Type 0 where
  pub looks : LookedAt v entries root ran.operation
  pub unrefused : refusal_by ran.seen v root ran.operation ≡ None
  pub off : ℕ
  pub at : ℕ
  pub bytes : List ℕ
  pub is : Puts v entries ran off at bytes
  pub puts : PutsBytes v entries next entries' off at bytes

abbrev pub SimWrites : Type 0
SimWrites = (v next : View) (entries entries' : List Entry) (root : Option ℕ) (ran : Ran)
    → Sim v entries → Tells v next ran → MayTell v
    → ((kept : Bool) → Grows v (is_kept_by ran.operation kept) next kept)
    → IsWrite v entries next entries' root ran → Sim next entries'
