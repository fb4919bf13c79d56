-- A lane's open call, by its view alone: the words that it makes, and what the plain model's transaction has come to.
use Rattle.std.specs.Prelude.{◌≡◌, ◌≢◌, ◌⊎◌, ℕ, ◌+◌, ◌*◌, ◌/◌, ◌<◌, ◌≤◌, true, false, if◌then◌else◌, List, [], ◌∷◌, ◌++◌, map, length, nat_eq, slice_index, flat_map, All, Contains, None, Some}
use Rattle.std.specs.List.{range_with_len, IsDistinct}
use Rattle.std.specs.List.Sorted.{IsStrictlyIncreasing}
use Rattle.pm_header.specs.declared.header.Header.{Header}
use Rattle.pm_objects.specs.Pool.{object_at, offsets}
use Rattle.pm_objects.specs.declared.calls.Want.{Want}
use Rattle.pm_objects.specs.declared.history.TxErr.{TxErr}
use Rattle.pm_objects.specs.declared.pool.Object.{Object}
use Rattle.pm_objects.specs.declared.pool.PoolView.{PoolView}
use Rattle.pm_image.specs.declared.block.Block.{Block}
use Rattle.pm_image.specs.Blocks.{blocks}
use Rattle.pm_image.specs.Contents.{size_in}
use Rattle.pm_image.specs.Reads.{Reads}
use Rattle.solo_model.specs.declared.stage.Stage.{Stage}
use Rattle.solo_model.specs.declared.stage.Stage.TheVariants as stage
use Rattle.solo_model.specs.Transaction.{Transaction, Lock as Locked, resting, is_working}
use Rattle.solo_model.specs.Answers.{Told as Answered, Answers, after}
use Rattle.solo_model.specs.Actions.{Action, Pending, end_of, object_of, with_actions}
use Rattle.solo_model.specs.Step.{Step, with_pending}
use Rattle.solo_view.specs.Area.{is_in_area}
use Rattle.solo_view.specs.Blocks.{is_chunk}
use Rattle.solo_view.specs.Log.{Recorded}
use Rattle.solo_view.specs.View.{View, Lock}
use Rattle.solo_world.specs.History.{made_final}
use Rattle.solo_world.specs.Records.{IsRecordAt, is_recorded, pool_entries}
use Rattle.solo_crash.specs.CallBlocks.{CallBlocks, IsMadeIn, KeepsBlocks, MayPrecede, NewObject, allocated_in, block_of, blocks_in, is_freed_in, is_gone_in, is_made_in, is_new_in, object_made}
use Rattle.solo_crash.specs.HeapChanges.{AreDisjoint}
use Rattle.solo_crash.specs.Locks.{AreSameLocks}
use Rattle.solo_crash.specs.Held.{HoldsPool}
use Rattle.solo_crash.specs.NewObjects.{IsChunkWord, IsWordOf}
use Rattle.solo_crash.specs.Pending.{act_of, pending_before, pending_in, published_in, told_in}
use Rattle.solo_crash.specs.Performing.{CanPerform, IsWord}

-- the lock of a line is that of the object whose block begins there
abbrev pub lock_of : Lock → Locked
lock_of l = record { off = 64 * l.line + 64; write = l.write }

abbrev pub locks_of : View → List Locked
locks_of v = map lock_of v.locks

-- the lock that is wanted
abbrev pub lock_wanted : Want → Locked
lock_wanted want = record { off = want.id.off; write = want.write }

-- the words of a record, and of all
abbrev pub words_of_record : Recorded → List ℕ
words_of_record r = range_with_len r.word (length r.old)

abbrev pub words_recorded : List Recorded → List ℕ
words_recorded records = flat_map words_of_record records

-- the block that was found to begin at a line
abbrev pub block_at_line : ℕ → ℕ → Block
block_at_line line lines = record { place = 64 * line; lines = lines }

-- the word is one of a block that the lane found under one of its locks
pub record IsUnderBlock (v : View) (i : ℕ) : Type 0 where
  pub lock : Lock
  pub lines : ℕ
  pub held : Contains v.locks lock
  pub found : lock.block ≡ Some lines
  pub from : 8 * lock.line ≤ i
  pub to : i < 8 * (lock.line + lines)

-- so is each word that it recorded
abbrev pub RecordsUnder : View → Type 0
RecordsUnder v = (i : ℕ) → is_recorded v.log.records i ≡ true → IsUnderBlock v i

-- `w` may be the words before the open call: they are what the lane recorded, what it knows of the blocks that it found under its locks and did not record, and they
-- have those blocks. What it stored in blocks that are free, or knows of them, is no matter
pub record IsBefore (v : View) (w : ℕ → ℕ) : Type 0 where
  pub recorded : (slot : ℕ) (r : Recorded) (i : ℕ) → IsRecordAt v slot r → i < length r.old → w (r.word + i) ≡ slice_index r.old i
  pub known : (i : ℕ) → Contains v.known i → is_in_area v.lane i ≡ false → is_recorded v.log.records i ≡ false → IsUnderBlock v i → w i ≡ slice_index v.words i
  pub found : (l : Lock) (lines : ℕ) → Contains v.locks l → l.block ≡ Some lines → Contains (blocks w v.lanes v.zones) (block_at_line l.line lines)

-- the words as the open call has stored them over those before it: what it recorded is as it left it
abbrev pub call_words : View → (ℕ → ℕ) → ℕ → ℕ
call_words v w i = if is_recorded v.log.records i then slice_index v.words i else w i

-- the words as the call makes them of those before it: those, with what its entries make of them
abbrev pub made_words : View → (ℕ → ℕ) → ℕ → ℕ
made_words v w i = made_final (pool_entries v) i (call_words v w i)

-- the call turns the one pool into the other, as the plain model does, whatever is pending for other lanes
abbrev pub Turns : View → PoolView → PoolView → Type 0
Turns v pool next = (actions : ℕ → Pending) → actions v.lane ≡ pending_before v
    → Step (record { pool = pool; actions = actions }) (act_of v) (record { pool = next; actions = with_pending actions v.lane (pending_in v) })

-- the transaction comes from one state to another by these operations with their replies, in work before each
unfoldable pub GoesOn : Transaction → List Answered → Transaction → Type 0
GoesOn tx [] now = now ≡ tx
GoesOn tx (t ∷ told) now = (is_working tx.stage ≡ true) × Answers tx t.operation t.reply × GoesOn (after t tx) told now

-- these operations with their replies, from a pool where none is open and these actions are pending, lead to this state of a transaction
unfoldable pub RunsTo : PoolView → Pending → List Answered → Transaction → Type 0
RunsTo pool actions [] now = now ≡ resting pool actions
RunsTo pool actions (t ∷ told) now = Answers (resting pool actions) t.operation t.reply × GoesOn (after t (resting pool actions)) told now

-- the one pool is the other with what the open call made, and without what it freed
pub record IsChanged (v : View) (base pool : PoolView) : Type 0 where
  pub fixed : pool ≡ record base { objects = pool.objects }
  pub rising : IsStrictlyIncreasing (offsets pool.objects)
  pub new : (n : NewObject) → Contains (blocks_in v).made n → object_at pool.objects n.off ≡ Some (object_made v n)
  pub gone : (off : ℕ) → is_freed_in v off ≡ true → object_at pool.objects off ≡ None
  pub others : (off : ℕ) → is_made_in v off ≡ false → is_freed_in v off ≡ false → object_at pool.objects off ≡ object_at base.objects off

-- where an object of the pool stood, and of how many bytes
abbrev pub place_and_size : ℕ × Object → ℕ × ℕ
place_and_size entry = (entry.0, length entry.1.bytes)

-- the transaction keeps these lists of what the call made and freed
pub record TracksBlocks (tx : Transaction) (b : CallBlocks) : Type 0 where
  pub made : tx.made ≡ map (λ (n : NewObject). n.off) b.made
  pub dropped : map place_and_size tx.dropped ≡ map (λ (n : NewObject). (n.off, n.size)) b.dropped
  pub freed : tx.freed ≡ b.freed

-- the action lies in an object that the open call made, whether it has it still or freed it again
pub record LiesInNew (v : View) (a : Action) : Type 0 where
  pub new : NewObject
  pub is_new : Contains ((blocks_in v).made ++ (blocks_in v).dropped) new
  pub begins : new.off ≡ (object_of a).off
  pub behind : 64 ≤ new.off
  pub inside : end_of a ≤ new.size
  pub whole : IsWord a

-- an action that the open call published lies in a block of these words, or in what the call made, and so in none of theirs
abbrev pub IsPerformable : View → (ℕ → ℕ) → Action → Type 0
IsPerformable v w a = CanPerform w v.lanes v.zones a ⊎ LiesInNew v a

-- what the open call came to, from words that hold a pool: the model's transaction, with the locks and the records that the lane has, and its pending
-- actions. The words made so far hold a pool, and the transaction's copy is that one with what the call made and freed: a new object stands in no
-- allocated block, and a freed one is there, until the call is published. The words have the blocks that they had, of their sizes, and each action
-- that the call published lies in one of them, or in a new object
pub record ComesTo (v : View) (w : ℕ → ℕ) (header : Header) (pool : PoolView) (level : ℕ) (at_stage : Stage) (error : TxErr) : Type 0 where
  pub tx : Transaction
  pub runs : RunsTo pool (pending_before v) (told_in v) tx
  pub base : PoolView
  pub holds : HoldsPool (call_words v w) v.lanes v.zones header base
  pub changed : IsChanged v base tx.pool
  pub unfound : (off : ℕ) → is_new_in v off ≡ true → object_at base.objects off ≡ None
  pub tracks : TracksBlocks tx (blocks_in v)
  pub before : tx.before ≡ pool
  pub locks : AreSameLocks tx.locks (locks_of v)
  pub recorded : tx.recorded ≡ words_recorded v.log.records
  pub records : tx.records ≡ length v.log.records
  pub levels : tx.level ≡ level
  pub stands : tx.stage ≡ at_stage
  pub fails : tx.error ≡ error
  pub actions : tx.actions ≡ pending_in v
  pub moved : tx.moved ≡ published_in v
  pub performable : All (IsPerformable v w) (published_in v)
  pub blocks_stay : blocks (call_words v w) v.lanes v.zones ≡ blocks w v.lanes v.zones
  pub sizes_stay : (block : Block) → Contains (blocks w v.lanes v.zones) block → size_in (call_words v w) block ≡ size_in w block

-- no block that the call made overlaps one that it found under a lock
abbrev pub LieApart : View → Type 0
LieApart v = (n : NewObject) (l : Lock) (lines : ℕ) → Contains (blocks_in v).made n → Contains v.locks l → l.block ≡ Some lines → AreDisjoint (block_of n) (block_at_line l.line lines)

-- What the call made and has stands in the lane's words, once at an offset. It is listed with all that it allocated, and not gone; and its block lies apart from
-- those of what else it made, whether it has that or freed it again, and of what it found.
pub record HasMade (v : View) : Type 0 where
  pub each : (n : NewObject) → Contains (blocks_in v).made n → IsMadeIn v n
  pub listed : (n : NewObject) → Contains (blocks_in v).made n → Contains (allocated_in v) n
  pub kept : (n : NewObject) → Contains (blocks_in v).made n → is_gone_in v n.off ≡ false
  pub once : IsDistinct nat_eq (map (λ (n : NewObject). n.off) (blocks_in v).made)
  pub apart_new : (n m : NewObject) → Contains (blocks_in v).made n → Contains (blocks_in v).made m → n.off ≢ m.off → AreDisjoint (block_of n) (block_of m)
  pub apart_gone : (n m : NewObject) → Contains (blocks_in v).made n → Contains (blocks_in v).dropped m → AreDisjoint (block_of n) (block_of m)
  pub apart_found : LieApart v

-- The lane has a call under way at this level, in this stage and with this error, whatever pool the words before it hold, if that may be the one before
-- what it allocated and freed. It holds 64 locks at most, each of a line of a chunk where it found a block there, recorded words of those blocks alone, has no redo
-- entries, which come with the commit, and has in its words what it made, apart from what it found
pub record IsUnderWay (v : View) (level : ℕ) (at_stage : Stage) (error : TxErr) : Type 0 where
  pub in_lanes : v.lane < v.lanes
  pub few : length v.locks ≤ 64
  pub chunks : (l : Lock) (lines : ℕ) → Contains v.locks l → l.block ≡ Some lines → is_chunk v.lanes (l.line / 64) ≡ true
  pub outside : (i : ℕ) → is_recorded v.log.records i ≡ true → is_in_area v.lane i ≡ false
  pub under : RecordsUnder v
  pub unentered : v.log.entries ≡ []
  pub has : HasMade v
  pub comes : (w : ℕ → ℕ) (header : Header) (pool : PoolView) → HoldsPool w v.lanes v.zones header pool → v.pool ≡ header.id → IsBefore v w → MayPrecede pool v
      → ComesTo v w header pool level at_stage error

-- so it has, and allocated and freed nothing so far
pub record IsOpen (v : View) (level : ℕ) (at_stage : Stage) (error : TxErr) : Type 0 where
  pub under_way : IsUnderWay v level at_stage error
  pub keeps : KeepsBlocks v

-- what a call that was given up came to: the pool is as before it
pub record ComesToNothing (v : View) (pool : PoolView) (error : TxErr) : Type 0 where
  pub tx : Transaction
  pub runs : RunsTo pool (pending_before v) (told_in v) tx
  pub stands : tx.stage ≡ stage.OnAbort
  pub fails : tx.error ≡ error
  pub actions : tx.actions ≡ pending_in v
  pub unchanged : tx.pool ≡ pool

-- the lane's call was aborted with this error, whatever pool the words before it hold, if that may be the one before what it allocated and freed. It recorded words of
-- the blocks that it found alone
pub record WasAborted (v : View) (error : TxErr) : Type 0 where
  pub outside : (i : ℕ) → is_recorded v.log.records i ≡ true → is_in_area v.lane i ≡ false
  pub under : RecordsUnder v
  pub comes : (w : ℕ → ℕ) (header : Header) (pool : PoolView) → HoldsPool w v.lanes v.zones header pool → v.pool ≡ header.id → IsBefore v w → MayPrecede pool v
      → ComesToNothing v pool error

-- so it was, and each pool may be the one before it: it told nothing of the heap
pub record IsGivenUp (v : View) (error : TxErr) : Type 0 where
  pub aborted : WasAborted v error
  pub any_pool : (pool : PoolView) → MayPrecede pool v

-- The committed call turns the pool before it into its transaction's copy with what it published performed. The words that it stored hold a pool, and the
-- copy is that one with what the call made and freed. What it made lies apart from their blocks, and their meaning reads no word that it did not read before
pub record CommitsTo (v : View) (w : ℕ → ℕ) (header : Header) (pool : PoolView) : Type 0 where
  pub base : PoolView
  pub copy : PoolView
  pub holds : HoldsPool (call_words v w) v.lanes v.zones header base
  pub changed : IsChanged v base copy
  pub unfound : (off : ℕ) → is_new_in v off ≡ true → object_at base.objects off ≡ None
  pub performable : All (IsPerformable v (call_words v w)) (published_in v)
  pub apart : (n : NewObject) (block : Block) → Contains (blocks_in v).made n → Contains (blocks (call_words v w) v.lanes v.zones) block → AreDisjoint (block_of n) block
  pub reads : (i : ℕ) → Reads (call_words v w) v.lanes v.zones i → Reads w v.lanes v.zones i
  pub turns : Turns v pool (with_actions (published_in v) copy)

-- the lane's call is committed, whatever pool the words before it hold, if that may be the one before what it allocated and freed; it has in its words what it made
pub record IsCommitted (v : View) : Type 0 where
  pub outside : (i : ℕ) → is_recorded v.log.records i ≡ true → is_in_area v.lane i ≡ false
  pub has : HasMade v
  pub comes : (w : ℕ → ℕ) (header : Header) (pool : PoolView) → HoldsPool w v.lanes v.zones header pool → v.pool ≡ header.id → IsBefore v w → MayPrecede pool v
      → CommitsTo v w header pool

-- the call makes a step of the plain model: from words that hold a pool it makes words that hold the next one
pub record MakesStep (v : View) (w : ℕ → ℕ) (header : Header) (pool : PoolView) : Type 0 where
  pub next : PoolView
  pub holds : HoldsPool (made_words v w) v.lanes v.zones header next
  pub steps : Turns v pool next

-- the lane's call is whole, and a step of the plain model, whatever pool the words before it hold. It recorded no word of its own area
pub record IsWholeCall (v : View) : Type 0 where
  pub outside : (i : ℕ) → is_recorded v.log.records i ≡ true → is_in_area v.lane i ≡ false
  pub makes : (w : ℕ → ℕ) (header : Header) (pool : PoolView) → HoldsPool w v.lanes v.zones header pool → v.pool ≡ header.id → IsBefore v w
      → MakesStep v w header pool

-- what the call made is free by the words: it lies in chunks, and their meaning reads no word of it
pub record LeavesFree (v : View) (w : ℕ → ℕ) (n : NewObject) : Type 0 where
  pub in_chunks : (i : ℕ) → IsWordOf (block_of n) i → IsChunkWord v.lanes v.zones i
  pub unread : (i : ℕ) → IsWordOf (block_of n) i → ¬ Reads w v.lanes v.zones i

-- the lane's call is a step of the plain model from each pool that may be the one before what it allocated and freed, in words by which what it made is free, whether
-- it has that or freed it again. It recorded no word of its own area
pub record MakesItsStep (v : View) : Type 0 where
  pub outside : (i : ℕ) → is_recorded v.log.records i ≡ true → is_in_area v.lane i ≡ false
  pub makes : (w : ℕ → ℕ) (header : Header) (pool : PoolView) → HoldsPool w v.lanes v.zones header pool → v.pool ≡ header.id → IsBefore v w → MayPrecede pool v
      → All (LeavesFree v w) ((blocks_in v).made ++ (blocks_in v).dropped) → MakesStep v w header pool
