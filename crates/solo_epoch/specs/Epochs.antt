-- What a lane that is alone publishes over the pool that its words hold: blocks for new objects, blocks freed, words of objects set (docs/MODEL.md, "From call to
-- call").
use Rattle.std.specs.Prelude.{◌≡◌, ◌≢◌, ◌⊎◌, ◌↔◌, ℕ, ◌+◌, ◌*◌, ◌<◌, ◌≤◌, ◌^◌, IsTrue, Contains, true, false, length, All, List, [], ◌∷◌, ◌++◌, map, nat_eq, slice_index, Some}
use Rattle.pm_layout.specs.Sizes.{blocks_of, descriptor_of}
use Rattle.pm_layout.specs.declared.class.Class.TheVariants.{Chunks, Lines}
use Rattle.pm_layout.specs.declared.shape.Shape.{Shape}
use Rattle.pm_header.specs.declared.header.Header.{Header}
use Rattle.pm_objects.specs.declared.pool.PoolView.{PoolView}
use Rattle.pm_image.specs.Blocks.{descriptor_word}
use Rattle.pm_image.specs.Contents.{offset_in}
use Rattle.solo_view.specs.declared.occ.Occ.{Occ}
use Rattle.solo_view.specs.Held.{is_held}
use Rattle.solo_view.specs.View.{Lock, Taken, View}
use Rattle.solo_view.specs.Founds.{IsAlone}
use Rattle.solo_view.specs.Occupancy.{is_taken}
use Rattle.solo_view.specs.Steps.{Step}
use Rattle.solo_view.specs.Steps.Step.{Draw, Load}
use Rattle.solo_view.specs.Views.{after, has_bit, is_made, occ_in, reserves, changes_heap}
use Rattle.std.specs.Int.{bit_at}
use Rattle.std.specs.List.{AllZip, IsDistinct, list_any}
use Rattle.solo_world.specs.Entries.{ends_with, is_entered}
use Rattle.solo_world.specs.Heap.{IsOcc, has_taken}
use Rattle.solo_world.specs.Lawful.{Allowed, OnlyFilled, generation_limit}
use Rattle.solo_world.specs.Lanes.{IsOfShape}
use Rattle.solo_world.specs.Records.{generation_of}
use Rattle.solo_undo.specs.Working.{IsWorking}
use Rattle.solo_memory.specs.Solo.{AreNumbered}
use Rattle.solo_world.specs.Fits.{IsLane}
use Rattle.solo_world.specs.Opens.{IsClean}
use Rattle.std.specs.Option.{ForSome}
use Rattle.solo_crash.specs.Alone.{WorksAlone, standing}
use Rattle.solo_crash.specs.CallBlocks.{NewObject, blocks_in}
use Rattle.solo_crash.specs.CallChanges.{bytes_published}
use Rattle.solo_crash.specs.HeapChanges.{HeapChange}
use Rattle.solo_crash.specs.HeapChanges.HeapChange.{AllocatesChunks, AllocatesInRun, FreesChunks, FreesInRun}
use Rattle.solo_crash.specs.NewObjects.{block_of_chunks, block_of_run}
use Rattle.solo_crash.specs.Held.{HoldsImage, HoldsPool}
use Rattle.solo_reclaim.specs.KnownTaken.{IsKept, KnowsTaken}
use Rattle.solo_reclaim.specs.Reclaims.{AreOfPool}
use Rattle.solo_crash.specs.Reserved.{IsBorneOut, IsReservedInChunks, IsReservedInRun}
use Rattle.solo_crash.specs.Publishing.Published.{Changes, Performs}
use Rattle.solo_crash.specs.Publishing.{AreInOrder, CanPublish, HaveTheirObjects, Published, entry_published}
use Rattle.solo_crash.specs.Taken.{AllocatesBit, FreesBit, TakenBehindAll}
use Rattle.solo_sealed.specs.Sealed.{MaySeal, Publishes}
use Rattle.solo_world.specs.Opening.{IsChunk, Opening}
use Rattle.solo_model.specs.Names.{Replays}
use Rattle.solo_model.specs.History.{opened}
use Rattle.solo_model.specs.declared.stage.Stage.{Stage}
use Rattle.pm_objects.specs.declared.history.TxErr.{TxErr}
use Rattle.solo_crash.specs.OpenCall.{ComesTo, CommitsTo, IsCommitted}
use Rattle.solo_crash.specs.Pending.{acts_alone, published_in, state_alone}
use Rattle.solo_view.specs.Log.{Final, no_log}
use Rattle.solo_view.specs.Log.Phase.{Idle}

-- The lane's log has an entry for each of these, in their order, and behind them the one that ends its generation. An image of its words holds the pool before
-- the call, and as they stand they hold the pool that the call made so far, on which each of these may be published: what is new stands in its block once the
-- actions among them are performed.
pub record HasEntriesFor (v : View) (header : Header) (before now : PoolView) (all : List Published) : Type 0 where
  pub entries : v.log.entries ≡ map (entry_published v.lanes) all ++ ends_with v (generation_of v + 1) ∷ []
  pub below : generation_of v < generation_limit
  pub was : HoldsImage v.words v.lanes v.zones header before
  pub holds : HoldsPool (slice_index v.words) v.lanes v.zones header now
  pub can : All (CanPublish (slice_index v.words) v.lanes v.zones) all
  pub objects : HaveTheirObjects (slice_index v.words) v.lanes all
  pub ordered : AreInOrder v.lanes all

-- the lane may publish these: it may seal a log that has an entry for each
pub record MayPublish (b : View) (header : Header) (before now : PoolView) (all : List Published) : Type 0 where
  pub seal : MaySeal b
  pub has : HasEntriesFor b header before now all

-- The change allocates the object's block in the run where the lane reserved it, for its type and the bytes that it is published with.
pub record AllocatesInItsRun (v : View) (change : HeapChange) (n : NewObject) : Type 0 where
  pub reserved : IsReservedInRun v n
  pub is : change ≡ AllocatesInRun reserved.chunk reserved.lines reserved.index n.kind (bytes_published v n)

-- so it does with the chunks that the lane reserved for it
pub record AllocatesItsChunks (v : View) (change : HeapChange) (n : NewObject) : Type 0 where
  pub reserved : IsReservedInChunks v n
  pub is : change ≡ AllocatesChunks (64 * reserved.zone + reserved.first) reserved.count n.kind (bytes_published v n)

abbrev pub AllocatesIts : View → HeapChange → NewObject → Type 0
AllocatesIts v change n = AllocatesInItsRun v change n ⊎ AllocatesItsChunks v change n

-- The change frees the block of the object that begins so, in the run that the lane's words describe, which the lane found under a lock that it has; it is not
-- the root's.
pub record FreesInItsRun (v : View) (change : HeapChange) (off : ℕ) : Type 0 where
  pub chunk : ℕ
  pub lines : ℕ
  pub index : ℕ
  pub in_pool : chunk < 64 * v.zones
  pub inside : index < blocks_of lines
  pub described : slice_index v.words (descriptor_word v.lanes chunk) ≡ descriptor_of (Lines lines)
  pub begins : offset_in (block_of_run v.lanes chunk lines index) ≡ off
  pub lock : Lock
  pub held : Contains v.locks lock
  pub found : lock.block ≡ Some lines
  pub of_line : (block_of_run v.lanes chunk lines index).place ≡ 64 * lock.line
  pub not_root : slice_index v.words 64 ≢ off
  pub is : change ≡ FreesInRun chunk lines index

-- so it does with the object's chunks, the first of which the lane's words describe so
pub record FreesItsChunks (v : View) (change : HeapChange) (off : ℕ) : Type 0 where
  pub chunk : ℕ
  pub count : ℕ
  pub in_pool : chunk < 64 * v.zones
  pub described : slice_index v.words (descriptor_word v.lanes chunk) ≡ descriptor_of (Chunks count)
  pub begins : offset_in (block_of_chunks v.lanes chunk count) ≡ off
  pub not_root : slice_index v.words 64 ≢ off
  pub is : change ≡ FreesChunks chunk count

abbrev pub FreesIts : View → HeapChange → ℕ → Type 0
FreesIts v change off = FreesInItsRun v change off ⊎ FreesItsChunks v change off

-- The lane's log has what its call publishes, each thing by one entry: first the call's actions, in their order; then it frees the block of each object that
-- the call found and freed, none of them twice; then it allocates that of each that the call made. Behind these stands the entry that ends the generation.
pub record HasEnteredCall (v : View) (all : List Published) : Type 0 where
  pub freed : List HeapChange
  pub made : List HeapChange
  pub are : all ≡ map Performs (published_in v) ++ map Changes (freed ++ made)
  pub entries : v.log.entries ≡ map (entry_published v.lanes) all ++ ends_with v (generation_of v + 1) ∷ []
  pub not_last : generation_of v < generation_limit
  pub frees : AllZip (FreesIts v) freed (blocks_in v).freed
  pub once_freed : IsDistinct nat_eq (blocks_in v).freed
  pub allocates : AllZip (AllocatesIts v) made (blocks_in v).made
  pub once_made : IsDistinct nat_eq (map (λ (n : NewObject). n.off) (blocks_in v).made)

-- a bit of an occupancy word that the change makes taken, or free
abbrev pub ChangesBit : ℕ → HeapChange → Occ → ℕ → Type 0
ChangesBit lanes change at bit = AllocatesBit lanes change at bit ⊎ FreesBit lanes change at bit

-- the two changes have no bit in common
abbrev pub HasNoBitOf : ℕ → HeapChange → HeapChange → Type 0
HasNoBitOf lanes change other = (at : Occ) (bit : ℕ) → ChangesBit lanes change at bit → ChangesBit lanes other at bit → ⊥

-- no two of these have
abbrev pub AreOfOwnBits : ℕ → List HeapChange → Type 0
AreOfOwnBits lanes [] = Unit {0}
AreOfOwnBits lanes (change ∷ others) = All (HasNoBitOf lanes change) others × AreOfOwnBits lanes others

-- of the pool's chunks, of so many lanes, that the lane reserved none is a run
abbrev pub ReservesNoRun : ℕ → View → Type 0
ReservesNoRun lanes v = (page : ℕ) → IsChunk lanes page → is_made v page ≡ false

-- The lane is alone and at work on a pool of this shape, holds no zone's lock, and has entered no change of a block; it has a picture of each occupancy word,
-- and no chunk that it reserved is a run.
pub record IsAtWorkAlone (v : View) (shape : Shape) : Type 0 where
  pub alone : IsAlone v
  pub working : IsWorking v
  pub of_shape : IsOfShape v shape
  pub unlocked : v.zone_locks ≡ []
  pub plain : changes_heap v ≡ false
  pub zones : v.zones ≤ length v.zone_words
  pub runs : 1 + 2 * v.lanes + 65 * v.zones ≤ length v.run_words
  pub no_run : ReservesNoRun v.lanes v

-- ---- before its call draws

-- As an image the lane's words hold the pool to which its calls lead from this pool, one whole call after another.
pub record HoldsCalls (o : Opening) (w : View) (header : Header) (pool : PoolView) : Type 0 where
  pub before : PoolView
  pub holds : HoldsImage w.words o.lanes o.zones header before
  pub replays : Replays (opened pool) (acts_alone w.entries) (state_alone before w.entries)

-- So they do. The open call came to a transaction from these words behind the calls before it; and as they stand the words hold the pool of the words that
-- the call stored, of which the transaction's copy is that with what the call made and without what it freed.
pub record HoldsOpenCall (o : Opening) (w : View) (header : Header) (pool : PoolView) (level : ℕ) (at_stage : Stage) (error : TxErr) : Type 0 where
  pub held : HoldsCalls o w header pool
  pub words : ℕ → ℕ
  pub comes : ComesTo w words header held.before level at_stage error
  pub holds : HoldsPool (slice_index w.words) o.lanes o.zones header comes.base

-- So they do, and the committed call turns their pool into its transaction's copy with what it published performed. As they stand the words hold the pool of
-- the words that the call stored, of which the copy is that with what the call made and without what it freed.
pub record HoldsCommitted (o : Opening) (u : View) (header : Header) (pool : PoolView) : Type 0 where
  pub held : HoldsCalls o u header pool
  pub words : ℕ → ℕ
  pub to : CommitsTo u words header held.before
  pub holds : HoldsPool (slice_index u.words) o.lanes o.zones header to.base

-- ---- between its calls

-- The lane rests behind a call: its log is empty, with nothing undrained but words that it filled and nothing locked, and no chunk that it reserved is a run.
pub record RestsBehindCall (w : View) : Type 0 where
  pub idle : w.log ≡ no_log Idle
  pub changes : OnlyFilled w
  pub free : w.locks ≡ []
  pub unlocked : w.zone_locks ≡ []
  pub no_run : ReservesNoRun w.lanes w
  pub number : ℕ
  pub numbered : w.number ≡ Some number

-- The lane has of the heap what it had: its pictures of the occupancy words, what it reserved and what it freed; and its calls and its number are the same.
pub record HasSameHeap (v w : View) : Type 0 where
  pub runs : w.run_words ≡ v.run_words
  pub zones : w.zone_words ≡ v.zone_words
  pub reserved : w.reserved ≡ v.reserved
  pub freed : w.freed ≡ v.freed
  pub entries : w.entries ≡ v.entries
  pub number : w.number ≡ v.number

-- ---- behind its log

-- As its call has drawn, it is so of what is taken once all of this is published.
pub record PromisesTaken (v : View) (all : List Published) : Type 0 where
  pub pages : length v.run_words ≡ 1 + 2 * v.lanes + 65 * v.zones
  pub zone_count : length v.zone_words ≡ 32
  pub bits : (at : Occ) (bit : ℕ) → IsOcc v.lanes v.zones at → bit < 64
      → (bit_at (occ_in v at) bit ≡ 1) ↔ (TakenBehindAll v.lanes all at bit (is_taken (slice_index v.words) v.lanes at bit ≡ true) ⊎ (has_taken v at bit ≡ true))
  pub apart : (at : Occ) (bit : ℕ) → IsOcc v.lanes v.zones at → bit < 64 → IsKept v at bit → ¬ TakenBehindAll v.lanes all at bit (is_taken (slice_index v.words) v.lanes at bit ≡ true)
  pub once : (at : Occ) (bit : ℕ) → IsOcc v.lanes v.zones at → bit < 64 → reserves v at bit ≡ true → list_any (has_bit at bit) v.freed ≡ false

-- The lane's call has ended: it is alone, its log is empty with nothing undrained, and each log is clean. An image of its words holds a pool to which its calls
-- lead from this one, and it knows what is taken. It may have locks to give back still, and blocks that it freed or reserved.
pub record HasEnded (o : Opening) (header : Header) (pool : PoolView) (v : View) : Type 0 where
  pub now : PoolView
  pub holds : HoldsImage v.words o.lanes o.zones header now
  pub replays : Replays (opened pool) (acts_alone v.entries) (state_alone now v.entries)
  pub clean : (j : ℕ) → j < o.lanes → IsClean (standing o v) j
  pub lane : IsLane (standing o v) 0 v
  pub held : (w : ℕ) → Contains v.known w → IsTrue (is_held v w)
  pub drained : v.changes ≡ []
  pub idle : v.log ≡ no_log Idle
  pub of_pool : All (λ (t : Taken). IsOcc o.lanes o.zones t.at) v.reserved
  pub small : All (λ (t : Taken). t.bits < 2 ^ 64) v.reserved
  pub freed_of_pool : AreOfPool o.lanes o.zones v.freed
  pub taken : KnowsTaken v
  pub within : ForSome v.stop (λ stop. v.calls ≤ stop)
  pub of_header : v.pool ≡ header.id
  pub alone : IsAlone v
  pub numbered : AreNumbered 1 v.entries
  pub newest : v.number ≡ Some (length v.entries)
  pub few : length v.entries < generation_limit + 32

-- one of these makes the bit taken, or one of these makes it free
abbrev pub SomeAllocates : ℕ → List Published → Occ → ℕ → Type 0
SomeAllocates lanes [] at bit = ⊥
SomeAllocates lanes (Performs action ∷ all) at bit = SomeAllocates lanes all at bit
SomeAllocates lanes (Changes change ∷ all) at bit = AllocatesBit lanes change at bit ⊎ SomeAllocates lanes all at bit

abbrev pub SomeFrees : ℕ → List Published → Occ → ℕ → Type 0
SomeFrees lanes [] at bit = ⊥
SomeFrees lanes (Performs action ∷ all) at bit = SomeFrees lanes all at bit
SomeFrees lanes (Changes change ∷ all) at bit = FreesBit lanes change at bit ⊎ SomeFrees lanes all at bit

-- what these allocate the lane reserved
abbrev pub AllocatesOwn : View → List Published → Type 0
AllocatesOwn v all = (at : Occ) (bit : ℕ) → SomeAllocates v.lanes all at bit → reserves v at bit ≡ true

-- As its call draws, what the lane publishes leaves what it reserved, and what it frees it has from then on, until it gives it back. It allocates what it
-- reserved, and frees what its words say is taken.
pub record HandsOver (v w : View) (all : List Published) : Type 0 where
  pub left : (at : Occ) (bit : ℕ) → IsOcc v.lanes v.zones at → bit < 64 → reserves v at bit ≡ true → (reserves w at bit ≡ true) ⊎ SomeAllocates v.lanes all at bit
  pub reserved : (at : Occ) (bit : ℕ) → IsOcc v.lanes v.zones at → bit < 64 → reserves w at bit ≡ true → (reserves v at bit ≡ true) × ¬ SomeAllocates v.lanes all at bit
  pub freed : (at : Occ) (bit : ℕ) → IsOcc v.lanes v.zones at → bit < 64 → (list_any (has_bit at bit) w.freed ≡ true) ↔ SomeFrees v.lanes all at bit
  pub own : (at : Occ) (bit : ℕ) → IsOcc v.lanes v.zones at → bit < 64 → SomeAllocates v.lanes all at bit → reserves v at bit ≡ true
  pub taken : (at : Occ) (bit : ℕ) → IsOcc v.lanes v.zones at → bit < 64 → SomeFrees v.lanes all at bit → is_taken (slice_index v.words) v.lanes at bit ≡ true

-- the step loads no word that one of these entries is of
abbrev pub LoadsNoneOf : List Final → Step → Type 0
LoadsNoneOf entries (Load i found) = is_entered entries i ≡ false
LoadsNoneOf entries s = Unit {0}

-- A lane worked alone to where its committed call draws this number, with a log that has what the call publishes; and what the lane has bears out what the call told
-- of the heap. Since the draw it made steps that publish the log. The numbers drawn are its own.
pub record IsPublishing (o : Opening) (header : Header) (pool : PoolView) (u : View) (n : ℕ) (all : List Published) (w : View) : Type 0 where
  pub start : View
  pub steps : List Step
  pub works : WorksAlone o header pool start steps u
  pub draws : Allowed u (Draw n)
  pub committed : IsCommitted u
  pub borne_out : IsBorneOut u
  pub entered : HasEnteredCall u all
  pub log_steps : List Step
  pub publishes : Publishes (after u (Draw n)) log_steps w
  pub numbered : AreNumbered 1 w.entries

-- It published to its log's end, and since the draw loaded no word that an entry is of; and no chunk that it had reserved is a run.
pub record PublishesAlone (o : Opening) (header : Header) (pool : PoolView) (u : View) (n : ℕ) (all : List Published) (w : View) : Type 0 where
  pub publishing : IsPublishing o header pool u n all w
  pub no_run : ReservesNoRun u.lanes u
  pub loads : All (LoadsNoneOf u.log.entries) publishing.log_steps
  pub over : w.log.phase ≡ Idle
  pub within : ForSome w.stop (λ stop. w.calls ≤ stop)
