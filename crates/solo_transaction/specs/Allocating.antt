-- An object made in a transaction (pmemobj_tx_alloc(3)): what that needs, and what it leaves, done, refused or stopped: docs/MODEL.md, "Transactions that make
-- objects".
use Rattle.std.specs.Prelude.{◌≡◌, ℕ, ◌+◌, ◌≤◌, List, Some}
use Rattle.std.specs.Option.{ForSome}
use Rattle.pm_header.specs.declared.header.Header.{Header}
use Rattle.pm_image.specs.declared.block.Block.{Block}
use Rattle.pm_layout.specs.Sizes.{class_of}
use Rattle.solo_memory.specs.declared.lane_mem.Stopped.{Stopped}
use Rattle.pm_objects.specs.declared.calls.Operation.TheVariants.{Alloc}
use Rattle.pm_objects.specs.declared.history.Value.TheVariants.{Refused}
use Rattle.pm_objects.specs.declared.ids.Oid.{Oid}
use Rattle.pm_objects.specs.declared.pool.PoolView.{PoolView}
use Rattle.pm_objects.specs.declared.refusal.Refusal.{Refusal}
use Rattle.pm_objects.specs.declared.refusal.Refusal.TheVariants as refusal
use Rattle.solo_view.specs.Steps.{Step}
use Rattle.solo_view.specs.View.{View}
use Rattle.solo_world.specs.Opening.{Opening}
use Rattle.solo_world.specs.declared.lane.Lane.{Lane}
use Rattle.solo_world.specs.declared.lane.Span.{Span}
use Rattle.solo_blocks.specs.AnyBlocks.{HasNoRoom}
use Rattle.solo_blocks.specs.declared.making.NoBlock.TheVariants as no_block
use Rattle.solo_alloc.specs.NewObjects.{CanMakeObject, GivesNoObject, HasNewObject}
use Rattle.solo_crash.specs.Alone.{WorksAlone}
use Rattle.solo_crash.specs.Operations.{AllocatesObject, IsAllocReason}
use Rattle.solo_made.specs.Made.{BlockLists}
use Rattle.solo_made.specs.declared.objects.Made.{Made}
use Rattle.solo_tx.specs.Ending.{IsEndedBy, IsStoppedIn}
use Rattle.solo_tx.specs.Sequences.{gives_up}
use Rattle.solo_epoch.specs.Allocating.{object_in_block, with_object_told}
use Rattle.solo_transaction.specs.AtWork.{IsAtWorkWith}

-- the object in a block, behind the block's first line, as the lists have it
abbrev pub made_in_block : Block → ℕ → ℕ → Made
made_in_block block size kind = record { off = block.place + 64; kind = kind; size = size }

-- the lane is at work with these lists, and may make an object: it may look for a block, and make a free chunk a run
pub record MayAllocate {M : Type 0} (o : Opening) (at : M → View → Type 0) (lane : Lane M) (blocks : BlockLists) (v : View) : Type 0 where
  pub works : IsAtWorkWith o at lane blocks v
  pub can : CanMakeObject v lane.shape

-- so it is, whatever it was opened with, as some view
abbrev pub IsLaneToAllocate : {M : Type 0} → (M → View → Type 0) → Lane M → BlockLists → Type 0
IsLaneToAllocate at lane blocks = (o : Opening) × ((v : View) × MayAllocate o at lane blocks v)

-- From the view before the lane made an object of this size and type, and told its offset: the object in a block that was reserved as `reserve` does, and filled.
-- Where the lane works alone, and passed no stop number, the object is one that the plain model allows its call, and it may make another.
pub record HasAllocated {M : Type 0} (o : Opening) (at : M → View → Type 0) (lane : Lane M) (blocks : BlockLists) (v : View) (size kind : ℕ) (id : Oid) : Type 0 where
  pub block : Block
  pub is : id ≡ record { pool = v.pool; off = block.place + 64 }
  -- once the object is made, and before it is told
  pub view : View
  pub made : HasNewObject (λ w. w ≡ view) v size kind block
  pub seen : at lane.memory (with_object_told view (object_in_block block size kind))
  pub allocates : (header : Header) (pool : PoolView) (start : View) (steps : List Step) → WorksAlone o header pool start steps v → ForSome view.stop (λ stop. view.calls ≤ stop)
      → AllocatesObject v (with_object_told view (object_in_block block size kind)) (object_in_block block size kind)
  pub works : (header : Header) (pool : PoolView) (start : View) (steps : List Step) → WorksAlone o header pool start steps v → ForSome view.stop (λ stop. view.calls ≤ stop)
      → MayAllocate o at lane blocks (with_object_told view (object_in_block block size kind))

-- how the lane came to refuse: it found no block for an object of this size, nor one of which to make a run; or it looked for none
abbrev pub CameToRefuse : View → ℕ → Refusal → View → Type 0
CameToRefuse v size refusal.NoSpace w = HasNoRoom (λ u. u ≡ w) v (class_of size) (no_block.Refused refusal.NoSpace)
CameToRefuse v size r w = w ≡ v

-- there was this reason to refuse the object, and so the call with these records was given up by it
pub record IsAllocGivenUp {M : Type 0} (at : M → View → Type 0) (lane : Lane M) (v : View) (spans : List Span) (size kind : ℕ) (r : Refusal) : Type 0 where
  pub view : View
  pub came : CameToRefuse v size r view
  pub reason : IsAllocReason view size r
  pub ended : IsEndedBy at lane view (gives_up spans (Alloc size kind) (Some (Refused r)) lane.last) (Alloc size kind) (Some (Refused r))

-- the lane stopped while it gave the call up for such a reason
pub record IsAllocStopped {M : Type 0} (at : M → View → Type 0) (lane : Lane M) (v : View) (spans : List Span) (size kind : ℕ) : Type 0 where
  pub refusal : Refusal
  pub view : View
  pub came : CameToRefuse v size refusal view
  pub reason : IsAllocReason view size refusal
  pub stopped : IsStoppedIn at lane view (gives_up spans (Alloc size kind) (Some (Refused refusal)) lane.last) (Alloc size kind) (Some (Refused refusal))

-- the lane stopped as it made the object: as it made a run for the block, or filled that; and it tells no number, since none is drawn
pub record IsStoppedMaking {M : Type 0} (at : M → View → Type 0) (lane next : Lane M) (v : View) (size kind : ℕ) : Type 0 where
  pub stop : Stopped
  pub gives : GivesNoObject (at next.memory) v size kind (no_block.Stopped stop)
  pub undrawn : next.drawn ≡ lane.drawn
