-- What a call allocated and freed so far, by the operations that it told: the lists that the plain model's transaction keeps (pmemobj_tx_alloc(3),
-- pmemobj_tx_free(3)).
use Rattle.std.specs.Prelude.{◌≡◌, ◌≢◌, ℕ, ◌-◌, ◌%◌, ◌==◌, ◌||◌, ◌≤◌, not, Bool, true, All, List, [], ◌∷◌, ◌++◌, filter, length, map, slice_index, Contains, Option, None, Some, false, if◌then◌else◌}
use Rattle.std.specs.List.{Any, list_any}
use Rattle.pm_layout.specs.Sizes.{class_of}
use Rattle.pm_objects.specs.Pool.{block_lines}
use Rattle.pm_objects.specs.declared.calls.Operation.{Operation}
use Rattle.pm_objects.specs.declared.calls.Operation.TheVariants.{Abort, Alloc, Free, Publish, Reserve, WriteReserved}
use Rattle.pm_objects.specs.declared.history.Value.{Value}
use Rattle.pm_objects.specs.declared.history.Value.TheVariants.{Offset, Refused}
use Rattle.pm_objects.specs.declared.ids.Oid.{Oid}
use Rattle.pm_objects.specs.declared.pool.Object.{Object}
use Rattle.pm_objects.specs.declared.pool.PoolView.{PoolView}
use Rattle.pm_objects.specs.declared.refusal.Refusal.TheVariants as refusal
use Rattle.pm_image.specs.declared.block.Block.{Block}
use Rattle.pm_image.specs.Contents.{bytes_in}
use Rattle.pm_image.specs.Reads.{ReadsBlock}
use Rattle.solo_model.specs.Actions.{Pending, Reservation}
use Rattle.solo_model.specs.Answers.{IsBeside, changes_nothing}
use Rattle.solo_model.specs.Bytes.{is_among}
use Rattle.solo_model.specs.Checks.{is_action}
use Rattle.solo_view.specs.Area.{is_in_area}
use Rattle.solo_view.specs.View.{Told, View}
use Rattle.solo_crash.specs.NewObjects.{HasNewObject, unlinked}
use Rattle.solo_crash.specs.Pending.{pending_before, pending_behind, pending_in}

-- an object that a call made: its offset, its type and its size in bytes
pub record NewObject : Type 0 where
  pub off : ℕ
  pub kind : ℕ
  pub size : ℕ

pub record CallBlocks : Type 0 where
  -- the objects that the call made and has
  pub made : List NewObject
  -- those that it made and freed again: their blocks stay reserved to its end
  pub dropped : List NewObject
  -- the offsets of those that it found and freed
  pub freed : List ℕ

abbrev pub no_blocks : CallBlocks
no_blocks = record { made = []; dropped = []; freed = [] }

abbrev pub is_at : ℕ → NewObject → Bool
is_at off n = n.off == off

abbrev pub with_made : NewObject → CallBlocks → CallBlocks
with_made n b = record b { made = b.made ++ n ∷ [] }

-- the object at the offset is freed: one that the call made is dropped
abbrev pub with_freed : ℕ → CallBlocks → CallBlocks
with_freed off b =
    if list_any (is_at off) b.made
    then record b { made = filter (λ n. not (is_at off n)) b.made; dropped = b.dropped ++ filter (is_at off) b.made }
    else record b { freed = b.freed ++ off ∷ [] }

-- objects are freed, and what is reserved comes to be, one after another
abbrev pub with_all_freed : List Oid → CallBlocks → CallBlocks
with_all_freed [] b = b
with_all_freed (id ∷ ids) b = with_all_freed ids (with_freed id.off b)

-- the new object that a reservation is to become
abbrev pub reserved_object : Reservation → NewObject
reserved_object r = record { off = r.off; kind = r.kind; size = length r.bytes }

abbrev pub with_all_made : List Reservation → CallBlocks → CallBlocks
with_all_made [] b = b
with_all_made (r ∷ rs) b = with_all_made rs (with_made (reserved_object r) b)

-- what an operation with its reply leaves of them, where this was pending: a publish frees what is to be freed, and makes what is reserved; and where an
-- operation aborts the call, none are left
abbrev pub blocks_behind : Operation → Option Value → Pending → CallBlocks → CallBlocks
blocks_behind op (Some (Refused r)) p b = if is_action op || changes_nothing r then b else no_blocks
blocks_behind (Alloc size kind) (Some (Offset off)) p b = with_made (record { off = off; kind = kind; size = size }) b
blocks_behind (Free id) reply p b = with_freed id.off b
blocks_behind Publish None p b = with_all_made p.reserved (with_all_freed p.frees b)
blocks_behind (Abort errnum) reply p b = no_blocks
blocks_behind op reply p b = b

-- and operations one after another
unfoldable pub blocks_told : Pending → CallBlocks → List Told → CallBlocks
blocks_told p b [] = b
blocks_told p b (t ∷ told) = blocks_told (pending_behind t.operation t.reply p) (blocks_behind t.operation t.reply p b) told

-- those of the lane's open call
abbrev pub blocks_in : View → CallBlocks
blocks_in v = blocks_told (pending_before v) no_blocks v.call

-- the objects for which an operation with its reply needs room in the pool, where this was pending: what it allocates or reserves, and what it publishes
abbrev pub allocated_by : Operation → Option Value → Pending → List NewObject
allocated_by (Alloc size kind) (Some (Offset off)) p = record { off = off; kind = kind; size = size } ∷ []
allocated_by (Reserve size kind) (Some (Offset off)) p = record { off = off; kind = kind; size = size } ∷ []
allocated_by Publish None p = map reserved_object p.reserved
allocated_by op reply p = []

-- bytes are written into what is reserved
abbrev pub is_put : Operation → Bool
is_put (WriteReserved id off bytes) = true
is_put op = false

-- the operation leaves what is reserved as it is, or gives it up: it needs room for no object, and writes no bytes into what is reserved
abbrev pub LeavesReserved : Operation → Option Value → Pending → Type 0
LeavesReserved op reply p = (allocated_by op reply p ≡ []) × (is_put op ≡ false)

-- and operations one after another
unfoldable pub allocated_told : Pending → List Told → List NewObject
allocated_told p [] = []
allocated_told p (t ∷ told) = allocated_by t.operation t.reply p ++ allocated_told (pending_behind t.operation t.reply p) told

-- all that the open call ever made, whether it freed it again or gave all up, or reserved
abbrev pub allocated_in : View → List NewObject
allocated_in v = allocated_told (pending_before v) v.call

-- the objects that what is reserved is to become
abbrev pub reserved_in : View → List NewObject
reserved_in v = map reserved_object (pending_in v).reserved

-- none of these is the root
abbrev pub FreeNoRoot : Option ℕ → List Oid → Type 0
FreeNoRoot root ids = All (λ (id : Oid). root ≢ Some id.off) ids

-- What a free, and a publish of frees, tell of the pool's root by their reply: one that is done is not of the root, nor is one that is refused for room, or for
-- the end of an object, which are looked at behind the root; and one that is refused for the root is (docs/MODEL.md, "The crash theorem").
abbrev pub TellsOfRoot : Option ℕ → Operation → Option Value → Pending → Type 0
TellsOfRoot root (Free id) None p = root ≢ Some id.off
TellsOfRoot root (Free id) (Some (Refused refusal.ActionsFull)) p = root ≢ Some id.off
TellsOfRoot root (Free id) (Some (Refused refusal.RootKept)) p = root ≡ Some id.off
TellsOfRoot root Publish None p = FreeNoRoot root p.frees
TellsOfRoot root Publish (Some (Refused refusal.OutOfRange)) p = FreeNoRoot root p.frees
TellsOfRoot root Publish (Some (Refused refusal.ActionsFull)) p = FreeNoRoot root p.frees
TellsOfRoot root Publish (Some (Refused refusal.RootKept)) p = Any (λ (id : Oid). root ≡ Some id.off) p.frees
TellsOfRoot root op reply p = Unit {0}

-- and operations one after another
unfoldable pub AllTellOfRoot : Option ℕ → Pending → List Told → Type 0
AllTellOfRoot root p [] = Unit {0}
AllTellOfRoot root p (t ∷ told) = TellsOfRoot root t.operation t.reply p × AllTellOfRoot root (pending_behind t.operation t.reply p) told

-- each operation of the open call, with its reply, agrees with this root
abbrev pub AgreesOnRoot : View → Option ℕ → Type 0
AgreesOnRoot v root = AllTellOfRoot root (pending_before v) v.call

-- the call allocated and freed nothing, and tells nothing of the root
pub record KeepsBlocks (v : View) : Type 0 where
  pub blocks : blocks_in v ≡ no_blocks
  pub allocated : allocated_in v ≡ []
  pub any_root : (root : Option ℕ) → AgreesOnRoot v root

-- the open call made an object at the offset and has it; it made one, whether it freed it again or not; it found and freed the one there
abbrev pub is_made_in : View → ℕ → Bool
is_made_in v off = list_any (is_at off) (blocks_in v).made

abbrev pub is_new_in : View → ℕ → Bool
is_new_in v off = list_any (is_at off) (blocks_in v).made || list_any (is_at off) (blocks_in v).dropped

abbrev pub is_freed_in : View → ℕ → Bool
is_freed_in v off = is_among (blocks_in v).freed off

-- the object at the offset is gone: the call freed it, or made it and freed it again
abbrev pub is_gone_in : View → ℕ → Bool
is_gone_in v off = is_freed_in v off || list_any (is_at off) (blocks_in v).dropped

-- a pool has room for these: no object's block overlaps one of theirs
abbrev pub HasRoomFor : PoolView → List NewObject → Type 0
HasRoomFor pool news = All (λ (n : NewObject). All (IsBeside n.size n.off) pool.objects) news

-- The pool may be the one before the open call, by what the call told of the heap: it has room for what the call allocated, and its root is none that the
-- call freed, and the one for which a free was refused.
pub record MayPrecede (pool : PoolView) (v : View) : Type 0 where
  pub room : HasRoomFor pool (allocated_in v)
  pub root : AgreesOnRoot v pool.root

-- the block of such an object
abbrev pub block_of : NewObject → Block
block_of n = record { place = n.off - 64; lines = block_lines (class_of n.size) }

-- what the lane's words have of it: it has no members
abbrev pub object_made : View → NewObject → Object
object_made v n = unlinked n.kind (bytes_in (slice_index v.words) (block_of n))

-- it stands in its block by the lane's words: those of its header line and of its bytes the lane knows, and they lie outside of its area
pub record IsMadeIn (v : View) (n : NewObject) : Type 0 where
  pub behind : 64 ≤ n.off
  pub aligned : n.off % 8 ≡ 0
  pub object : HasNewObject (slice_index v.words) (block_of n) n.kind (bytes_in (slice_index v.words) (block_of n))
  pub long : length (bytes_in (slice_index v.words) (block_of n)) ≡ n.size
  pub known : (i : ℕ) → ReadsBlock (slice_index v.words) (block_of n) i → Contains v.known i
  pub outside : (i : ℕ) → ReadsBlock (slice_index v.words) (block_of n) i → is_in_area v.lane i ≡ false

-- the object at the offset is one that the call found, if there is any: it neither made nor freed it
pub record IsOldIn (v : View) (off : ℕ) : Type 0 where
  pub found : is_new_in v off ≡ false
  pub kept : is_freed_in v off ≡ false

-- what is at the offset is the same of both open calls: made, new, or freed
pub record IsSameIn (v next : View) (off : ℕ) : Type 0 where
  pub made : is_made_in next off ≡ is_made_in v off
  pub new : is_new_in next off ≡ is_new_in v off
  pub freed : is_freed_in next off ≡ is_freed_in v off
