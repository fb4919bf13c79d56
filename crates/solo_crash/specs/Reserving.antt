-- What a lane has reserved, as its words have it, and what its view shows of the calls that reserve objects and write bytes into them (pmemobj_reserve(3)).
use Rattle.std.specs.Prelude.{◌≡◌, ◌≢◌, ◌⊎◌, ℕ, ◌+◌, ◌<◌, ◌≤◌, ◌==◌, ◌&&◌, not, nat_eq, nat_lt, false, if◌then◌else◌, List, [], ◌∷◌, ◌++◌, map, length, slice_index, All, Contains, Option, Some, None, option_map}
use Rattle.std.specs.List.{IsDistinct}
use Rattle.pm_layout.specs.Sizes.{class_of}
use Rattle.pm_words.specs.Words.{AreBytes}
use Rattle.pm_objects.specs.declared.calls.Operation.TheVariants.{Reserve, WriteReserved}
use Rattle.pm_objects.specs.declared.history.Value.TheVariants.{Offset, Refused}
use Rattle.pm_objects.specs.declared.ids.Oid.{Oid}
use Rattle.pm_objects.specs.declared.refusal.Refusal.{Refusal}
use Rattle.pm_objects.specs.declared.refusal.Refusal.TheVariants as refusal
use Rattle.pm_image.specs.declared.block.Block.{Block}
use Rattle.pm_image.specs.Contents.{bytes_in}
use Rattle.pm_image.specs.Reads.{ReadsBlock}
use Rattle.solo_model.specs.Actions.{Pending, Reservation, bytes_reserved, is_reserved, max_actions, pending_count}
use Rattle.solo_model.specs.Answers.{IsBesideReserved}
use Rattle.solo_model.specs.NewObjects.{new_object}
use Rattle.solo_model.specs.Places.{CanHold}
use Rattle.solo_view.specs.Area.{is_in_area}
use Rattle.solo_view.specs.View.{Lock, View}
use Rattle.solo_crash.specs.CallBlocks.{IsMadeIn, NewObject, block_of, blocks_in, is_freed_in, object_made, reserved_object}
use Rattle.solo_crash.specs.HeapChanges.{AreDisjoint}
use Rattle.solo_crash.specs.OpenCall.{block_at_line}
use Rattle.solo_crash.specs.Operations.{KeepsKnown, KeepsLog, KeepsWords, Tells}
use Rattle.solo_crash.specs.Pending.{pending_before, pending_in}
use Rattle.solo_crash.specs.Writes.{words_written}

-- the block of what is reserved
abbrev pub block_reserved : Reservation → Block
block_reserved r = block_of (reserved_object r)

-- it stands in its block by the lane's words, with the bytes that it has so far, where a block of its size can begin
pub record StandsReserved (v : View) (r : Reservation) : Type 0 where
  pub place : CanHold v.lanes v.zones (class_of (length r.bytes)) r.off
  pub made : IsMadeIn v (reserved_object r)
  pub bytes : bytes_in (slice_index v.words) (block_reserved r) ≡ r.bytes

-- the block of none of it overlaps one that the lane found under a lock
abbrev pub ReservedLieApart : View → Type 0
ReservedLieApart v = (r : Reservation) (l : Lock) (lines : ℕ) → Contains (pending_in v).reserved r → Contains v.locks l → l.block ≡ Some lines → AreDisjoint (block_reserved r) (block_at_line l.line lines)

-- What the lane has reserved stands so, once at an offset. Its block lies apart from those of what else is reserved, of what the open call made, whether it freed
-- that again or not, and of what it found under its locks; and nothing that the call freed was there.
pub record HasReserved (v : View) : Type 0 where
  pub each : (r : Reservation) → Contains (pending_in v).reserved r → StandsReserved v r
  pub once : IsDistinct nat_eq (map (λ (r : Reservation). r.off) (pending_in v).reserved)
  pub apart : (r s : Reservation) → Contains (pending_in v).reserved r → Contains (pending_in v).reserved s → r.off ≢ s.off → AreDisjoint (block_reserved r) (block_reserved s)
  pub apart_made : (r : Reservation) (m : NewObject) → Contains (pending_in v).reserved r → Contains ((blocks_in v).made ++ (blocks_in v).dropped) m → AreDisjoint (block_reserved r) (block_of m)
  pub apart_found : ReservedLieApart v
  pub unfreed : (r : Reservation) → Contains (pending_in v).reserved r → is_freed_in v r.off ≡ false

-- ---- in a transaction

-- The lane made the words of a new object of zeros in a block that was nobody's, and told its offset as reserved. No word that it knew changed. The block lies apart
-- from those of what it found under its locks, of what its call made, and of what else is reserved; and one more action may be pending
pub record ReservesObject (v next : View) (n : NewObject) : Type 0 where
  pub tells : Tells v next (Reserve n.size n.kind) (Some (Offset n.off))
  pub logs : KeepsLog v next
  pub keeps : KeepsKnown v next
  pub some : 1 ≤ n.size
  pub most : n.size ≤ 262080
  pub place : CanHold v.lanes v.zones (class_of n.size) n.off
  pub made : IsMadeIn next n
  pub zeros : object_made next n ≡ new_object n.kind n.size
  pub apart_found : (l : Lock) (lines : ℕ) → Contains v.locks l → l.block ≡ Some lines → AreDisjoint (block_of n) (block_at_line l.line lines)
  pub apart_made : (m : NewObject) → Contains ((blocks_in v).made ++ (blocks_in v).dropped) m → AreDisjoint (block_of n) (block_of m)
  pub unfreed : is_freed_in v n.off ≡ false
  pub unreserved : All (IsBesideReserved n.size n.off) (pending_in v).reserved
  pub room : pending_count (pending_in v) < max_actions

-- why a reservation is refused: for its size, since no more may be pending, or since no free block was found. What the lane saw of free blocks is not asked for
-- here: the model allows the last wherever the others don't apply
abbrev pub IsReserveReason : Pending → ℕ → Refusal → Type 0
IsReserveReason p size refusal.BadSize = (size ≡ 0) ⊎ (262080 < size)
IsReserveReason p size refusal.ActionsFull = (1 ≤ size) × (size ≤ 262080) × (max_actions ≤ pending_count p)
IsReserveReason p size refusal.NoSpace = (1 ≤ size) × (size ≤ 262080) × (pending_count p < max_actions)
IsReserveReason p size r = ⊥

-- the lane refused to reserve an object, and told so. It may have looked for a block
pub record RefusesReserve (v next : View) (size kind : ℕ) (r : Refusal) : Type 0 where
  pub reason : IsReserveReason (pending_in v) size r
  pub tells : Tells v next (Reserve size kind) (Some (Refused r))
  pub logs : KeepsLog v next
  pub keeps : KeepsKnown v next

-- the object is one of those that are reserved, in a pool of this id
pub record IsReservedOne (pool : ℕ) (p : Pending) (id : Oid) : Type 0 where
  pub one : Reservation
  pub is_one : Contains p.reserved one
  pub of_pool : id.pool ≡ pool
  pub place : id.off ≡ one.off

-- the lane wrote bytes into an object that it has reserved, changed no other word but in its own area, and told so
pub record WritesReserved (v next : View) (id : Oid) (off : ℕ) (bytes : List ℕ) : Type 0 where
  pub tells : Tells v next (WriteReserved id off bytes) None
  pub logs : KeepsLog v next
  pub has : IsReservedOne v.pool (pending_in v) id
  pub inside : off + length bytes ≤ length has.one.bytes
  pub are_bytes : AreBytes bytes
  pub written : (i : ℕ) → is_in_area v.lane i ≡ false → slice_index next.words i ≡ words_written (id.off + off) bytes (slice_index v.words) i

-- why bytes are not written into what is reserved, if they are not, in a pool of this id: nothing is reserved there, or they pass its end
abbrev pub put_refusal : ℕ → Pending → Oid → ℕ → ℕ → Option Refusal
put_refusal pool p id off len =
    if not (id.pool == pool && is_reserved p id.off) then Some refusal.NotReserved
    else if nat_lt (length (bytes_reserved p id.off)) (off + len) then Some refusal.OutOfRange else None

-- the lane refused to write them, and told so
pub record RefusesPut (v next : View) (id : Oid) (off : ℕ) (bytes : List ℕ) (r : Refusal) : Type 0 where
  pub reason : put_refusal v.pool (pending_in v) id off (length bytes) ≡ Some r
  pub tells : Tells v next (WriteReserved id off bytes) (Some (Refused r))
  pub logs : KeepsLog v next
  pub words : KeepsWords v next

-- ---- outside of a transaction, where the one operation is all of the call

-- a new object is reserved: the lane made its words, which stand, and told its offset
pub record ReservesOutside (v : View) (n : NewObject) : Type 0 where
  pub call : v.call ≡ record { operation = Reserve n.size n.kind; reply = Some (Offset n.off) } ∷ []
  pub no_records : v.log.records ≡ []
  pub no_entries : v.log.entries ≡ []
  pub some : 1 ≤ n.size
  pub most : n.size ≤ 262080
  pub place : CanHold v.lanes v.zones (class_of n.size) n.off
  pub unreserved : All (IsBesideReserved n.size n.off) (pending_before v).reserved
  pub room : pending_count (pending_before v) < max_actions

-- or that is refused
pub record RefusesReserveOutside (v : View) (size kind : ℕ) (r : Refusal) : Type 0 where
  pub call : v.call ≡ record { operation = Reserve size kind; reply = Some (Refused r) } ∷ []
  pub no_records : v.log.records ≡ []
  pub no_entries : v.log.entries ≡ []
  pub reason : IsReserveReason (pending_before v) size r

-- bytes are written into what is reserved, or that is refused
pub record PutsOutside (v : View) (id : Oid) (off : ℕ) (bytes : List ℕ) (r : Option Refusal) : Type 0 where
  pub call : v.call ≡ record { operation = WriteReserved id off bytes; reply = option_map Refused r } ∷ []
  pub no_records : v.log.records ≡ []
  pub no_entries : v.log.entries ≡ []
  pub answer : r ≡ put_refusal v.pool (pending_before v) id off (length bytes)

-- ---- between two calls

-- the lane's call drew its number and is over: it holds no lock more than it did, and knows each word of what is reserved, of which none changed
pub record RestsBehind (v next : View) : Type 0 where
  pub lanes : next.lanes ≡ v.lanes
  pub zones : next.zones ≡ v.zones
  pub lane : next.lane ≡ v.lane
  pub known : (r : Reservation) (i : ℕ) → Contains (pending_in v).reserved r → ReadsBlock (slice_index v.words) (block_reserved r) i → Contains next.known i
  pub number : ℕ
  pub entries : next.entries ≡ v.entries ++ record { number = number; call = v.call } ∷ []
  pub call : next.call ≡ []
  pub locks : (l : Lock) → Contains next.locks l → Contains v.locks l
  pub words : (r : Reservation) (i : ℕ) → Contains (pending_in v).reserved r → ReadsBlock (slice_index v.words) (block_reserved r) i → slice_index next.words i ≡ slice_index v.words i
