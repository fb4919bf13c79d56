-- A call outside of a transaction: one operation on a pool and on what its lane has pending
-- (pmemobj_publish(3), pmemobj_alloc(3), pmemobj_list_insert(3), pmemobj_root(3)). It names some
-- objects and locks them, each where its id has a place and an object is found there. Then it may
-- lock one more, and has its tests under the locks.
use Rattle.std.specs.Prelude.{◌≡◌, ℕ, ◌+◌, ◌%◌, ◌==◌, ◌&&◌, ◌||◌, not, nat_lt, nat_le, Bool, true, false, IsSome, All, if◌then◌else◌, List, [], ◌∷◌, ◌++◌, length, map, filter, Option, None, Some, MatchOption}
use Rattle.std.specs.List.{list_any}
use Rattle.std.specs.Option.{option_map_or}
use Rattle.pm_layout.specs.Sizes.{usable}
use Rattle.pm_objects.specs.declared.calls.At.{At}
use Rattle.pm_objects.specs.declared.calls.Dest.{Dest}
use Rattle.pm_objects.specs.declared.calls.Operation.{Operation}
use Rattle.pm_objects.specs.declared.calls.Operation.TheVariants.{Reserve, WriteReserved, DeferFree, SetValue, Publish, Cancel, AllocTo, ReallocAt, FreeAt, UsableSize, TypeNumber, Insert, InsertNew, Remove, MoveTo, Members, Root, RootSize}
use Rattle.pm_objects.specs.declared.calls.Want.{Want}
use Rattle.pm_objects.specs.declared.history.Value.{Value}
use Rattle.pm_objects.specs.declared.history.Value.TheVariants.{Offset, Number, Refused}
use Rattle.pm_objects.specs.declared.history.Value.TheVariants as replied
use Rattle.pm_objects.specs.declared.ids.Oid.{Oid}
use Rattle.pm_objects.specs.declared.refusal.Refusal.{Refusal}
use Rattle.pm_objects.specs.declared.refusal.Refusal.TheVariants as refusal
use Rattle.pm_model.specs.Items.{Edit, Item, Items, PlainPool, all_edited, bytes_of, freed_item, in_list, is_among, is_root, kind_of, made_item, members_of, new_item, number_at, number_bytes, put_into, resized_item, size_of, with_members}
use Rattle.pm_model.specs.Blocks.{AreAllFree, IsNewBlock}
use Rattle.pm_model.specs.Pending.{Pending, block_edits, blocks_reserved, new_reservation, none_pending, passes_object, set_edits, want_to_write, wants_pending, with_free, with_put, with_reservation, with_set}
use Rattle.pm_model.specs.Places.{has_place}
use Rattle.pm_model.specs.Refusals.{Seen, Test, first_of, has_members, is_listed, is_member, is_size, max_size, pending_tests}
use Rattle.pm_model.specs.Inside.{IsRefused, Ran, is_action}

-- what a call outside begins from, and what it leaves
pub record Outside : Type 0 where
  pub pool : PlainPool
  pub pending : Pending

abbrev pub is_outside : Operation → Bool
is_outside Publish = true
is_outside (AllocTo dest size kind) = true
is_outside (ReallocAt dest size kind) = true
is_outside (FreeAt dest) = true
is_outside (UsableSize id) = true
is_outside (TypeNumber id) = true
is_outside (Insert head at id) = true
is_outside (InsertNew head at size kind) = true
is_outside (Remove head id free) = true
is_outside (MoveTo head new_head at id) = true
is_outside (Members head) = true
is_outside (Root size) = true
is_outside RootSize = true
is_outside op = is_action op

-- ---- ids in words of an object

abbrev pub is_null : Oid → Bool
is_null id = id.pool == 0 && id.off == 0

-- the id that a destination holds: 16 bytes, the pool's id and then the offset
abbrev pub id_in : Items → Dest → Oid
id_in items dest =
    let bytes = bytes_of items dest.id.off in
    record { pool = number_at dest.off bytes; off = number_at (dest.off + 8) bytes }

abbrev pub id_edit : Dest → ℕ → ℕ → Edit
id_edit dest pool off = put_into dest.id.off dest.off (number_bytes pool ++ number_bytes off)

-- ---- members

-- a member put at the head, before or after another, or at the tail
abbrev pub inserted_beside : ℕ → Bool → ℕ → List ℕ → List ℕ
inserted_beside dest before off [] = []
inserted_beside dest before off (m ∷ rest) =
    if m == dest then (if before then off ∷ m ∷ rest else m ∷ off ∷ rest)
    else m ∷ inserted_beside dest before off rest

abbrev pub inserted : At → ℕ → List ℕ → List ℕ
inserted at off members =
    if is_null at.dest then (if at.before then off ∷ members else members ++ off ∷ [])
    else inserted_beside at.dest.off at.before off members

abbrev pub taken_out : ℕ → List ℕ → List ℕ
taken_out off members = filter (λ m. not (m == off)) members

-- a place is asked for beside what is no member
abbrev pub is_beside_none : At → List ℕ → Bool
is_beside_none at members = not (is_null at.dest) && not (is_among members at.dest.off)

-- ---- locks

abbrev pub want_to_read : Oid → Want
want_to_read id = record { id = id; write = false }

abbrev pub want_dest : At → List Want
want_dest at = if is_null at.dest then [] else want_to_write at.dest ∷ []

-- the objects that a call names
abbrev pub wants_named : Pending → Operation → List Want
wants_named p Publish = wants_pending p
wants_named p (AllocTo dest size kind) = want_to_write dest.id ∷ []
wants_named p (ReallocAt dest size kind) = want_to_write dest.id ∷ []
wants_named p (FreeAt dest) = want_to_write dest.id ∷ []
wants_named p (UsableSize id) = want_to_read id ∷ []
wants_named p (TypeNumber id) = want_to_read id ∷ []
wants_named p (Insert head at id) = want_to_write head ∷ want_to_write id ∷ want_dest at
wants_named p (InsertNew head at size kind) = want_to_write head ∷ want_dest at
wants_named p (Remove head id free) = want_to_write head ∷ want_to_write id ∷ []
wants_named p (MoveTo head new_head at id) =
    want_to_write head ∷ want_to_write new_head ∷ want_to_write id ∷ want_dest at
wants_named p (Members head) = want_to_read head ∷ []
wants_named p op = []

abbrev pub is_found : Seen → PlainPool → Want → Bool
is_found seen pool want = has_place pool want.id && not (is_among seen.missing want.id.off)

-- the object that a destination names is locked by one try. That of the destination's own object
-- is held already
abbrev pub is_busy : Seen → Dest → Oid → Bool
is_busy seen dest id = not (id.off == dest.id.off) && seen.busy

abbrev pub want_target : Seen → PlainPool → Dest → List Want
want_target seen pool dest =
    let id = id_in pool.items dest in
    if not (is_null id) && is_found seen pool (want_to_write id) && not (is_busy seen dest id)
    then want_to_write id ∷ [] else []

abbrev pub want_root : PlainPool → Bool → List Want
want_root pool write =
    option_map_or (λ off. record { id = record { pool = pool.id; off = off }; write = write } ∷ [])
    pool.root []

-- the object that a call locks after those: what a destination names, or the root
abbrev pub wants_then : Seen → PlainPool → Operation → List Want
wants_then seen pool (ReallocAt dest size kind) = want_target seen pool dest
wants_then seen pool (FreeAt dest) = want_target seen pool dest
wants_then seen pool (Root size) = want_root pool true
wants_then seen pool RootSize = want_root pool false
wants_then seen pool op = []

-- ---- tests

-- the tests before any lock
abbrev pub early_tests : Seen → PlainPool → Pending → Operation → List Test
early_tests seen pool p (AllocTo dest size kind) =
    (refusal.Spent, seen.spent) ∷ (refusal.Unaligned, not (dest.off % 8 == 0))
    ∷ (refusal.BadSize, not (is_size size)) ∷ []
early_tests seen pool p (ReallocAt dest size kind) =
    (refusal.Spent, seen.spent) ∷ (refusal.Unaligned, not (dest.off % 8 == 0))
    ∷ (refusal.BadSize, nat_lt max_size size) ∷ []
early_tests seen pool p (FreeAt dest) =
    (refusal.Spent, seen.spent) ∷ (refusal.Unaligned, not (dest.off % 8 == 0)) ∷ []
early_tests seen pool p (InsertNew head at size kind) =
    (refusal.Spent, seen.spent) ∷ (refusal.BadSize, not (is_size size)) ∷ []
early_tests seen pool p (Root size) =
    (refusal.Spent, seen.spent) ∷ (refusal.BadSize, not (is_size size)) ∷ []
early_tests seen pool p op = (refusal.Spent, seen.spent) ∷ pending_tests seen pool.id p op

-- ids without a place, and those under whose lock no object was found
abbrev pub found_tests : Seen → PlainPool → List Want → List Test
found_tests seen pool wants =
    (refusal.NoObject, list_any (λ (want : Want). not (has_place pool want.id)) wants)
    ∷ (refusal.NoObject, list_any (λ (want : Want). is_among seen.missing want.id.off) wants) ∷ []

-- a destination of 16 bytes passes its object's end
abbrev pub dest_test : PlainPool → Dest → Test
dest_test pool dest = (refusal.OutOfRange, nat_lt (size_of pool.items dest.id.off) (dest.off + 16))

-- the object that a destination names may be freed
abbrev pub target_tests : Seen → PlainPool → Dest → List Test
target_tests seen pool dest =
    let id = id_in pool.items dest in
    let named = not (is_null id) in
    (refusal.NoObject, named && not (has_place pool id))
    ∷ (refusal.Busy, named && is_busy seen dest id)
    ∷ (refusal.NoObject, named && is_among seen.missing id.off)
    ∷ (refusal.RootKept, named && is_root pool.root id.off)
    ∷ (refusal.Listed, named && is_listed pool.items id.off) ∷ []

-- `root` makes a new object where there is none, or a smaller one
abbrev pub root_grows : PlainPool → ℕ → Bool
root_grows pool size = option_map_or (λ off. nat_lt (size_of pool.items off) size) pool.root true

abbrev pub root_is_listed : PlainPool → Bool
root_is_listed pool = option_map_or (is_listed pool.items) pool.root false

-- the tests under the locks
abbrev pub late_tests : Seen → PlainPool → Pending → Operation → List Test
late_tests seen pool p Publish =
    (refusal.NoObject, p.late)
    ∷ (refusal.RootKept, list_any (λ (id : Oid). is_root pool.root id.off) p.frees)
    ∷ (refusal.Listed, list_any (λ (id : Oid). is_listed pool.items id.off) p.frees)
    ∷ (refusal.OutOfRange, list_any (passes_object pool.items) p.sets) ∷ []
late_tests seen pool p (AllocTo dest size kind) =
    dest_test pool dest ∷ (refusal.NoSpace, seen.full) ∷ []
late_tests seen pool p (ReallocAt dest size kind) =
    dest_test pool dest ∷ target_tests seen pool dest
    ++ (refusal.NoSpace, nat_le 1 size && seen.full) ∷ []
late_tests seen pool p (FreeAt dest) = dest_test pool dest ∷ target_tests seen pool dest
late_tests seen pool p (Insert head at id) =
    (refusal.NotInList, is_beside_none at (members_of pool.items head.off))
    ∷ (refusal.Listed, is_member pool.items id.off) ∷ []
late_tests seen pool p (InsertNew head at size kind) =
    (refusal.NotInList, is_beside_none at (members_of pool.items head.off))
    ∷ (refusal.NoSpace, seen.full) ∷ []
late_tests seen pool p (Remove head id free) =
    (refusal.RootKept, free && is_root pool.root id.off)
    ∷ (refusal.NotInList, not (is_among (members_of pool.items head.off) id.off))
    ∷ (refusal.Listed, free && has_members pool.items id.off) ∷ []
late_tests seen pool p (MoveTo head new_head at id) =
    let first = members_of pool.items head.off in
    let second = taken_out id.off (members_of pool.items new_head.off) in
    (refusal.NotInList, not (is_among first id.off) || is_beside_none at second) ∷ []
late_tests seen pool p (Members head) =
    let count = length (members_of pool.items head.off) in
    (refusal.Short count, nat_lt seen.room count) ∷ []
late_tests seen pool p (Root size) =
    (refusal.Listed, root_grows pool size && root_is_listed pool)
    ∷ (refusal.NoSpace, root_grows pool size && seen.full) ∷ []
late_tests seen pool p op = []

abbrev pub tests_outside : Seen → Outside → Operation → List Test
tests_outside seen s op =
    early_tests seen s.pool s.pending op ++ found_tests seen s.pool (wants_named s.pending op)
    ++ late_tests seen s.pool s.pending op

abbrev pub refusal_outside : Seen → Outside → Operation → Option Refusal
refusal_outside seen s op = first_of (tests_outside seen s op)

-- ---- what the call does

-- the size of the new object that a call makes or reserves, if any
abbrev pub size_made : PlainPool → Operation → Option ℕ
size_made pool (Reserve size kind) = Some size
size_made pool (AllocTo dest size kind) = Some size
size_made pool (ReallocAt dest size kind) = if size == 0 then None else Some size
size_made pool (InsertNew head at size kind) = Some size
size_made pool (Root size) = if root_grows pool size then Some size else None
size_made pool op = None

-- what a call replies that makes no object and reserves none
abbrev pub value_outside : PlainPool → Operation → Option Value
value_outside pool (ReallocAt dest size kind) = Some (Offset 0)
value_outside pool (UsableSize id) = Some (Number (usable (size_of pool.items id.off)))
value_outside pool (TypeNumber id) = Some (Number (kind_of pool.items id.off))
value_outside pool (Members head) = Some (replied.Members (members_of pool.items head.off))
value_outside pool (Root size) = Some (Offset (option_map_or (λ off. off) pool.root 0))
value_outside pool RootSize = Some (Number (option_map_or (size_of pool.items) pool.root 0))
value_outside pool op = None

-- the offsets of the objects that a call frees
abbrev pub target_off : PlainPool → Dest → List ℕ
target_off pool dest = let id = id_in pool.items dest in if is_null id then [] else id.off ∷ []

abbrev pub offs_freed : PlainPool → Pending → Operation → List ℕ
offs_freed pool p Publish = map (λ (id : Oid). id.off) p.frees
offs_freed pool p (ReallocAt dest size kind) = target_off pool dest
offs_freed pool p (FreeAt dest) = target_off pool dest
offs_freed pool p (Remove head id free) = if free then id.off ∷ [] else []
offs_freed pool p (Root size) =
    if root_grows pool size then option_map_or (λ off. off ∷ []) pool.root [] else []
offs_freed pool p op = []

-- what becomes of which objects, where `off` is the offset of the new object
abbrev pub free_target : PlainPool → Dest → List Edit
free_target pool dest = map freed_item (target_off pool dest)

abbrev pub item_moved : PlainPool → Dest → ℕ → ℕ → Item
item_moved pool dest size kind =
    let id = id_in pool.items dest in
    resized_item kind size (if is_null id then [] else bytes_of pool.items id.off)

abbrev pub taken_from : PlainPool → ℕ → ℕ → List Edit
taken_from pool head off =
    with_members head (taken_out off (members_of pool.items head)) ∷ in_list off None ∷ []

-- an object is put into the list of a head, which has these members then
abbrev pub put_in : ℕ → List ℕ → ℕ → List Edit
put_in head members off = with_members head members ∷ in_list off (Some head) ∷ []

abbrev pub root_edits : PlainPool → ℕ → ℕ → List Edit
root_edits pool size off =
    option_map_or (λ old. freed_item old
    ∷ made_item off (resized_item (kind_of pool.items old) size (bytes_of pool.items old))
    ∷ [])
    pool.root (made_item off (new_item 0 size None) ∷ [])

abbrev pub edits_of : PlainPool → Pending → Operation → ℕ → List Edit
edits_of pool p Publish off = block_edits p ++ set_edits p.sets
edits_of pool p (AllocTo dest size kind) off =
    made_item off (new_item kind size None) ∷ id_edit dest pool.id off ∷ []
edits_of pool p (ReallocAt dest size kind) off =
    if size == 0
    then (if is_null (id_in pool.items dest) then [] else id_edit dest 0 0 ∷ free_target pool dest)
    else made_item off (item_moved pool dest size kind) ∷ id_edit dest pool.id off
    ∷ free_target pool dest
edits_of pool p (FreeAt dest) off =
    if is_null (id_in pool.items dest) then [] else id_edit dest 0 0 ∷ free_target pool dest
edits_of pool p (Insert head at id) off =
    put_in head.off (inserted at id.off (members_of pool.items head.off)) id.off
edits_of pool p (InsertNew head at size kind) off =
    made_item off (new_item kind size None)
    ∷ put_in head.off (inserted at off (members_of pool.items head.off)) off
edits_of pool p (Remove head id free) off =
    taken_from pool head.off id.off ++ (if free then freed_item id.off ∷ [] else [])
edits_of pool p (MoveTo head new_head at id) off =
    let second = taken_out id.off (members_of pool.items new_head.off) in
    taken_from pool head.off id.off ++ put_in new_head.off (inserted at id.off second) id.off
edits_of pool p (Root size) off = if root_grows pool size then root_edits pool size off else []
edits_of pool p op off = []

abbrev pub root_after : PlainPool → Operation → ℕ → Option ℕ
root_after pool (Root size) off = if root_grows pool size then Some off else pool.root
root_after pool op off = pool.root

abbrev pub pending_after : Pending → Operation → ℕ → Pending
pending_after p (Reserve size kind) off =
    with_reservation (new_reservation off kind size) p
pending_after p (WriteReserved id at bytes) off = with_put id.off at bytes p
pending_after p (DeferFree id) off = with_free id p
pending_after p (SetValue id at value) off =
    with_set (record { id = id; off = at; value = value }) p
pending_after p Publish off = none_pending
pending_after p Cancel off = none_pending
pending_after p op off = p

-- ---- the call

-- each object that it names is there
abbrev pub AreNamedThere : PlainPool → List Want → Type 0
AreNamedThere pool wants = All (λ (want : Want). IsSome (pool.items want.id.off)) wants

-- a call that makes or reserves an object replies its offset
abbrev pub IsReplyOutside : Outside → Operation → Option Value → Type 0
IsReplyOutside s op reply =
    MatchOption (size_made s.pool op) (reply ≡ value_outside s.pool op)
    (λ size. (off : ℕ)
    × IsNewBlock s.pool (blocks_reserved s.pending) (record { off = off; size = size })
    × (reply ≡ Some (Offset off)))

abbrev pub MayPublishOutside : Outside → Operation → Type 0
MayPublishOutside s Publish = AreAllFree s.pool.items [] (blocks_reserved s.pending)
MayPublishOutside s op = Unit {0}

pub record IsDoneOutside (s : Outside) (op : Operation) (seen : Seen)
    (reply : Option Value) : Type 0 where
  pub there : AreNamedThere s.pool (wants_named s.pending op ++ wants_then seen s.pool op)
  pub publishes : MayPublishOutside s op
  pub value : IsReplyOutside s op reply

-- what the call replies: it is done, or has the first refusal that applies
pub record RepliesOutside (s : Outside) (ran : Ran) : Type 0 where
  pub outside : is_outside ran.operation ≡ true
  pub reply : MatchOption (refusal_outside ran.seen s ran.operation)
      (IsDoneOutside s ran.operation ran.seen ran.reply) (λ r. IsRefused r ran.reply)

-- the offset that a reply gives
abbrev pub offset_in : Option Value → ℕ
offset_in (Some (Offset off)) = off
offset_in reply = 0

abbrev pub done_outside : Operation → ℕ → Outside → Outside
done_outside op off s =
    record {
      pool = record s.pool {
        items = all_edited (edits_of s.pool s.pending op off) s.pool.items;
        root = root_after s.pool op off;
      };
      pending = pending_after s.pending op off;
    }

-- what it leaves: a refused call changes nothing
abbrev pub after_reply_outside : Operation → Option Value → Outside → Outside
after_reply_outside op (Some (Refused r)) s = s
after_reply_outside op reply s = done_outside op (offset_in reply) s

abbrev pub after_outside : Ran → Outside → Outside
after_outside ran s = after_reply_outside ran.operation ran.reply s
