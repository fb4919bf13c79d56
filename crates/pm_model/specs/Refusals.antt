-- The refusals of an operation of a transaction: for each a list of tests, and the first that
-- applies is its refusal.
use Rattle.std.specs.Prelude.{ℕ, ◌+◌, ◌%◌, ◌==◌, ◌&&◌, ◌||◌, not, nat_lt, nat_le, Bool, true, false, if◌then◌else◌, List, [], ◌∷◌, ◌++◌, length, filter, Option, None, Some}
use Rattle.std.specs.List.{list_any, list_all}
use Rattle.std.specs.Option.{option_map_or}
use Rattle.pm_objects.specs.declared.calls.Operation.{Operation}
use Rattle.pm_objects.specs.declared.calls.Operation.TheVariants.{Begin, Lock, AddRange, Write, Read, Increment, Alloc, Free, Reserve, WriteReserved, DeferFree, SetValue, Publish, Commit, Abort}
use Rattle.pm_objects.specs.declared.calls.Want.{Want}
use Rattle.pm_objects.specs.declared.ids.Oid.{Oid}
use Rattle.pm_objects.specs.declared.refusal.Refusal.{Refusal}
use Rattle.pm_objects.specs.declared.refusal.Refusal.TheVariants as refusal
use Rattle.pm_model.specs.Items.{Items, is_among, is_root, list_of, members_of, size_of}
use Rattle.pm_model.specs.Pending.{Pending, SetWord, is_reserved, max_actions, passes_object, pending_count, size_reserved}
use Rattle.pm_model.specs.Places.{has_place}
use Rattle.pm_model.specs.Transaction.{Transaction, all_locked, covered_words, entries_of, holds, is_gone, is_new, is_working, published, records_of, wants_of_old, words_to_record}

-- what a lane saw beside its own lists and the objects under its locks: words that it shares with
-- other lanes
pub record Seen : Type 0 where
  -- its generation or the commit counter was at its end
  pub spent : Bool
  -- a lock that it tried once was another lane's
  pub busy : Bool
  -- under locks that it took it found no object at these offsets
  pub missing : List ℕ
  -- it found no free block for an object of the size
  pub full : Bool
  -- how many members the caller's slice has room for
  pub room : ℕ

-- a test with its refusal
abbrev pub Test : Type 0
Test = Refusal × Bool

-- the refusal of the first test that applies
unfoldable pub first_of : List Test → Option Refusal
first_of [] = None
first_of (test ∷ tests) = if test.1 then Some test.0 else first_of tests

-- so many entries fit into a lane's redo log, that of its generation among them
abbrev pub max_entries : ℕ
max_entries = 64

-- the largest object
abbrev pub max_size : ℕ
max_size = 262080

-- ---- tests that calls share

abbrev pub is_size : ℕ → Bool
is_size size = nat_le 1 size && nat_le size max_size

-- the object is a member of some list
abbrev pub is_member : Items → ℕ → Bool
is_member items off = option_map_or (λ head. true) (list_of items off) false

abbrev pub has_members : Items → ℕ → Bool
has_members items off = nat_le 1 (length (members_of items off))

-- the object to be freed is a member of a list, or has members
abbrev pub is_listed : Items → ℕ → Bool
is_listed items off = is_member items off || has_members items off

-- ---- of a transaction

-- a transaction is open, for work
abbrev pub stage_tests : Transaction → List Test
stage_tests tx =
    (refusal.NotWork, nat_le 1 tx.level && not (is_working tx.stage))
    ∷ (refusal.NoTx, tx.level == 0) ∷ []

-- the lane does not hold what the access needs. It holds no lock of an id of another pool
abbrev pub is_not_held : Transaction → Bool → Oid → Bool
is_not_held tx write id = not (id.pool == tx.before.id && holds tx id.off write)

-- the object is held, for writing if so asked, and was not freed in the transaction
abbrev pub held_tests : Transaction → Bool → Oid → List Test
held_tests tx write id =
    (refusal.NotLocked, is_not_held tx write id) ∷ (refusal.NoObject, is_gone tx id.off) ∷ []

-- the range passes the object's end
abbrev pub passes_end : Transaction → Oid → ℕ → Bool
passes_end tx id end = nat_lt (size_of tx.items id.off) end

-- more than 64 locks would be held, with those of objects that are not new, of ids that have a
-- place
abbrev pub passes_locks : Transaction → List Want → Bool
passes_locks tx wants =
    let placed = filter (λ (want : Want). has_place tx.before want.id) (wants_of_old tx wants) in
    nat_lt 64 (length (all_locked placed tx.locks))

-- a lock that the lane does not hold yet, for writing or in the mode asked for
abbrev pub is_first_lock : Transaction → Want → Bool
is_first_lock tx want = not (holds tx want.id.off false)

abbrev pub is_tried : Transaction → Want → Bool
is_tried tx want = not (holds tx want.id.off want.write)

-- Ids without a place, then locks, each tried once inside a transaction, and what was found under
-- them
abbrev pub lock_tests : Seen → Transaction → List Want → List Test
lock_tests seen tx wants =
    (refusal.NoObject, list_any (λ (want : Want). not (has_place tx.before want.id)) wants)
    ∷ (refusal.Busy, nat_le 1 tx.level && list_any (is_tried tx) wants && seen.busy)
    ∷ (
      refusal.NoObject,
      list_any (λ (want : Want). is_first_lock tx want
          && is_among seen.missing want.id.off) wants,
    )
    ∷ (refusal.NoObject, list_any (λ (want : Want). is_gone tx want.id.off) wants)
    ∷ []

-- a word of the range is not recorded. Those of a new object need no record
abbrev pub has_unrecorded : Transaction → ℕ → ℕ → ℕ → Bool
has_unrecorded tx off at len =
    not (is_new tx off) && not (list_all (is_among tx.recorded) (covered_words (off + at) len))

-- the new words need more records than are free of 64
abbrev pub overfills : Transaction → ℕ → ℕ → ℕ → Bool
overfills tx off at len =
    not (is_new tx off)
    && nat_lt 64 (tx.records + length (records_of (words_to_record tx off at len)))

abbrev pub read_tests : Transaction → Oid → ℕ → ℕ → List Test
read_tests tx id at len =
    stage_tests tx ++ held_tests tx false id
    ++ (refusal.OutOfRange, passes_end tx id (at + len)) ∷ []

abbrev pub write_tests : Transaction → Oid → ℕ → ℕ → List Test
write_tests tx id at len =
    stage_tests tx ++ held_tests tx true id
    ++ (refusal.OutOfRange, passes_end tx id (at + len))
    ∷ (refusal.NotAdded, has_unrecorded tx id.off at len) ∷ []

-- the log has no room for one more entry beside that of the generation
abbrev pub has_no_entry : Transaction → Bool
has_no_entry tx = nat_lt max_entries (entries_of tx + 2)

-- what a publish inside a transaction asks of all its actions together, test by test
abbrev pub publish_tests : Transaction → List Test
publish_tests tx =
    let frees = tx.pending.frees in
    let sets = tx.pending.sets in (
      refusal.NotLocked,
      list_any (is_not_held tx true) frees
          || list_any (λ (a : SetWord). is_not_held tx true a.id) sets,
    )
    ∷ (
      refusal.NoObject,
      tx.pending.late || list_any (λ (id : Oid). is_gone tx id.off) frees
          || list_any (λ (a : SetWord). is_gone tx a.id.off) sets,
    )
    ∷ (refusal.RootKept, list_any (λ (id : Oid). is_root tx.before.root id.off) frees)
    ∷ (refusal.Listed, list_any (λ (id : Oid). is_listed tx.items id.off) frees)
    ∷ (refusal.OutOfRange, list_any (passes_object tx.items) sets)
    ∷ (refusal.ActionsFull, nat_lt max_entries (entries_of (published tx) + 1))
    ∷ []

-- ---- of the pending list, inside a transaction and outside

abbrev pub has_no_action : Pending → Bool
has_no_action p = nat_le max_actions (pending_count p)

abbrev pub pending_tests : Seen → ℕ → Pending → Operation → List Test
pending_tests seen pool p (Reserve size kind) =
    (refusal.BadSize, not (is_size size)) ∷ (refusal.ActionsFull, has_no_action p)
    ∷ (refusal.NoSpace, seen.full) ∷ []
pending_tests seen pool p (WriteReserved id at bytes) =
    (refusal.NotReserved, not (id.pool == pool && is_reserved p id.off))
    ∷ (refusal.OutOfRange, nat_lt (size_reserved p id.off) (at + length bytes)) ∷ []
pending_tests seen pool p (DeferFree id) = (refusal.ActionsFull, has_no_action p) ∷ []
pending_tests seen pool p (SetValue id at value) =
    (refusal.Unaligned, not (at % 8 == 0)) ∷ (refusal.ActionsFull, has_no_action p) ∷ []
pending_tests seen pool p op = []

-- ---- all

-- the tests of an operation of a transaction, in their order
abbrev pub tests : Seen → Transaction → Operation → List Test
tests seen tx (Begin wants) =
    (refusal.NotWork, nat_le 1 tx.level && not (is_working tx.stage))
    ∷ (refusal.Spent, tx.level == 0 && seen.spent)
    ∷ (refusal.Deep, nat_le 64 tx.level) ∷ (refusal.LocksFull, passes_locks tx wants)
    ∷ lock_tests seen tx wants
tests seen tx (Lock want) =
    stage_tests tx ++ (refusal.LocksFull, passes_locks tx (want ∷ []))
    ∷ lock_tests seen tx (want ∷ [])
tests seen tx (AddRange id at len) =
    stage_tests tx ++ held_tests tx true id
    ++ (refusal.OutOfRange, passes_end tx id (at + len))
    ∷ (refusal.LogFull, overfills tx id.off at len) ∷ []
tests seen tx (Write id at bytes) = write_tests tx id at (length bytes)
tests seen tx (Read id at len) = read_tests tx id at len
tests seen tx (Increment id at by) = read_tests tx id at 8 ++ write_tests tx id at 8
tests seen tx (Alloc size kind) =
    stage_tests tx
    ++ (refusal.BadSize, not (is_size size)) ∷ (refusal.ActionsFull, has_no_entry tx)
    ∷ (refusal.NoSpace, seen.full) ∷ []
tests seen tx (Free id) =
    stage_tests tx ++ held_tests tx true id
    ++ (refusal.RootKept, is_root tx.before.root id.off)
    ∷ (refusal.Listed, is_listed tx.items id.off)
    ∷ (refusal.ActionsFull, not (is_new tx id.off) && has_no_entry tx) ∷ []
tests seen tx Publish = stage_tests tx ++ publish_tests tx
tests seen tx Commit = stage_tests tx
tests seen tx (Abort errnum) = stage_tests tx
tests seen tx op = pending_tests seen tx.before.id tx.pending op

abbrev pub refusal_of : Seen → Transaction → Operation → Option Refusal
refusal_of seen tx op = first_of (tests seen tx op)

-- the refusal of `end`: no transaction is open, or it is in work
abbrev pub end_refusal : Transaction → Option Refusal
end_refusal tx =
    first_of ((refusal.NoTx, tx.level == 0) ∷ (refusal.InTx, is_working tx.stage) ∷ [])
