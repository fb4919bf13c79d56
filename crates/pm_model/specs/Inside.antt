-- An operation of a transaction: its reply, and what it leaves.
use Rattle.std.specs.Prelude.{◌≡◌, ℕ, ◌+◌, ◌%◌, ◌^◌, ◌==◌, Bool, true, false, IsSome, All, if◌then◌else◌, List, [], ◌∷◌, ◌++◌, Option, None, Some, MatchOption}
use Rattle.pm_objects.specs.declared.calls.Operation.{Operation}
use Rattle.pm_objects.specs.declared.calls.Operation.TheVariants.{Begin, Lock, AddRange, Write, Read, Increment, Alloc, Free, Reserve, WriteReserved, DeferFree, SetValue, Publish, Cancel, Commit, Abort}
use Rattle.pm_objects.specs.declared.calls.Want.{Want}
use Rattle.pm_objects.specs.declared.history.TxErr.{TxErr}
use Rattle.pm_objects.specs.declared.history.TxErr.TheVariants as error
use Rattle.pm_objects.specs.declared.history.Value.{Value}
use Rattle.pm_objects.specs.declared.history.Value.TheVariants.{Offset, Number, Bytes, Refused}
use Rattle.pm_objects.specs.declared.refusal.Refusal.{Refusal}
use Rattle.pm_objects.specs.declared.refusal.Refusal.TheVariants as refusal
use Rattle.pm_model.specs.Items.{bytes_at, bytes_of, new_item, number_at, number_bytes}
use Rattle.pm_model.specs.Blocks.{AreAllFree, Block, CanBeIn, IsFree}
use Rattle.pm_model.specs.Pending.{blocks_reserved, new_reservation, none_pending, with_free, with_put, with_reservation, with_set}
use Rattle.pm_model.specs.Transaction.{Transaction, aborted, allocated, begun, committed, ended, freed_at, published, with_locks, with_range, written}
use Rattle.pm_model.specs.Refusals.{Seen, is_first_lock, refusal_of}

-- an operation as it ran: what the lane saw, and the reply, a refusal among them. None where it
-- is just done
pub record Ran : Type 0 where
  pub operation : Operation
  pub seen : Seen
  pub reply : Option Value

-- an operation on the pending list alone: refused, it aborts no transaction
abbrev pub is_action : Operation → Bool
is_action (Reserve size kind) = true
is_action (WriteReserved id at bytes) = true
is_action (DeferFree id) = true
is_action (SetValue id at value) = true
is_action Cancel = true
is_action op = false

abbrev pub is_begin : Operation → Bool
is_begin (Begin wants) = true
is_begin op = false

abbrev pub is_inside : Operation → Bool
is_inside (Begin wants) = true
is_inside (Lock want) = true
is_inside (AddRange id at len) = true
is_inside (Write id at bytes) = true
is_inside (Read id at len) = true
is_inside (Increment id at by) = true
is_inside (Alloc size kind) = true
is_inside (Free id) = true
is_inside Publish = true
is_inside Commit = true
is_inside (Abort errnum) = true
is_inside op = is_action op

abbrev pub is_refusal : Option Value → Bool
is_refusal (Some (Refused r)) = true
is_refusal reply = false

abbrev pub wants_of : Operation → List Want
wants_of (Begin wants) = wants
wants_of (Lock want) = want ∷ []
wants_of op = []

-- the number of eight bytes of an object after an addition, modulo 2^64
abbrev pub incremented : Transaction → ℕ → ℕ → ℕ → ℕ
incremented tx off at by = (number_at at (bytes_of tx.items off) + by) % 2 ^ 64

-- ---- the reply

-- what an operation replies that is not refused and makes or reserves no object
abbrev pub value_of : Transaction → Operation → Option Value
value_of tx (Read id at len) = Some (Bytes (bytes_at at len (bytes_of tx.items id.off)))
value_of tx (Increment id at by) = Some (Number (incremented tx id.off at by))
value_of tx op = None

-- the blocks that a new object may not overlap, beside those of the pool as the call began: of
-- the objects that the transaction made, and of what is reserved. Each block of the copy is one
-- of all these
abbrev pub taken_by : Transaction → List Block
taken_by tx = tx.made ++ blocks_reserved tx.pending

-- where a new object is, it has a place, and a block that is free if it is kept
abbrev pub IsPlaced : Transaction → Bool → Block → Type 0
IsPlaced tx true b = CanBeIn tx.before b × IsFree tx.before.items (taken_by tx) b
IsPlaced tx false b = CanBeIn tx.before b

-- the reply is the offset of a new object of this size
abbrev pub IsOffset : Transaction → Bool → ℕ → Option Value → Type 0
IsOffset tx kept size reply = (off : ℕ) × IsPlaced tx kept (record { off = off; size = size })
    × (reply ≡ Some (Offset off))

-- A reservation that the call itself cancels may have any place of its class
abbrev pub IsReply : Transaction → Operation → Bool → Option Value → Type 0
IsReply tx (Alloc size kind) kept reply = IsOffset tx true size reply
IsReply tx (Reserve size kind) kept reply = IsOffset tx kept size reply
IsReply tx op kept reply = reply ≡ value_of tx op

-- each object of which a first lock is taken is there
abbrev pub AreThere : Transaction → List Want → Type 0
AreThere tx wants =
    All (λ (want : Want). is_first_lock tx want ≡ true → IsSome (tx.items want.id.off)) wants

-- what is reserved is still free where it is published
abbrev pub MayBePublished : Transaction → Operation → Type 0
MayBePublished tx Publish = AreAllFree tx.before.items tx.made (blocks_reserved tx.pending)
MayBePublished tx op = Unit {0}

-- the operation is done
pub record IsDone (tx : Transaction) (op : Operation) (kept : Bool)
    (reply : Option Value) : Type 0 where
  pub there : AreThere tx (wants_of op)
  pub publishes : MayBePublished tx op
  pub value : IsReply tx op kept reply

-- refusals that leave no trace in a history
abbrev pub is_untraced : Refusal → Bool
is_untraced refusal.NotWork = true
is_untraced refusal.InTx = true
is_untraced refusal.NoTx = true
is_untraced refusal.Spent = true
is_untraced refusal.Stopped = true
is_untraced r = false

-- it is refused so
pub record IsRefused (r : Refusal) (reply : Option Value) : Type 0 where
  pub traced : is_untraced r ≡ false
  pub replied : reply ≡ Some (Refused r)

-- What an operation of a call replies: it is done, or has the first refusal that applies. What
-- other lanes do is not known here, so a lock may be busy, an object not found and no block free
-- whatever the pool is
pub record Replies (tx : Transaction) (ran : Ran) (kept : Bool) : Type 0 where
  pub inside : is_inside ran.operation ≡ true
  pub reply : MatchOption (refusal_of ran.seen tx ran.operation)
      (IsDone tx ran.operation kept ran.reply) (λ r. IsRefused r ran.reply)

-- ---- what it leaves

-- the error of an abort with this number
abbrev pub error_for : ℕ → TxErr
error_for errnum = if errnum == 0 then error.Canceled else error.User errnum

-- an operation that is done and makes no object. A commit ends its level too
abbrev pub performed : Operation → Transaction → Transaction
performed (Begin wants) tx = begun wants tx
performed (Lock want) tx = with_locks (want ∷ []) tx
performed (AddRange id at len) tx = with_range id.off at len tx
performed (Write id at bytes) tx = written id.off at bytes tx
performed (Increment id at by) tx =
    written id.off at (number_bytes (incremented tx id.off at by)) tx
performed (Free id) tx = freed_at id.off tx
performed Publish tx = published tx
performed Commit tx = ended (committed tx)
performed (Abort errnum) tx = aborted (error_for errnum) tx
performed (WriteReserved id at bytes) tx =
    record tx { pending = with_put id.off at bytes tx.pending }
performed (DeferFree id) tx = record tx { pending = with_free id tx.pending }
performed (SetValue id at value) tx =
    record tx { pending = with_set (record { id = id; off = at; value = value }) tx.pending }
performed Cancel tx = record tx { pending = none_pending }
performed op tx = tx

-- one that is refused: all is rolled back, but where it is on the pending list alone
abbrev pub refused : Operation → Refusal → Transaction → Transaction
refused op r tx = if is_action op then tx else aborted (error.Refused r) tx

abbrev pub after_reply : Operation → Option Value → Transaction → Transaction
after_reply op (Some (Refused r)) tx = refused op r tx
after_reply (Alloc size kind) (Some (Offset off)) tx = allocated off (new_item kind size None) tx
after_reply (Reserve size kind) (Some (Offset off)) tx =
    record tx { pending = with_reservation (new_reservation off kind size) tx.pending }
after_reply op reply tx = performed op tx

abbrev pub after : Ran → Transaction → Transaction
after ran tx = after_reply ran.operation ran.reply tx

-- what is pending before these operations is not cancelled by them before it is published
abbrev pub is_kept_by : Operation → Bool → Bool
is_kept_by Cancel later = false
is_kept_by Publish later = true
is_kept_by op later = later

unfoldable pub is_kept : List Ran → Bool
is_kept [] = true
is_kept (ran ∷ rest) = is_kept_by ran.operation (is_kept rest)
