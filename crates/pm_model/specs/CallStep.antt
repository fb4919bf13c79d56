-- One call of a lane: from a pool to a pool, with a reply for each of its operations.
use Rattle.std.specs.Prelude.{◌≡◌, ◌⊎◌, ℕ, ◌==◌, Bool, true, false, if◌then◌else◌, List, [], ◌∷◌}
use Rattle.pm_model.specs.Items.{PlainPool}
use Rattle.pm_model.specs.Pending.{Pending}
use Rattle.pm_model.specs.Transaction.{Transaction, idle, is_working, pool_of}
use Rattle.pm_model.specs.Inside.{Ran, Replies, after, is_begin, is_kept}
use Rattle.pm_model.specs.Outside.{Outside, RepliesOutside, after_outside}
use Rattle.pm_model.specs.Parts.{Parts, parts_inside, parts_outside}

-- a pool, and for each lane what it has pending
pub record State : Type 0 where
  pub pool : PlainPool
  pub pending : ℕ → Pending

-- a call as it ran: its lane, its operations with their replies, and its parts
pub record CallRun : Type 0 where
  pub lane : ℕ
  pub operations : List Ran
  pub parts : Parts

-- what is pending, with another lane's in its place
abbrev pub with_pending : (ℕ → Pending) → ℕ → Pending → ℕ → Pending
with_pending pending lane p k = if k == lane then p else pending k

-- the transaction goes on with these operations, and comes to this
unfoldable pub RunsOn : Transaction → List Ran → Transaction → Type 0
RunsOn tx [] last = last ≡ tx
RunsOn tx (ran ∷ rest) last =
    (is_working tx.stage ≡ true) × Replies tx ran (is_kept rest) × RunsOn (after ran tx) rest last

-- operations lead from an idle lane to this
unfoldable pub Runs : Transaction → List Ran → Transaction → Type 0
Runs tx [] last = ⊥
Runs tx (ran ∷ rest) last = Replies tx ran (is_kept rest) × RunsOn (after ran tx) rest last

-- a transaction begins with `begin`
abbrev pub is_transaction : List Ran → Bool
is_transaction [] = false
is_transaction (ran ∷ rest) = is_begin ran.operation

-- the state with what a call of the lane leaves
abbrev pub state_with : State → ℕ → Outside → State
state_with s lane left =
    record { pool = left.pool; pending = with_pending s.pending lane left.pending }

-- the call is a transaction, which turns one state into the other
pub record TransactionStep (s : State) (run : CallRun) (next : State) : Type 0 where
  pub last : Transaction
  pub begins : is_transaction run.operations ≡ true
  -- it is committed or aborted
  pub over : is_working last.stage ≡ false
  pub runs : Runs (idle s.pool (s.pending run.lane)) run.operations last
  pub parts : run.parts ≡ parts_inside (idle s.pool (s.pending run.lane)) run.operations
  pub leaves : next ≡ state_with s run.lane (record { pool = pool_of last; pending = last.pending })

-- what a lane begins a call outside of a transaction from
abbrev pub outside_of : State → ℕ → Outside
outside_of s lane = record { pool = s.pool; pending = s.pending lane }

-- the call is one operation outside of a transaction
pub record OutsideStep (s : State) (run : CallRun) (next : State) : Type 0 where
  pub ran : Ran
  pub single : run.operations ≡ ran ∷ []
  pub replies : RepliesOutside (outside_of s run.lane) ran
  pub parts : run.parts ≡ parts_outside (outside_of s run.lane) ran
  pub leaves : next ≡ state_with s run.lane (after_outside ran (outside_of s run.lane))

-- THE STEP of one call
abbrev pub CallStep : State → CallRun → State → Type 0
CallStep s run next = TransactionStep s run next ⊎ OutsideStep s run next
