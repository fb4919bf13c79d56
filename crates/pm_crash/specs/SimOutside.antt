-- A CALL OUTSIDE A TRANSACTION: one operation, told alone. What it owes, and that it has its fact.
use Rattle.std.specs.Prelude.{◌≡◌, ℕ, true, [], ◌∷◌, Option, None, Some, MatchOption}
use Rattle.pm_header.specs.declared.header.Header.{Header}
use Rattle.pm_layout.specs.Sizes.{class_of}
use Rattle.pm_objects.specs.declared.calls.Operation.{Operation}
use Rattle.pm_objects.specs.declared.calls.Operation.TheVariants.{Reserve}
use Rattle.pm_objects.specs.declared.history.Value.{Value}
use Rattle.pm_objects.specs.declared.history.Value.TheVariants.{Offset}
use Rattle.pm_objects.specs.declared.pool.PoolView.{PoolView}
use Rattle.pm_objects.specs.declared.refusal.Refusal.{Refusal}
use Rattle.pm_model.specs.Inside.{IsRefused, Ran, is_action}
use Rattle.pm_model.specs.Items.{PlainPool, plain_pool}
use Rattle.pm_model.specs.Outside.{Outside, RepliesOutside, after_outside, refusal_outside}
use Rattle.pm_model.specs.Pending.{blocks_reserved}
use Rattle.pm_model.specs.Places.{CanHold}
use Rattle.pm_model.specs.Refusals.{Seen}
use Rattle.pm_view.specs.Places.{RootWord}
use Rattle.pm_view.specs.View.{View}
use Rattle.pm_world.specs.States.{State}
use Rattle.pm_crash.specs.Calls.{Fact, pending_of, told_by}
use Rattle.pm_crash.specs.Facts.{bits_after, change_of}
use Rattle.pm_crash.specs.Freshness.{root_told}
use Rattle.pm_crash.specs.HeapChanges.{ChangesHeap}
use Rattle.pm_crash.specs.Looked.{pool_seen}
use Rattle.pm_crash.specs.Sim.{Agrees, StandIn}
use Rattle.pm_crash.specs.SimAllocs.{HasBlockFor}
use Rattle.pm_crash.specs.Spelled.{Holds, number}

-- what the call begins from, in this pool
abbrev pub outside_before : View → PlainPool → Outside
outside_before v pool = record { pool = pool; pending = pending_of v.entries }

abbrev pub pool_after : View → Ran → PlainPool → PlainPool
pool_after v ran pool = (after_outside ran (outside_before v pool)).pool

-- the call is this operation alone
abbrev pub IsLone : View → Ran → Type 0
IsLone v ran = v.call ≡ told_by ran ∷ []

-- WHAT IT OWES, with the bits in it: it replies as the model says; its bits hold a heap again; and
-- the objects and the root that the model's operation makes of the pool are those of the bits then
pub record LeadsOutside (v : View) (ran : Ran) (classes : ℕ → ℕ) (s : State) (pool : PlainPool)
    : Type 0 where
  pub replies : RepliesOutside (outside_before v pool) ran
  pub heap : ChangesHeap v.fixed.shape classes s (change_of v)
  pub stands : StandIn v.fixed.shape classes (bits_after v s) (pool_after v ran pool).items
  pub root : (pool_after v ran pool).root ≡ root_told (number (bits_after v s RootWord))

-- from whatever bits the lane agrees with, and whatever pool they hold
abbrev pub FromBits : View → ((ℕ → ℕ) → State → PlainPool → Type 0) → Type 0
FromBits v owes = (classes : ℕ → ℕ) (s : State) (header : Header) (pool : PoolView)
    → Agrees classes v true s → Holds v.fixed.shape classes s header pool
    → header.id ≡ v.fixed.pool → owes classes s (plain_pool pool)

-- SO IT HAS ITS FACT
abbrev pub OutsidesAreFacts : Type 0
OutsidesAreFacts = (v : View) (ran : Ran) → IsLone v ran → FromBits v (LeadsOutside v ran) → Fact v

-- ---- ONE THAT CHANGES NO OBJECT: a read, what is asked of the pending list, or one that is refused
pub record LeavesPool (v : View) (ran : Ran) (pool : PlainPool) : Type 0 where
  pub replies : RepliesOutside (outside_before v pool) ran
  pub same : pool_after v ran pool ≡ pool

pub record IsBare (v : View) : Type 0 where
  pub records : v.log.records ≡ []
  pub entries : v.log.entries ≡ []

abbrev pub BareOutsidesAreFacts : Type 0
BareOutsidesAreFacts = (v : View) (ran : Ran) → IsLone v ran → IsBare v
    → FromBits v (λ classes s pool. LeavesPool v ran pool) → Fact v

-- ---- WHAT IS ASKED OF THE PENDING LIST, with no bits in it

-- its first refusal, by what is pending and the pool's id
abbrev pub refusal_alone : Seen → View → Operation → Option Refusal
refusal_alone seen v op = refusal_outside seen (outside_before v (pool_seen v None)) op

-- a reservation replies the offset of a block that the lane has for it; the others reply nothing
abbrev pub IsActionDone : View → Operation → Option Value → Type 0
IsActionDone v (Reserve size kind) reply = (off : ℕ)
    × CanHold v.fixed.shape.lanes v.fixed.shape.zones (class_of size) off
    × HasBlockFor v true (blocks_reserved (pending_of v.entries)) (record { off = off; size = size })
    × (reply ≡ Some (Offset off))
IsActionDone v op reply = reply ≡ None

pub record IsAction (v : View) (ran : Ran) : Type 0 where
  pub lone : IsLone v ran
  pub bare : IsBare v
  pub action : is_action ran.operation ≡ true
  pub replies : MatchOption (refusal_alone ran.seen v ran.operation)
      (IsActionDone v ran.operation ran.reply) (λ r. IsRefused r ran.reply)

abbrev pub ActionsAreFacts : Type 0
ActionsAreFacts = (v : View) (ran : Ran) → IsAction v ran → Fact v
