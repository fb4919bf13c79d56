-- THE SEQUENTIAL FACT OF A CALL: what is owed once as it takes its number, with no other lane in it.
use Rattle.std.specs.Prelude.{◌≡◌, ℕ, List, [], ◌∷◌, map, Option, None, Some}
use Rattle.pm_header.specs.declared.header.Header.{Header}
use Rattle.pm_objects.specs.declared.calls.Operation.{Operation}
use Rattle.pm_objects.specs.declared.calls.Operation.TheVariants.{Reserve, WriteReserved, DeferFree, SetValue, Publish, Cancel}
use Rattle.pm_objects.specs.declared.history.Value.{Value}
use Rattle.pm_objects.specs.declared.history.Value.TheVariants.{Offset}
use Rattle.pm_objects.specs.declared.pool.PoolView.{PoolView}
use Rattle.pm_model.specs.CallStep.{CallRun, CallStep, State, with_pending}
use Rattle.pm_model.specs.Inside.{Ran}
use Rattle.pm_model.specs.Items.{plain_pool}
use Rattle.pm_model.specs.Pending.{Pending, new_reservation, none_pending, with_free, with_put, with_reservation, with_set}
use Rattle.pm_view.specs.View.{View, Told, Numbered}
use Rattle.pm_world.specs.States.{State as Bits, after_diff, diff}
use Rattle.pm_world.specs.Sights.{call_in}
use Rattle.pm_crash.specs.Footprints.{MayPrecede}
use Rattle.pm_crash.specs.Spelled.{Holds}

-- ---- WHAT IS PENDING follows from a lane's operations and their replies

abbrev pub pending_with : Operation → Option Value → Pending → Pending
pending_with (Reserve size kind) (Some (Offset off)) p =
    with_reservation (new_reservation off kind size) p
pending_with (WriteReserved id at bytes) None p = with_put id.off at bytes p
pending_with (DeferFree id) None p = with_free id p
pending_with (SetValue id at value) None p = with_set (record { id = id; off = at; value = value }) p
pending_with Publish None p = none_pending
pending_with Cancel None p = none_pending
pending_with operation reply p = p

-- after these operations
unfoldable pub pending_after : List Told → Pending → Pending
pending_after [] p = p
pending_after (t ∷ told) p = pending_after told (pending_with t.operation t.reply p)

-- after a lane's entries, the latest first
unfoldable pub pending_of : List Numbered → Pending
pending_of [] = none_pending
pending_of (e ∷ earlier) = pending_after e.call (pending_of earlier)

-- ---- THE CALL AND ITS RUN

abbrev pub told_by : Ran → Told
told_by ran = record { operation = ran.operation; reply = ran.reply }

-- the model's run is the lane's call: its operations with their replies
pub record IsRunOf (v : View) (run : CallRun) : Type 0 where
  pub lane : run.lane ≡ v.fixed.lane
  pub told : map told_by run.operations ≡ v.call

-- a pool, with what is pending for each lane
abbrev pub state_of : PoolView → (ℕ → Pending) → State
state_of pool pending = record { pool = plain_pool pool; pending = pending }

-- what is pending once the call is done
abbrev pub pending_then : View → (ℕ → Pending) → ℕ → Pending
pending_then v pending =
    with_pending pending v.fixed.lane (pending_after v.call (pending v.fixed.lane))

-- THE CALL IS A STEP of the plain model: from bits that hold a pool, with the call's difference they
-- hold the pool to which the model's step leads, with the replies that the call gave
pub record StepsFrom (v : View) (classes : ℕ → ℕ) (s : Bits) (header : Header) (pool : PoolView)
    (pending : ℕ → Pending) : Type 0 where
  pub next : PoolView
  pub holds : Holds v.fixed.shape classes (after_diff (diff (call_in v)) s) header next
  pub run : CallRun
  pub is_run : IsRunOf v run
  pub steps : CallStep (state_of pool pending) run (state_of next (pending_then v pending))

-- THE FACT: so it is from all bits that may precede the call, whatever pool they hold
abbrev pub Fact : View → Type 0
Fact v = (classes : ℕ → ℕ) (s : Bits) (header : Header) (pool : PoolView) (pending : ℕ → Pending)
    → MayPrecede classes v s → Holds v.fixed.shape classes s header pool
    → header.id ≡ v.fixed.pool → pending v.fixed.lane ≡ pending_of v.entries
    → StepsFrom v classes s header pool pending
