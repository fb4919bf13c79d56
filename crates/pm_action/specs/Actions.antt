-- ACTIONS ARE ASKED FOR in a transaction at work: pmemobj_set_value(3) and its kin. A refusal leaves it at work, and is told.
use Rattle.std.specs.Prelude.{◌≡◌, ◌≢◌, ℕ, ◌%◌, ◌<◌, ◌≤◌, Option, Some, None, Result, Ok, Err}
use Rattle.pm_model.specs.Pending.{max_actions}
use Rattle.pm_objects.specs.declared.calls.Operation.{Operation}
use Rattle.pm_objects.specs.declared.history.Value.{Value}
use Rattle.pm_objects.specs.declared.history.Value.TheVariants.{Refused}
use Rattle.pm_objects.specs.declared.refusal.Refusal.{Refusal}
use Rattle.pm_objects.specs.declared.refusal.Refusal.TheVariants as refusal
use Rattle.pm_view.specs.View.{View}
use Rattle.pm_world.specs.LaneFields.{Standing, Works}
use Rattle.pm_world.specs.declared.lane.Lane.{Lane}
use Rattle.pm_plan.specs.Plans.{Ready}
use Rattle.pm_call.specs.At.{At}
use Rattle.pm_call.specs.Did.{IsRefused, IsUnrefused, next, work_refusal}
use Rattle.pm_call.specs.Plans.{tells}

-- what a word to be set comes to, with so many actions pending
abbrev pub JudgedSet : ℕ → ℕ → Result (Unit {0}) Refusal → Type 0
JudgedSet off many (Ok done) = (off % 8 ≡ 0) × (many < max_actions)
JudgedSet off many (Err refusal.Unaligned) = off % 8 ≢ 0
JudgedSet off many (Err refusal.ActionsFull) = (off % 8 ≡ 0) × (max_actions ≤ many)
JudgedSet off many (Err r) = ⊥

-- an operation was told with its reply
unfoldable pub HasTold : {M : Type 0} → (M → View → Type 0) → Lane M → Lane M → Operation → Option Value → Type 0
HasTold at old new op reply = (s : Standing) → Works at old s → At s → Works at new (next s (tells op reply))

-- and the lane is at work then
pub record IsTold {M : Type 0} (at : M → View → Type 0) (lane : Lane M) (s : Standing) (op : Operation) (reply : Option Value) : Type 0 where
  pub ready : Ready s.view (tells op reply s.view)
  pub works : Works at lane (next s (tells op reply))
  pub stands : At (next s (tells op reply))

-- THE OPERATION: it is done or refused, and told so; refused for its stage it changes nothing
abbrev pub AskedAs : {M : Type 0} → (M → View → Type 0) → Lane M → Operation → Result (Unit {0}) Refusal → Standing → Type 0
AskedAs at lane op (Ok done) s = IsUnrefused s op × IsTold at lane s op None
AskedAs at lane op (Err r) s = IsRefused s op r × IsTold at lane s op (Some (Refused r))

abbrev pub AskedSo : {M : Type 0} → Option Refusal → (M → View → Type 0) → Lane M → Lane M → Operation → Result (Unit {0}) Refusal → Type 0
AskedSo (Some r) at old new op result = (result ≡ Err r) × (new ≡ old)
AskedSo None at old new op result = (s : Standing) → Works at old s → At s → AskedAs at new op result s

unfoldable pub Asked : {M : Type 0} → (M → View → Type 0) → Lane M → Lane M → Operation → Result (Unit {0}) Refusal → Type 0
Asked at old new op result = AskedSo (work_refusal old) at old new op result
