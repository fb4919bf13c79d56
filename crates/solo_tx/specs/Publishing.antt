-- A call that publishes: its redo entries are logged, it is told and draws its number, and the log is performed.
use Rattle.std.specs.Prelude.{◌≡◌, ◌⊎◌, ◌≤◌, ℕ, All, List, length, map, None}
use Rattle.pm_objects.specs.declared.calls.Operation.{Operation}
use Rattle.pm_record.specs.declared.redo.Redo.{Redo}
use Rattle.solo_view.specs.View.{View}
use Rattle.solo_view.specs.Views.{after_all}
use Rattle.solo_crash.specs.OpenCall.{IsWholeCall, MakesItsStep}
use Rattle.solo_crash.specs.Operations.{KeepsWords, Tells}
use Rattle.solo_crash.specs.Reserved.{IsBorneOut}
use Rattle.solo_redo.specs.Entering.{HasPlace, IsReadyToLog, MayEnter, final_of}
use Rattle.solo_redo.specs.Sequences.{logs}
use Rattle.solo_world.specs.Records.{pool_entries}
use Rattle.solo_lock.specs.Begun.{MayCome}
use Rattle.solo_memory.specs.Runs.{Stops}
use Rattle.solo_world.specs.Sequences.{Ready}
use Rattle.solo_tx.specs.Sequences.{ends_call, performs_logged, publishes}

-- the lane may publish these entries, some at least and 63 at most, each one that it may enter: nothing is undrained, and a number is left for the call
pub record MayPublish (v : View) (entries : List Redo) : Type 0 where
  pub ready : IsReadyToLog v
  pub place : HasPlace v
  pub some : 1 ≤ length entries
  pub few : length entries ≤ 63
  pub each : All (MayEnter v) entries
  pub may_come : MayCome v

-- the entries are in the log, and the operation is told: the lane recorded and reserved no more, and changed no word outside of its area
pub record TellsLogged (v next : View) (entries : List Redo) (operation : Operation) : Type 0 where
  pub tells : Tells v next operation None
  pub records : next.log.records ≡ v.log.records
  pub words : KeepsWords v next
  pub logged : pool_entries next ≡ map final_of entries
  pub reserved : next.reserved ≡ v.reserved

-- the call is whole, or makes its step from each pool that may be the one before it, and what its lane has bears out what it told
abbrev pub EndsWhole : View → Type 0
EndsWhole v = IsWholeCall v ⊎ (MakesItsStep v × IsBorneOut v)

-- so it is then, whatever view that is
abbrev pub IsWholeOnceLogged : View → List Redo → Operation → Type 0
IsWholeOnceLogged v entries operation = (next : View) → TellsLogged v next entries operation → EndsWhole next

-- the view once the entries are logged, and the one once the call drew this number
abbrev pub logged_view : View → List Redo → View
logged_view v entries = after_all v (logs entries v)

abbrev pub published_view : View → List Redo → Operation → ℕ → View
published_view v entries operation n = after_all (logged_view v entries) (ends_call operation None n (logged_view v entries))

-- from each such view the entries were logged and the call drew this number, and the lane stopped behind that
abbrev pub StopsPublished : (View → Type 0) → (View → Type 0) → List Redo → Operation → ℕ → Type 0
StopsPublished old new entries operation n =
    (v : View) → old v → Ready v (publishes entries operation n v) → Stops new (published_view v entries operation n) (performs_logged entries (published_view v entries operation n))
