-- A PUBLISH OUTSIDE A TRANSACTION, wherever it stops, is writing no record of the log.
use Rattle.std.proofs.Common.{ℕ, ◌<◌, List, [], ◌∷◌, length, map, take, None}
use Rattle.pm_model.specs.Pending.{SetWord}
use Rattle.pm_objects.specs.declared.calls.Operation.TheVariants.{Publish}
use Rattle.pm_view.specs.View.{Told}
use Rattle.pm_view.specs.Views.{after_all}
use Rattle.pm_world.specs.LaneFields.{Standing}
use Rattle.pm_plan.specs.Plans.{Ready}
use Rattle.pm_undo.specs.Working.{IsWorking}
use Rattle.pm_call.specs.At.{set_entry}
use Rattle.pm_call.specs.Publications.{publishes}
use Rattle.pm_call.specs.Unwritten.{WritesNoRecord}
use Rattle.pm_call.proofs.HeldWords.{calling}
use Rattle.pm_call.proofs.Slotless.{IsUnslotted, unslotted_unwritten, working_unslotted}
use Rattle.pm_call.proofs.SlotlessPlans.{ends_unslotted, logs_unslotted}

module _ (s : Standing) {call : List Told} (works : IsWorking (calling call s.view)) where
  unslotted : IsUnslotted s.view
  unslotted = let u = working_unslotted (calling call s.view) works in record { slot = u.slot; changes = u.changes }

  pub publishes_unwritten : (words : List SetWord) (found : ℕ → ℕ) (n k : ℕ) → length (map set_entry words) < 64 → Ready s.view (publishes words found n s.view)
      → WritesNoRecord (after_all s.view (take k (publishes words found n s.view)))
  publishes_unwritten [] found n k few ready = unslotted_unwritten _ (ends_unslotted s.view Publish None n k unslotted)
  publishes_unwritten (a ∷ words) found n k few ready = unslotted_unwritten _
      (logs_unslotted s.view Publish (map set_entry (a ∷ words)) found n k unslotted works.lane works.is_open few ready)
