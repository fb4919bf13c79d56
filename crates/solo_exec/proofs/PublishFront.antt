-- Where what publishes stops behind its draw, its call is in flight.
use Rattle.std.proofs.Common.{◌≡◌, inl, inr, ℕ, ◌+◌, List, length, is_some, take, Some, sym, ap, ◌∙◌}
use Rattle.std.proofs.lemmas.Bool.{false≢true}
use Rattle.solo_crash.specs.Alone.{raises}
use Rattle.pm_objects.specs.declared.calls.Operation.{Operation}
use Rattle.pm_record.specs.declared.redo.Redo.{Redo}
use Rattle.solo_tx.proofs.PublishCourse.{publishes_so}
use Rattle.solo_tx.specs.Generations.{IsApplied, IsPublishing, IsUnapplied}
use Rattle.solo_tx.specs.Publishing.{MayPublish}
use Rattle.solo_tx.specs.Sequences.{publishes}
use Rattle.solo_view.specs.Log.{Phase}
use Rattle.solo_view.specs.Log.Phase.{Applying, Clearing, Drawn, Idle, Sealing}
use Rattle.solo_view.specs.View.{View}
use Rattle.solo_view.specs.Views.{after_all}
use Rattle.solo_exec.specs.Progress.{IsFlyingBy}

unapplied_flies : (most raised : ℕ) (p : Phase) → raised ≡ 0 → IsUnapplied most p → IsFlyingBy raised p
unapplied_flies most raised Drawn none unapplied = none
unapplied_flies most raised Sealing none unapplied = none
unapplied_flies most raised (Applying applied) none unapplied = tt
unapplied_flies most raised p none unapplied = absurd unapplied

applied_flies : (all raised : ℕ) (p : Phase) → raised ≡ 1 → IsApplied all p → IsFlyingBy raised p
applied_flies all raised (Applying applied) one is = tt
applied_flies all raised Clearing one is = one
applied_flies all raised Idle one is = one
applied_flies all raised p one is = absurd is

-- before the draw no number is there
pub publishing_flies : (count raised number : ℕ) (w : View) → w.number ≡ Some number → IsPublishing count raised w → IsFlyingBy raised w.log.phase
publishing_flies count raised number w drawn (inl (none, inl (undrawn, logging))) = absurd (false≢true (sym undrawn ∙ ap is_some drawn))
publishing_flies count raised number w drawn (inl (none, inr (some, unapplied))) = unapplied_flies count raised w.log.phase none unapplied
publishing_flies count raised number w drawn (inr (one, some, applied)) = applied_flies (count + 1) raised w.log.phase one applied
