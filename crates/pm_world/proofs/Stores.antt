-- What each part of a drain does.
use Rattle.std.specs.Prelude.{[], ◌∷◌}
use Rattle.std.proofs.Common.{false, ◌≡◌, ℕ, ◌<◌}
use Rattle.pm_view.specs.Changes.{drained}
use Rattle.pm_view.specs.Claims.{making, Drained}
use Rattle.pm_view.specs.Log.{Phase, log_drained}
use Rattle.pm_view.specs.View.{View}
use Rattle.pm_view.specs.Views.{decided_by}
use Rattle.pm_view.specs.Counts.{MayCount}
use Rattle.pm_view.specs.Steps.Step.{Drain}
use Rattle.pm_world.specs.Course.{past_made, past_decided}
use Rattle.pm_world.specs.Laws.{Turn}
use Rattle.pm_world.specs.Memory.{Memory}
use Rattle.pm_world.specs.World.{Opening, Views, Past, World}

-- A DRAIN IS TWO STEPS: flushed changes are dropped, and chunks become runs whose descriptors are drained
abbrev pub drops : View → View
drops v = record v { claims = Drained (drained v.changes) ∷ v.claims; changes = drained v.changes; calls = Drain ∷ v.calls }

abbrev pub Drops : Type 0
Drops = (o : Opening) (mem : Memory) (views new : Views) (g : Past) (k : ℕ) → World o mem views g → k < o.lanes → MayCount (views k) → Turn views new k (drops (views k)) → World o mem new (past_made g (views k) (drained (views k).changes))

-- and, with nothing undrained any more and no run in the making, the log goes on
abbrev pub goes_on_to : View → View
goes_on_to v = record v { claims = decided_by v.log.phase v.log.entries v.claims; log = log_drained v.log.phase v.log }

abbrev pub GoesOnAt : Phase → Type 0
GoesOnAt ph = (o : Opening) (mem : Memory) (views new : Views) (g : Past) (k : ℕ) → World o mem views g → k < o.lanes → (views k).changes ≡ [] → ((c : ℕ) → making (views k).fixed.shape (views k).claims c ≡ false)
    → (views k).log.phase ≡ ph → Turn views new k (goes_on_to (views k))
    → World o mem new (past_decided (views k).log.phase (views k) g)
