-- A LANE STANDS after a look at the root's id, as a law: with the history that it stood with.
use Rattle.std.specs.Prelude.{Result}
use Rattle.pm_objects.specs.declared.ids.Oid.{Oid}
use Rattle.pm_objects.specs.declared.refusal.Refusal.{Refusal}
use Rattle.pm_view.specs.View.{View}
use Rattle.pm_call.specs.Standing.{TurnsHistory}
use Rattle.pm_root.specs.Root.{RootFound}

abbrev pub RootsTurn : {M : Type 0} → (M → View → Type 0) → Type 0
RootsTurn at = (result : Result Oid Refusal)
    → TurnsHistory at (λ old new. RootFound at old new result) (λ old new h. h)
