-- WHAT THE END OF A LEVEL does to its lane.
use Rattle.std.specs.Prelude.{◌≡◌, []}
use Rattle.pm_model.specs.declared.stage.Stage.{Stage}
use Rattle.pm_model.specs.declared.stage.Stage.TheVariants as stage
use Rattle.pm_objects.specs.declared.history.TxErr.{TxErr}
use Rattle.pm_objects.specs.declared.history.TxErr.TheVariants as error
use Rattle.pm_view.specs.View.{View}
use Rattle.pm_view.specs.Views.{after_all}
use Rattle.pm_world.specs.declared.lane.Lane.{Lane}
use Rattle.pm_lock.specs.Holding.{MayGiveAll}
use Rattle.pm_lock.specs.Steps.{gives}

-- the stage of an outer level, once an inner one has ended
abbrev pub stage_outside : TxErr → Stage
stage_outside error.None = stage.Work
stage_outside e = stage.OnAbort

-- the locks are given back, and no transaction is open
pub record IsClosed {M : Type 0} (old new : Lane M) : Type 0 where
  pub unlocked : new.locks.items ≡ []
  pub same : new ≡ record old { memory = new.memory; locks = new.locks; level = 0; stage = stage.None; error = error.None }

unfoldable pub Closed : {M : Type 0} → (M → View → Type 0) → Lane M → Lane M → Type 0
Closed at old new = (v : View) → at old.memory v → MayGiveAll v old.locks.items
    → at new.memory (after_all v (gives old.locks.items)) × IsClosed old new
