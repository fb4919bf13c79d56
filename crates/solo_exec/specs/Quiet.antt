-- A lane of which no slot is being written, so that a power failure tears no record of it: for the crate's own functions.
use Rattle.std.specs.Prelude.{◌≡◌, ◌∷◌}
use Rattle.std.specs.List.{Contains}
use Rattle.solo_view.specs.declared.change.Change.{Change}
use Rattle.solo_view.specs.Log.{Phase}
use Rattle.solo_view.specs.Log.Phase.{Open}
use Rattle.solo_view.specs.View.{View}
use Rattle.solo_world.proofs.CrashLogs.{InSlots}

-- no record is in the making
abbrev pub MakesNone : Phase → Type 0
MakesNone (Open (x ∷ slot) pair) = ⊥
MakesNone phase = Unit {0}

-- lane 0, which has no undrained change of a slot, and no record in the making
pub record IsQuiet (w : View) : Type 0 where
  pub lane : w.lane ≡ 0
  pub unchanged : (c : Change) → Contains w.changes c → InSlots 0 c.word → ⊥
  pub unbegun : MakesNone w.log.phase
