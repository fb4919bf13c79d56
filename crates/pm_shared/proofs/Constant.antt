-- No step changes a lane's constants.
use Rattle.std.proofs.Common.{◌≡◌, ℕ, Bool, true, false, refl}
use Rattle.pm_view.specs.declared.occ.Occ.{Occ}
use Rattle.pm_view.specs.Log.{Phase, Idle, Open, Drawn, Sealing, Applying, Clearing, Retiring, Voiding}
use Rattle.pm_view.specs.Steps.{Step}
use Rattle.pm_view.specs.Steps.Step.{Load, Store, Or, And, Flush, Drain, TakeWrite, TakeRead, Raise, Give, ZoneTry, ZoneGive, Occupied, Occupy, Vacate, Draw, NumberSeen, StopSeen, SetStop, Tell}
use Rattle.pm_view.specs.View.{View}
use Rattle.pm_view.specs.Views.{after, begun, occupied}

begun_fixed : (ph : Phase) (v : View) → (begun ph v).fixed ≡ v.fixed
begun_fixed Idle v = refl
begun_fixed Open v = refl
begun_fixed (Drawn n) v = refl
begun_fixed (Sealing n) v = refl
begun_fixed (Applying todo) v = refl
begun_fixed Clearing v = refl
begun_fixed (Retiring n) v = refl
begun_fixed Voiding v = refl

occupied_fixed : (won : Bool) (v : View) (at : Occ) (bits : ℕ) → (occupied won v at bits).fixed ≡ v.fixed
occupied_fixed true v at bits = refl
occupied_fixed false v at bits = refl

pub fixed-after : (v : View) (s : Step) → (after v s).fixed ≡ v.fixed
fixed-after v (Load w x) = refl
fixed-after v (Store w x) = refl
fixed-after v (Or w bits found) = refl
fixed-after v (And w bits found) = refl
fixed-after v (Flush line) = refl
fixed-after v Drain = refl
fixed-after v (TakeWrite line won) = refl
fixed-after v (TakeRead line won) = refl
fixed-after v (Raise line won) = refl
fixed-after v (Give line) = refl
fixed-after v (ZoneTry zone won) = refl
fixed-after v (ZoneGive zone) = refl
fixed-after v (Occupied at found) = refl
fixed-after v (Occupy at bits won) = occupied_fixed won v at bits
fixed-after v (Vacate at bits) = refl
fixed-after v (Draw n) = refl
fixed-after v (NumberSeen n) = begun_fixed v.log.phase v
fixed-after v (StopSeen set) = refl
fixed-after v SetStop = refl
fixed-after v (Tell operation reply) = refl
