-- Lanes of the crate's tests: no call is open, and line 100's lock is free or held for writing.
use Rattle.std.specs.Prelude.{◌≡◌, Bool}
use Rattle.pm_shared.specs.Seats.{Seated, IsSeen}
use Rattle.pm_view.specs.Claims.{holds}
use Rattle.pm_view.specs.Log.{Idle}
use Rattle.pm_view.specs.View.{View}

pub record Rests (s : Seated) (held : Bool) : Type 0 where
  pub view : View
  pub seen : IsSeen s view
  pub idle : view.log.phase ≡ Idle
  pub line : holds view.claims 100 ≡ held
