-- A LANE BETWEEN TWO CALLS may open one, by a look at how many numbers were drawn. Where none is left,
-- or the lane only wanted to look at something, the call is open, and the lane does no more: it may
-- look again.
use Rattle.std.specs.Prelude.{◌≡◌, ◌⊎◌, ℕ, ◌<◌, List, [], None}
use Rattle.pm_layout.specs.Areas.{greatest_generation}
use Rattle.pm_view.specs.Log.{Open, new_log}
use Rattle.pm_view.specs.Steps.{Step}
use Rattle.pm_view.specs.Steps.Step.{NumberSeen}
use Rattle.pm_view.specs.View.{View}
use Rattle.pm_view.specs.Views.{after}
use Rattle.pm_world.specs.LaneFields.{Rests, Standing, moved}
use Rattle.pm_world.specs.declared.lane.Lane.{Lane}
use Rattle.pm_call.specs.Locking.{IsOpened}
use Rattle.pm_call.specs.Stages.{IsBetween}

-- the lane's data as it saw that so many numbers were drawn
abbrev pub saw_number : Standing → ℕ → Standing
saw_number s n = moved s (after s.view (NumberSeen n))

-- the lane's data once its call is open, and nothing is done in it: its steps told this, the last
-- first
abbrev pub opened_with : Standing → List Step → Standing
opened_with s seen = moved s (record s.view {
  log = new_log Open s.view.log.generation;
  seen = seen;
  call = [];
  number = None;
  published = [];
})

-- IT MAY OPEN A CALL: it is between two calls; or such a lane opened one, and did nothing in it
pub record MayOpen (s : Standing) : Type 0 where
  pub before : Standing
  pub between : IsBetween before
  pub since : (s ≡ before) ⊎ ((seen : List Step) × (s ≡ opened_with before seen))

pub record IsLaneBetween {M : Type 0} (at : M → View → Type 0) (lane : Lane M) : Type 0 where
  pub standing : Standing
  pub rests : Rests at lane standing
  pub between : MayOpen standing

-- THE LAW: its call opens as it sees a number that is not the last, whatever it saw before
abbrev pub LookedCallsMayOpen : Type 0
LookedCallsMayOpen = (s : Standing) (n : ℕ) → MayOpen s
    → s.view.log.generation < greatest_generation s.view.fixed.shape
    → n < greatest_generation s.view.fixed.shape
    → IsOpened (saw_number s n)
