-- A lane that changes words of the pool's first chunk, in a pool of two lanes.
use Rattle.std.specs.Prelude.{◌≡◌, ℕ, true, false, List, [], ◌∷◌, length}
use Rattle.pm_shared.specs.declared.rule.Beginning.{Beginning}
use Rattle.pm_shared.specs.Openings.{idle_view}
use Rattle.pm_shared.specs.Seats.{Seated, IsSeen}
use Rattle.pm_view.specs.Changes.{Undrained, is_in_line}
use Rattle.pm_view.specs.Claims.{class, mine, first}
use Rattle.pm_view.specs.Log.{Idle}
use Rattle.pm_view.specs.Places.{Big}
use Rattle.pm_view.specs.Steps.Step.{ZoneTry, Occupy}
use Rattle.pm_view.specs.View.{View}
use Rattle.pm_view.specs.Views.{after}
use Rattle.pm_view.specs.declared.occ.Occ.TheVariants.{Zone}
use Rattle.pm_redo.specs.Stages.{MakesNone}

-- nothing was asked of the lane
pub record IsUnasked (s : Seated) : Type 0 where
  pub opening : Beginning
  pub seen : IsSeen s (idle_view opening 0)
  pub two_lanes : opening.shape.lanes ≡ 2

-- no call is open, nothing is undrained, no zone's lock is held, and the first chunk is no run
pub record CanReserve (v : View) : Type 0 where
  pub two_lanes : v.fixed.shape.lanes ≡ 2
  pub lane_is : v.fixed.lane ≡ 0
  pub idle : v.log.phase ≡ Idle
  pub unentered : v.log.entries ≡ []
  pub drained : v.changes ≡ []
  pub unlocked : v.zones ≡ []
  pub no_run : class v.claims 0 ≡ 0
  pub unmaking : MakesNone v

-- the view once the first chunk is reserved
abbrev pub with_chunk : View → View
with_chunk v = after (after v (ZoneTry 0 true)) (Occupy (Zone 0) 1 true)

-- the first chunk is a block of the lane's own
pub record HasChunk (v : View) : Type 0 where
  pub two_lanes : v.fixed.shape.lanes ≡ 2
  pub lane_is : v.fixed.lane ≡ 0
  pub no_run : class v.claims 0 ≡ 0
  pub unmaking : MakesNone v
  pub own : mine v.fixed.shape v.claims (Big 0) ≡ true
  pub from_itself : first v.fixed.shape v.claims 0 ≡ 0

-- so it is, and no call is open
pub record OwnsChunk (v : View) : Type 0 where
  pub chunk : HasChunk v
  pub idle : v.log.phase ≡ Idle
  pub unentered : v.log.entries ≡ []

-- each change is of the chunk's second line, and is not flushed
abbrev pub AreOfSecondLine : List Undrained → Type 0
AreOfSecondLine [] = Unit {0}
AreOfSecondLine (c ∷ changes) = (is_in_line 385 c ≡ true) × (c.flushed ≡ false) × AreOfSecondLine changes

-- and so many such changes are undrained
pub record Fills (s : Seated) (n : ℕ) : Type 0 where
  pub view : View
  pub seen : IsSeen s view
  pub owns : OwnsChunk view
  pub count : length view.changes ≡ n
  pub unflushed : AreOfSecondLine view.changes
