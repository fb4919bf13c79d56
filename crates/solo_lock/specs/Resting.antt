-- A lane at rest, between two calls.
use Rattle.std.specs.Prelude.{◌≡◌, ◌⊎◌, ◌+◌, ◌*◌, ◌<◌, ◌≤◌, false, [], None, length}
use Rattle.pm_objects.specs.declared.history.TxErr.TheVariants as error
use Rattle.solo_view.specs.Founds.{IsAlone}
use Rattle.solo_view.specs.Log.{no_log}
use Rattle.solo_view.specs.Log.Phase.{Idle, Open}
use Rattle.solo_view.specs.View.{View}
use Rattle.solo_world.specs.Lanes.{IsSeenAs}
use Rattle.solo_world.specs.Lawful.{OnlyFilled}
use Rattle.solo_world.specs.declared.lane.Lane.{Lane}

-- the lane's area lies in the pool
pub record HasPlace (v : View) : Type 0 where
  pub lane : v.lane < v.lanes
  pub few : v.lane < 32
  pub inside : 512 + 1024 * (v.lane + 1) ≤ length v.words

-- no call is open, or one in which nothing was done yet
abbrev pub IsFresh : View → Type 0
IsFresh v = (v.log ≡ no_log Idle) ⊎ ((v.log ≡ no_log (Open [] [])) × (v.number ≡ None) × (v.call ≡ []))

-- nothing is undrained; or the lane is alone, and nothing is undrained but words that it filled in blocks that it reserved
abbrev pub MayRest : View → Type 0
MayRest v = (v.changes ≡ []) ⊎ (IsAlone v × OnlyFilled v)

-- the lane is at rest: it holds no lock and lists no entry, nothing is undrained but what may be at rest, and it has its area in the pool
pub record IsAtRest {M : Type 0} (at : M → View → Type 0) (lane : Lane M) (v : View) : Type 0 where
  pub seen : IsSeenAs at lane v
  pub answered : lane.drawn ≡ None
  pub unharmed : lane.error ≡ error.None
  pub unstopped : lane.stopped ≡ false
  pub unlisted : lane.entries.items ≡ []
  pub fresh : IsFresh v
  pub undrained : MayRest v
  pub free : v.locks ≡ []
  pub place : HasPlace v

abbrev pub IsLaneAtRest : {M : Type 0} → (M → View → Type 0) → Lane M → Type 0
IsLaneAtRest at lane = (v : View) × IsAtRest at lane v
