-- A lane whose call has begun and of which nothing is told yet.
use Rattle.std.specs.List.{IsDistinct}
use Rattle.std.specs.Prelude.{◌≡◌, ℕ, ◌/◌, ◌<◌, false, All, Contains, [], length, map, nat_eq, None}
use Rattle.pm_objects.specs.declared.history.TxErr.TheVariants as error
use Rattle.solo_undo.specs.Working.{HasArea}
use Rattle.solo_view.specs.Log.Phase.{Open}
use Rattle.solo_view.specs.Log.{no_log}
use Rattle.solo_view.specs.Steps.Step.{NumberSeen}
use Rattle.solo_view.specs.View.{View, Lock}
use Rattle.solo_world.specs.Lanes.{IsSeenAs}
use Rattle.solo_world.specs.Lawful.{generation_limit}
use Rattle.solo_world.specs.declared.lane.Lane.{Lane}
use Rattle.solo_lock.specs.Resting.{MayRest}

-- the view saw, as its call began, that a number is left for it
pub record MayCome (v : View) : Type 0 where
  pub found : ℕ
  pub seen : Contains v.seen (NumberSeen found)
  pub below : found < generation_limit

-- each lock that it holds is of a line of the pool, and no two are of one
pub record HoldsLines (v : View) : Type 0 where
  pub inside : All (λ (l : Lock). l.line < length v.words / 8) v.locks
  pub once : IsDistinct nat_eq (map (λ (l : Lock). l.line) v.locks)

-- the call is open, with nothing told, recorded or listed, and nothing undrained but what may be at rest; the lane may hold locks
pub record IsBegun {M : Type 0} (at : M → View → Type 0) (lane : Lane M) (v : View) : Type 0 where
  pub seen : IsSeenAs at lane v
  pub unharmed : lane.error ≡ error.None
  pub unstopped : lane.stopped ≡ false
  pub unlisted : lane.entries.items ≡ []
  pub log : v.log ≡ no_log (Open [] [])
  pub undrawn : v.number ≡ None
  pub undrained : MayRest v
  pub untold : v.call ≡ []
  pub area : HasArea v
  pub may_come : MayCome v
  pub lines : HoldsLines v

abbrev pub IsLaneBegun : {M : Type 0} → (M → View → Type 0) → Lane M → Type 0
IsLaneBegun at lane = (v : View) × IsBegun at lane v
