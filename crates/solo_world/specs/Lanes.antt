-- How a lane's fixed lists and numbers show in its view.
use Rattle.std.specs.Prelude.{◌≡◌, ℕ, ◌+◌, ◌*◌, false, List, [], ◌∷◌, length, map, Some, None}
use Rattle.std.specs.Option.{ForSome}
use Rattle.pm_layout.specs.declared.shape.Shape.{Shape}
use Rattle.solo_view.specs.Log.{Recorded}
use Rattle.solo_view.specs.View.{View, Lock, Numbered}
use Rattle.solo_world.specs.declared.lane.HeldLock.{HeldLock}
use Rattle.solo_world.specs.declared.lane.Span.{Span}
use Rattle.solo_world.specs.declared.lane.Lane.{Lane}
use Rattle.solo_world.specs.declared.lane.Stage.TheVariants as stage

abbrev pub lock_of : HeldLock → Lock
lock_of held = record { line = held.line; write = held.write; block = held.block }

abbrev pub span_of : Recorded → Span
span_of r = record { word = r.word; count = length r.old }

-- the number of the last of a lane's entries; 0 for none
abbrev pub last_number_of : List Numbered → ℕ
last_number_of [] = 0
last_number_of (e ∷ []) = e.number
last_number_of (e ∷ d ∷ entries) = last_number_of (d ∷ entries)

-- the view is of a pool of this shape: its numbers of lanes and zones, and all of its words
pub record IsOfShape (v : View) (shape : Shape) : Type 0 where
  pub lanes : v.lanes ≡ shape.lanes
  pub zones : v.zones ≡ shape.zones
  pub size : length v.words ≡ 512 + 1024 * shape.lanes + 33280 * shape.zones

-- the lane may be seen as the view, where its memory may be
pub record IsSeenAs {M : Type 0} (at : M → View → Type 0) (lane : Lane M) (v : View) : Type 0 where
  pub memory : at lane.memory v
  pub pool : v.pool ≡ lane.pool
  pub shape : IsOfShape v lane.shape
  pub locks : map lock_of lane.locks.items ≡ v.locks
  pub records : lane.records.items ≡ map span_of v.log.records
  pub drawn : ForSome lane.drawn (λ number. v.number ≡ Some number)
  pub last : lane.last ≡ last_number_of v.entries

-- no transaction is open, no number waits for its answer, and the lane has not stopped
pub record IsIdle {M : Type 0} (lane : Lane M) : Type 0 where
  pub stage : lane.stage ≡ stage.None
  pub level : lane.level ≡ 0
  pub answered : lane.drawn ≡ None
  pub unstopped : lane.stopped ≡ false
