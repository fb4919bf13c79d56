-- What no step changes.
use Rattle.std.specs.Prelude.{◌≡◌, length}
use Rattle.solo_view.specs.View.{View}

-- one lane of one pool
pub record IsSameLane (v w : View) : Type 0 where
  pub lanes : w.lanes ≡ v.lanes
  pub zones : w.zones ≡ v.zones
  pub pool : w.pool ≡ v.pool
  pub lane : w.lane ≡ v.lane
  pub stop : w.stop ≡ v.stop
  pub table : w.table ≡ v.table
  pub size : length w.words ≡ length v.words
