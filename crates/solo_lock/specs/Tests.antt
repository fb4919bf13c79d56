-- What the tests speak of.
use Rattle.std.specs.Prelude.{◌≡◌, []}
use Rattle.solo_memory.specs.Solo.{Sees, Solo}
use Rattle.solo_world.specs.declared.lane.Lane.{Lane}
use Rattle.solo_lock.specs.Begun.{IsLaneBegun}

-- a lane alone whose call has begun, with no lock
pub record Begins (lane : Lane Solo) : Type 0 where
  pub begun : IsLaneBegun Sees lane
  pub free : lane.locks.items ≡ []
