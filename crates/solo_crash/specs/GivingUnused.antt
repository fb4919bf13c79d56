-- What a lane's view shows where the lane gives back blocks that it reserved and that its open call uses no more (pmemobj_cancel(3)).
use Rattle.std.specs.Prelude.{◌≡◌, ℕ, Contains, List, ◌++◌}
use Rattle.solo_view.specs.View.{View}
use Rattle.solo_crash.specs.CallBlocks.{NewObject, block_of, blocks_in, reserved_in}
use Rattle.solo_crash.specs.NewObjects.{IsWordOf}
use Rattle.solo_crash.specs.OpenCall.{IsUnderBlock}
use Rattle.solo_crash.specs.Reserved.{IsReservedFor}

-- the objects whose blocks the open call uses: those that it made, whether it has them or freed them again, and those that are reserved and pending
abbrev pub in_use : View → List NewObject
in_use v = ((blocks_in v).made ++ (blocks_in v).dropped) ++ reserved_in v

-- The lane gave back what it had reserved, and told nothing. No word changed, no word was recorded or entered, and it holds the locks that it held. It knows still what
-- it knew of the blocks that it found under its locks, and of those that the call uses; and of these each that was reserved is.
pub record GivesUnused (v next : View) : Type 0 where
  pub lanes : next.lanes ≡ v.lanes
  pub zones : next.zones ≡ v.zones
  pub pool : next.pool ≡ v.pool
  pub lane : next.lane ≡ v.lane
  pub entries : next.entries ≡ v.entries
  pub call : next.call ≡ v.call
  pub locks : next.locks ≡ v.locks
  pub words : next.words ≡ v.words
  pub records : next.log.records ≡ v.log.records
  pub entered : next.log.entries ≡ v.log.entries
  pub known_found : (i : ℕ) → Contains v.known i → IsUnderBlock v i → Contains next.known i
  pub known_used : (n : NewObject) (i : ℕ) → Contains (in_use v) n → Contains v.known i → IsWordOf (block_of n) i → Contains next.known i
  pub reserved : (n : NewObject) → Contains (in_use v) n → IsReservedFor v n → IsReservedFor next n
