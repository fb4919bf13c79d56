-- WHAT AN IMAGE MEANS: the replay of the calls that it keeps; and its blocks are its objects'.
use Rattle.std.specs.Prelude.{◌≡◌, ℕ, ◌-◌, List, length, map, slice_index}
use Rattle.pm_header.specs.declared.header.Header.{Header}
use Rattle.pm_layout.specs.Sizes.{class_of}
use Rattle.pm_objects.specs.Pool.{IsPool, block_lines}
use Rattle.pm_objects.specs.declared.pool.Object.{Object}
use Rattle.pm_objects.specs.declared.pool.PoolView.{PoolView}
use Rattle.pm_image.specs.declared.block.Block.{Block}
use Rattle.pm_image.specs.Blocks.{blocks}
use Rattle.pm_image.specs.Logs.{recovered_at}
use Rattle.pm_image.specs.Means.{HasHeader, IsHeaderOf, IsMeaning}
use Rattle.pm_view.specs.View.{View}
use Rattle.pm_model.specs.Pending.{Pending}
use Rattle.pm_world.specs.World.{Opening}
use Rattle.pm_crash.specs.Held.{HoldsPool}
use Rattle.pm_crash.specs.Replayed.{Replay}

-- the opening's words, which are recovered ones, hold the pool; its header page spells the header
pub record OpensPool (o : Opening) (header : Header) (pool : PoolView) : Type 0 where
  pub has_header : HasHeader o.words o.shape.lanes o.shape.zones header
  pub fits : IsHeaderOf o.shape.lanes o.shape.zones header
  pub holds : HoldsPool (slice_index o.words) o.shape.lanes o.shape.zones header pool

-- the block of an object: it begins 64 bytes before the object's offset, and has the lines of the
-- class of its size
abbrev pub block_for : ℕ × Object → Block
block_for entry =
    record { place = entry.0 - 64; lines = block_lines (class_of (length entry.1.bytes)) }

-- THE IMAGE MEANS THE REPLAY of these calls: its pool is the one to which they lead, and the blocks
-- that its words name are its objects' in rising place, of which no two overlap
pub record MeansReplay (image : List ℕ) (lanes zones : ℕ) (pool : PoolView) (calls : List View)
    (pending : ℕ → Pending) : Type 0 where
  pub last : PoolView
  pub replay : Replay pool calls last pending
  pub means : IsMeaning image last
  pub blocks : blocks (recovered_at image lanes) lanes zones ≡ map block_for last.objects
  pub apart : IsPool last
