-- What recovered words, by their number, hold beside a header: a pool, and in it the object of each block.
use Rattle.std.specs.Prelude.{◌≡◌, ℕ, ◌≤◌, List, length, Contains, None, Some}
use Rattle.pm_header.specs.declared.header.Header.{Header}
use Rattle.pm_objects.specs.Pool.{Objects, object_at}
use Rattle.pm_objects.specs.declared.pool.Object.{Object}
use Rattle.pm_objects.specs.declared.pool.PoolView.{PoolView}
use Rattle.pm_image.specs.declared.block.Block.{Block}
use Rattle.pm_image.specs.Blocks.{blocks}
use Rattle.pm_image.specs.Contents.{bytes_in, object_in, offset_in, size_in}
use Rattle.pm_image.specs.HeapFaults.{heap_fault}
use Rattle.pm_image.specs.LogFaults.{log_fault}
use Rattle.pm_image.specs.Logs.{recovered_at}
use Rattle.pm_image.specs.Means.{HasHeader, IsHeaderOf, pool_in}

-- the words have no fault, and under this header they are this pool
pub record HoldsPool (w : ℕ → ℕ) (lanes zones : ℕ) (header : Header) (pool : PoolView) : Type 0 where
  pub no_fault : heap_fault w lanes zones ≡ None
  pub is_pool : pool ≡ pool_in w lanes zones header

-- the object in a block
abbrev pub object_of : (ℕ → ℕ) → ℕ → ℕ → Block → Object
object_of w lanes zones block = object_in w (length (blocks w lanes zones)) block

-- at the block's offset stands its object, which has as many bytes as its size says
pub record IsObjectAt (w : ℕ → ℕ) (lanes zones : ℕ) (objects : Objects) (block : Block) : Type 0 where
  pub found : object_at objects (offset_in block) ≡ Some (object_of w lanes zones block)
  pub size : length (bytes_in w block) ≡ size_in w block
  pub some : 1 ≤ size_in w block
  pub most : size_in w block ≤ 262080

-- the object at an offset is that of a block
pub record IsBlockOf (w : ℕ → ℕ) (lanes zones off : ℕ) (object : Object) : Type 0 where
  pub block : Block
  pub is_there : Contains (blocks w lanes zones) block
  pub is_offset : off ≡ offset_in block
  pub is_object : object ≡ object_of w lanes zones block

-- the image has a header of its shape and no fault in its logs, and its recovered words hold the pool
pub record HoldsImage (image : List ℕ) (lanes zones : ℕ) (header : Header) (pool : PoolView) : Type 0 where
  pub has_header : HasHeader image lanes zones header
  pub fits : IsHeaderOf lanes zones header
  pub no_log_fault : log_fault image lanes zones ≡ None
  pub holds : HoldsPool (recovered_at image lanes) lanes zones header pool
