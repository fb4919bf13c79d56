-- The pool that words hold which have a block more than others, or one less.
use Rattle.std.proofs.Common.{◌≡◌, ◌≢◌, ℕ, length, Option, Some, None, refl, sym, arith, List}
use Rattle.std.specs.List.{Contains}
use Rattle.pm_header.specs.declared.header.Header.{Header}
use Rattle.pm_objects.specs.Pool.{object_at}
use Rattle.pm_objects.specs.declared.pool.Object.{Object}
use Rattle.pm_objects.specs.declared.pool.PoolView.{PoolView}
use Rattle.pm_image.specs.declared.block.Block.{Block}
use Rattle.pm_image.specs.Blocks.{blocks}
use Rattle.pm_image.specs.Contents.{offset_in, size_in}
use Rattle.pm_image.proofs.LocalContents.{contents_local}
use Rattle.solo_crash.specs.Held.{HoldsPool, IsBlockOf}
use Rattle.solo_model.specs.NewObjects.{pool_with, pool_without}
use Rattle.solo_crash.specs.NewObjects.{unlinked, with_block, without_block, HasNewObject}
use Rattle.solo_crash.proofs.FreedBlocks.{ShrinksBy}
use Rattle.solo_crash.proofs.FreshObjects.{fresh_has_no_links, fresh_is_good, fresh_object}
use Rattle.solo_crash.proofs.MadeObjects.{GrowsBy}
use Rattle.solo_crash.proofs.ObjectsOfBlocks.{block_is_there}
use Rattle.solo_crash.proofs.OneBlockMore.{blocks_fewer, blocks_more, fault_fewer, fault_more, other_place, pool_fewer, pool_more}

-- a block more, with a new object
module _ (w v : ℕ → ℕ) (lanes zones : ℕ) (block : Block) (grows : GrowsBy w v lanes zones block) where
  pub grown_blocks : blocks v lanes zones ≡ with_block block (blocks w lanes zones)
  grown_blocks = blocks_more w v lanes zones block grows.one

  pub grown_sizes : (other : Block) → Contains (blocks w lanes zones) other → size_in v other ≡ size_in w other
  grown_sizes other there = (contents_local w v other (grows.one.words other there)).same_size

  -- no object was at its offset
  pub was_no_object : (header : Header) (pool : PoolView) → HoldsPool w lanes zones header pool → object_at pool.objects (offset_in block) ≡ None
  was_no_object header pool holds = go (object_at pool.objects (offset_in block)) (λ object is.
      let found : IsBlockOf w lanes zones (offset_in block) object = block_is_there w lanes zones (offset_in block) header pool object holds is in
      let same : offset_in block ≡ offset_in found.block = found.is_offset in
      other_place w v lanes zones block grows.one found.block found.is_there (omega arith)) where
        go : (o : Option Object) → ((object : Object) → o ≡ Some object → ⊥) → o ≡ None
        go None never = refl
        go (Some object) never = absurd (never object refl)

  pub grown_pool : (header : Header) (pool : PoolView) (kind : ℕ) (bytes : List ℕ) → HoldsPool w lanes zones header pool → HasNewObject v block kind bytes
      → HoldsPool v lanes zones header (pool_with (offset_in block) (unlinked kind bytes) pool)
  grown_pool header pool kind bytes holds object = pool_more w v lanes zones block grows.one header pool (unlinked kind bytes) holds
      (fault_more w v lanes zones block grows.one holds.no_fault grows.bitmaps (fresh_is_good v block kind bytes object) (fresh_has_no_links v block kind bytes object))
      (fresh_object v block kind bytes object (length (blocks v lanes zones)))

-- a block less, which is not the root's
module _ (w v : ℕ → ℕ) (lanes zones : ℕ) (block : Block) (shrinks : ShrinksBy w v lanes zones block) where
  pub shrunk_blocks : blocks v lanes zones ≡ without_block block.place (blocks w lanes zones)
  shrunk_blocks = blocks_fewer v w lanes zones block shrinks.one

  pub shrunk_sizes : (other : Block) → Contains (blocks v lanes zones) other → size_in v other ≡ size_in w other
  shrunk_sizes other there = sym (contents_local v w other (shrinks.one.words other there)).same_size

  pub shrunk_pool : (header : Header) (pool : PoolView) → HoldsPool w lanes zones header pool → w 64 ≢ offset_in block → HoldsPool v lanes zones header (pool_without (offset_in block) pool)
  shrunk_pool header pool holds not_root = pool_fewer v w lanes zones block shrinks.one header pool holds (fault_fewer v w lanes zones block shrinks.one holds.no_fault shrinks.bitmaps not_root)
