-- What holds a pool still does with the same heap, and so where the words that the meaning reads are the same.
use Rattle.std.proofs.Common.{◌≡◌, ℕ, sym, ◌∙◌}
use Rattle.pm_header.specs.declared.header.Header.{Header}
use Rattle.pm_objects.specs.declared.pool.PoolView.{PoolView}
use Rattle.pm_image.specs.Blocks.{blocks}
use Rattle.pm_image.specs.Reads.{AgreeOn, Reads, SameHeap}
use Rattle.pm_image.proofs.LocalPool.{heap_local}
use Rattle.pm_crash.specs.Held.{HoldsPool}

pub held_alike : (w v : ℕ → ℕ) (lanes zones : ℕ) (header : Header) (pool : PoolView) → HoldsPool w lanes zones header pool → SameHeap w v lanes zones → HoldsPool v lanes zones header pool
held_alike w v lanes zones header pool holds heap =
    record { no_fault = heap.same_fault ∙ holds.no_fault; is_pool = holds.is_pool ∙ sym (heap.same_pool holds.no_fault header) }

pub held_by_reads : (w v : ℕ → ℕ) (lanes zones : ℕ) (header : Header) (pool : PoolView) → HoldsPool w lanes zones header pool → AgreeOn (Reads w lanes zones) w v → HoldsPool v lanes zones header pool
held_by_reads w v lanes zones header pool holds agree = held_alike w v lanes zones header pool holds (heap_local w v lanes zones agree)

pub blocks_by_reads : (w v : ℕ → ℕ) (lanes zones : ℕ) → AgreeOn (Reads w lanes zones) w v → blocks v lanes zones ≡ blocks w lanes zones
blocks_by_reads w v lanes zones agree = (heap_local w v lanes zones agree).same_blocks
