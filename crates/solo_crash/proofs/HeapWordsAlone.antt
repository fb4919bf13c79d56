-- A pool depends on the root's word and on words of the zones alone.
use Rattle.std.proofs.Common.{◌≡◌, ℕ, sym, ◌∙◌}
use Rattle.pm_header.specs.declared.header.Header.{Header}
use Rattle.pm_objects.specs.declared.pool.PoolView.{PoolView}
use Rattle.pm_image.specs.Reads.{AgreeOn, IsHeapWord, Reads, SameHeap}
use Rattle.pm_image.proofs.HeapWords.{reads_heap}
use Rattle.pm_image.proofs.LocalPool.{heap_local}
use Rattle.solo_crash.specs.Held.{HoldsPool}

pub held_by_heap : (w v : ℕ → ℕ) (lanes zones : ℕ) (header : Header) (pool : PoolView) → HoldsPool w lanes zones header pool → ((i : ℕ) → IsHeapWord lanes zones i → v i ≡ w i) → HoldsPool v lanes zones header pool
held_by_heap w v lanes zones header pool holds same =
    let agree : AgreeOn (Reads w lanes zones) w v = record { same = λ i read. sym (same i (reads_heap w lanes zones i holds.no_fault read)) } in
    let heap : SameHeap w v lanes zones = heap_local w v lanes zones agree in
    record { no_fault = heap.same_fault ∙ holds.no_fault; is_pool = holds.is_pool ∙ sym (heap.same_pool holds.no_fault header) }
