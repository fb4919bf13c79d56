-- What chunks that were free at the opening have: no block, as recovered words tell of them. So words that are else the same, wherever the meaning of the
-- opening's words reads, hold the same pool.
use Rattle.std.proofs.Common.{◌≡◌, ⊎_elim, inl, inr, ℕ, ◌+◌, ◌*◌, ◌/◌, ◌%◌, ◌<◌, ◌≤◌, not, List, length, slice_index, None, refl, sym, ◌∙◌, ap, arith}
use Rattle.pm_header.specs.declared.header.Header.{Header}
use Rattle.pm_objects.specs.declared.pool.PoolView.{PoolView}
use Rattle.pm_image.specs.HeapFaults.{heap_fault}
use Rattle.pm_image.specs.Logs.{recovered, recovered_at}
use Rattle.pm_image.specs.Reads.{IsHeapWord}
use Rattle.pm_image.proofs.InPlace.{recovered_in_place}
use Rattle.solo_view.specs.Blocks.{bitmap_word, descriptor_word as lane_descriptor}
use Rattle.solo_world.specs.Heap.{AreNewRuns, HasNoBlock, IsEmptyRun as IsEmptyPage}
use Rattle.solo_world.specs.Opening.{IsLivingWord, IsPoolChunk, IsSound, Opening, TellsOfBlocks}
use Rattle.solo_world.proofs.Chunks.{chunk_here}
use Rattle.solo_crash.specs.FreeWords.{HasNoBlocks, MayHaveNewRuns}
use Rattle.solo_crash.specs.Held.{HoldsPool}
use Rattle.solo_crash.proofs.EmptyRuns.{new_runs_alike}
use Rattle.solo_crash.proofs.FoundBlocks.{IsPageOf, page_of_chunk}
use Rattle.solo_crash.proofs.HeldAlike.{held_alike}
use Rattle.solo_crash.proofs.LivingWords.{free_by_page, read_lives, taken_same}

-- the page of a chunk, by the chunk's number
abbrev pub page_at : ℕ → ℕ → ℕ
page_at lanes c = 2 + 2 * lanes + 65 * (c / 64) + c % 64

pub page_in_pool : (lanes zones c : ℕ) → c < 64 * zones → IsPoolChunk lanes zones (page_at lanes c)
page_in_pool lanes zones c inside = (chunk_here lanes (page_at lanes c) (page_of_chunk lanes (page_at lanes c) c refl).in_chunk, omega arith)

-- a chunk of this page has no block, and so has none by its number
pub none_by_number : (words : ℕ → ℕ) (lanes c : ℕ) → HasNoBlock words lanes (page_at lanes c) → HasNoBlocks words lanes c
none_by_number words lanes c none =
    let of : IsPageOf lanes (page_at lanes c) c = page_of_chunk lanes (page_at lanes c) c refl in
    ⊎_elim
    (λ (zero : words (lane_descriptor lanes (page_at lanes c)) ≡ 0). inl (ap words (sym of.descriptor) ∙ zero))
    (λ (run : IsEmptyPage words lanes (page_at lanes c)). inr (record {
      lines = run.lines;
      some_blocks = run.some_blocks;
      is_run = ap words (sym of.descriptor) ∙ run.described;
      no_block = ap words (sym of.bitmap) ∙ run.no_block;
    }))
    none

-- so it is by other words that are the same in the zones
pub new_runs_on : (o : Opening) (words others : ℕ → ℕ) → AreNewRuns o words → ((i : ℕ) → IsHeapWord o.lanes o.zones i → others i ≡ words i) → AreNewRuns o others
new_runs_on o words others new same page chunk free =
    let low = chunk.0.0 in
    let some = chunk.0.1 in
    let high = chunk.1 in
    let descriptor : others (lane_descriptor o.lanes page) ≡ words (lane_descriptor o.lanes page) = same (lane_descriptor o.lanes page) (inr (omega (arith, low, some, high), omega (arith, low, some, high))) in
    let bitmap : others (bitmap_word page) ≡ words (bitmap_word page) = same (bitmap_word page) (inr (omega (arith, low, some, high), omega (arith, low, some, high))) in
    ⊎_elim
    (λ (zero : words (lane_descriptor o.lanes page) ≡ 0). inl (descriptor ∙ zero))
    (λ (run : IsEmptyPage words o.lanes page). inr (record { lines = run.lines; some_blocks = run.some_blocks; described = descriptor ∙ run.described; no_block = bitmap ∙ run.no_block }))
    (new page chunk free)

module _ (o : Opening) (w : ℕ → ℕ) (heads : (i : ℕ) → TellsOfBlocks o i → w i ≡ slice_index o.words i) (sound : IsSound o) (none : heap_fault w o.lanes o.zones ≡ None) where
  -- words that are these at each living word, and have no block in a chunk that was free, are these but for new runs
  pub may_have_runs : (v : ℕ → ℕ) → ((i : ℕ) → IsLivingWord o i → v i ≡ w i) → AreNewRuns o v → MayHaveNewRuns w v o.lanes o.zones
  may_have_runs v same new = record {
    free_chunks = λ c inside free.
        none_by_number v o.lanes c
        (new (page_at o.lanes c) (page_in_pool o.lanes o.zones c inside) (free_by_page (slice_index o.words) o.lanes c ∙ ap not (sym (taken_same o w heads (c / 64) (c % 64) (omega arith)) ∙ free)));
    others = λ i read apart. same i (read_lives o w heads sound none i read apart);
  }

-- so an image holds a pool, once recovered, that such words hold
pub image_holds : (o : Opening) (w : ℕ → ℕ) → ((i : ℕ) → TellsOfBlocks o i → w i ≡ slice_index o.words i) → IsSound o → (image : List ℕ) → length image ≡ length o.words
    → ((i : ℕ) → IsLivingWord o i → recovered image o.lanes i ≡ w i) → AreNewRuns o (recovered image o.lanes) → (header : Header) (pool : PoolView) → HoldsPool w o.lanes o.zones header pool
    → HoldsPool (recovered_at image o.lanes) o.lanes o.zones header pool
image_holds o w heads sound image long words new header pool holds =
    held_alike w (recovered_at image o.lanes) o.lanes o.zones header pool holds
    (new_runs_alike w (recovered_at image o.lanes) o.lanes o.zones
    (may_have_runs o w heads sound holds.no_fault (recovered_at image o.lanes)
    (λ i living. in_place i living.heap ∙ words i living)
    (new_runs_on o (recovered image o.lanes) (recovered_at image o.lanes) new in_place))
    holds.no_fault)
  where
    in_place : (i : ℕ) → IsHeapWord o.lanes o.zones i → recovered_at image o.lanes i ≡ recovered image o.lanes i
    in_place i heap =
        recovered_in_place image o.lanes i (let size = sound.size in ⊎_elim (λ (root : i ≡ 64). omega arith) (λ (zone : (512 + 1024 * o.lanes ≤ i) × (i < 512 + 1024 * o.lanes + 33280 * o.zones)). let high = zone.1 in omega arith) heap)
