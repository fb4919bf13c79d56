-- What a change of the heap asks of the words before it they still have behind the entry of another one, of a block that lies apart.
use Rattle.std.proofs.Common.{◌≡◌, inl, inr, ℕ, None, sym}
use Rattle.pm_image.specs.Blocks.{chunk_word}
use Rattle.pm_image.specs.HeapFaults.{heap_fault}
use Rattle.solo_crash.specs.HeapChanges.{block_changed, changed, AreDisjoint, CanChange, HeapChange}
use Rattle.solo_crash.specs.HeapChanges.HeapChange.{AllocatesChunks, AllocatesInRun, FreesChunks, FreesInRun}
use Rattle.solo_crash.specs.NewObjects.{FreesChunksBlock, FreesRunBlock, MakesChunksObject, MakesRunObject}
use Rattle.solo_crash.proofs.BitMore.{cleared_bit, index_small, set_bit, HasBitMore}
use Rattle.solo_crash.proofs.ChangesApart.{some_of_first, some_of_object, still_after_chunks, still_after_run}
use Rattle.solo_crash.proofs.FreedBlocks.{first_fits}
use Rattle.solo_crash.proofs.OneChange.{allocated_chunks, allocated_in_run, changed_elsewhere, freed_chunks, freed_in_run, run_bitmap_fits}

module _ (w : ℕ → ℕ) (lanes zones : ℕ) (none : heap_fault w lanes zones ≡ None) where
  -- what may be changed still may be, after a change of a block that lies apart
  pub can_still : (a other : HeapChange) → CanChange w lanes zones a → AreDisjoint (block_changed lanes a) (block_changed lanes other) → CanChange w lanes zones other → CanChange (changed lanes a w) lanes zones other
  can_still (AllocatesInRun c lines index kind bytes) other can apart of =
      let a : HeapChange = AllocatesInRun c lines index kind bytes in
      let u : ℕ → ℕ = changed lanes a w in
      let made : MakesRunObject w u lanes zones c lines index kind bytes = allocated_in_run w lanes zones none c lines index kind bytes can in
      let bit : HasBitMore (w (chunk_word lanes c)) (u (chunk_word lanes c)) index = set_bit (w (chunk_word lanes c)) (u (chunk_word lanes c)) index can.0.is_clear made.bitmap in
      still_after_run w u lanes zones none c lines index
      (record { inside = can.0.inside; is_run = can.0.is_run; bits = bit.others; others = changed_elsewhere lanes a w }) other apart of
  can_still (AllocatesChunks c chunks kind bytes) other can apart of =
      let a : HeapChange = AllocatesChunks c chunks kind bytes in
      let u : ℕ → ℕ = changed lanes a w in
      let made : MakesChunksObject w u lanes zones c chunks kind bytes = allocated_chunks w lanes zones none c chunks kind bytes can in
      still_after_chunks w u lanes zones none c chunks
      (record { some = some_of_object w lanes c chunks kind bytes can.1; fits = can.0.in_zone; becomes = inl made.descriptor; others = changed_elsewhere lanes a w }) other apart of
  can_still (FreesInRun c lines index) other can apart of =
      let a : HeapChange = FreesInRun c lines index in
      let u : ℕ → ℕ = changed lanes a w in
      let freed : FreesRunBlock w u lanes zones c lines index = freed_in_run w lanes zones none c lines index can in
      let bit : HasBitMore (u (chunk_word lanes c)) (w (chunk_word lanes c)) index =
      cleared_bit (u (chunk_word lanes c)) (w (chunk_word lanes c)) index (index_small lines index can.inside) (run_bitmap_fits w lanes zones c lines index none can.in_zones can.inside can.is_run) can.is_set freed.bitmap in
      still_after_run w u lanes zones none c lines index
      (record { inside = can.inside; is_run = can.is_run; bits = λ i differ. sym (bit.others i differ); others = changed_elsewhere lanes a w }) other apart of
  can_still (FreesChunks c chunks) other can apart of =
      let a : HeapChange = FreesChunks c chunks in
      let u : ℕ → ℕ = changed lanes a w in
      let freed : FreesChunksBlock w u lanes zones c chunks = freed_chunks w lanes zones none c chunks can in
      still_after_chunks w u lanes zones none c chunks
      (record { some = some_of_first w lanes zones c chunks none can; fits = first_fits w u lanes zones c chunks none freed; becomes = inr freed.descriptor; others = changed_elsewhere lanes a w }) other apart of
