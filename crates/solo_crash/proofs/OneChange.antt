-- The entry of one change of the heap makes of words that hold a pool words that hold it with that change.
use Rattle.std.proofs.Common.{◌≡◌, ◌≢◌, ℕ, ◌+◌, ◌-◌, ◌*◌, ◌/◌, ◌^◌, ◌<◌, ◌≤◌, eqb, Some, None, refl, sym, ◌∙◌, subst, arith, eq-eqb, ne_eqb, List, length}
use Rattle.std.proofs.lemmas.Bool.{cond-false, cond-true}
use Rattle.std.proofs.Math.Nat.{pow-le-pow_right}
use Rattle.std.proofs.Math.Pow.{pow-lt}
use Rattle.pm_header.specs.declared.header.Header.{Header}
use Rattle.pm_layout.specs.Sizes.{blocks_of, descriptor_of, lines_for}
use Rattle.pm_layout.specs.declared.class.Class.TheVariants.{Lines}
use Rattle.pm_objects.specs.declared.pool.PoolView.{PoolView}
use Rattle.pm_image.specs.declared.block.Block.{Block}
use Rattle.pm_image.specs.Blocks.{blocks, chunk_word, class_in, descriptor_word}
use Rattle.pm_image.specs.Contents.{data_words}
use Rattle.pm_image.specs.HeapFaults.{heap_fault}
use Rattle.pm_image.specs.Reads.{ReadsBlock}
use Rattle.pm_image.proofs.LocalContents.{contents_local}
use Rattle.pm_image.proofs.Rooms.{lines_needed, run_fits, words_fit}
use Rattle.solo_view.specs.Bits.{with_bits}
use Rattle.solo_world.specs.History.{made_final}
use Rattle.solo_world.proofs.Differences.{made_whole}
use Rattle.solo_crash.specs.Held.{HoldsPool}
use Rattle.solo_crash.specs.HeapChanges.{blocks_changed, changed, entry_of, pool_changed, CanChange, HeapChange}
use Rattle.solo_crash.specs.HeapChanges.HeapChange.{AllocatesChunks, AllocatesInRun, FreesChunks, FreesInRun}
use Rattle.solo_crash.specs.NewObjects.{block_of_chunks, block_of_run, FreesChunksBlock, FreesRunBlock, HasNewObject, MakesChunksObject, MakesRunObject}
use Rattle.solo_crash.proofs.BitEntries.{and_entry, or_entry}
use Rattle.solo_crash.proofs.BitMore.{index_small}
use Rattle.solo_crash.proofs.ChangedPools.{grown_blocks, grown_pool, shrunk_blocks, shrunk_pool}
use Rattle.solo_crash.proofs.EmptyRuns.{class_of_run}
use Rattle.solo_crash.proofs.FreedBlocks.{chunks_shrink, run_shrinks}
use Rattle.solo_crash.proofs.MadeObjects.{bitmap_small, chunks_grow, good_bitmap, run_grows}

-- the words with one entry applied: at its word, and elsewhere
pub changed_here : (lanes : ℕ) (a : HeapChange) (w : ℕ → ℕ) (i : ℕ) → (entry_of lanes a).word ≡ i → changed lanes a w i ≡ with_bits (entry_of lanes a).mask (entry_of lanes a).bits (w i)
unfolding made_final
changed_here lanes a w i is =
    cond-true (eqb (entry_of lanes a).word i) (with_bits (entry_of lanes a).mask (entry_of lanes a).bits (w i)) (w i) (eq-eqb (entry_of lanes a).word i is)

pub changed_elsewhere : (lanes : ℕ) (a : HeapChange) (w : ℕ → ℕ) (i : ℕ) → i ≢ (entry_of lanes a).word → changed lanes a w i ≡ w i
unfolding made_final
changed_elsewhere lanes a w i other =
    cond-false (eqb (entry_of lanes a).word i) (with_bits (entry_of lanes a).mask (entry_of lanes a).bits (w i)) (w i) (ne_eqb (entry_of lanes a).word i (λ same. other (sym same)))

-- the bitmap of a run is a word of 64 bits
pub run_bitmap_fits : (w : ℕ → ℕ) (lanes zones c lines index : ℕ) → heap_fault w lanes zones ≡ None → c < 64 * zones → index < blocks_of lines → w (descriptor_word lanes c) ≡ descriptor_of (Lines lines) → w (chunk_word lanes c) < 2 ^ 64
run_bitmap_fits w lanes zones c lines index none inside within is =
    let run : class_in (w (descriptor_word lanes c)) ≡ Some (Lines lines) = class_of_run (w (descriptor_word lanes c)) lines (is ∙ omega arith) (omega arith) in
    let small : w (chunk_word lanes c) < 2 ^ blocks_of lines = bitmap_small w lanes c lines (good_bitmap w lanes zones c none inside) run in
    let last : blocks_of lines - 1 < 64 = index_small lines (blocks_of lines - 1) (omega arith) in
    let few : blocks_of lines ≤ 64 = omega arith in
    let two : 0 < 2 = omega arith in
    let most : 2 ^ blocks_of lines ≤ 2 ^ 64 = pow-le-pow_right two few in
    omega arith

-- a new object stands still where no word of its block changes
pub object_stays : (w u : ℕ → ℕ) (block : Block) (kind : ℕ) (bytes : List ℕ) → HasNewObject w block kind bytes → ((i : ℕ) → block.place / 8 ≤ i → i < block.place / 8 + 8 * block.lines → u i ≡ w i) → HasNewObject u block kind bytes
object_stays w u block kind bytes object same = record {
  some = object.some;
  most = object.most;
  of_size = object.of_size;
  header = λ place low. same (block.place / 8 + place) (omega arith) (let fits = enough in omega (arith, low, fits)) ∙ object.header place low;
  holds = (contents_local w u block (record {
    same = λ i (read : ReadsBlock w block i).
        let from = read.from in let to = read.to in let fits = enough in let size = object.header 1 (omega arith) in
        sym (same i from (omega (arith, to, fits, size)));
  })).same_bytes ∙ object.holds;
} where
  enough : 8 + data_words (length bytes) ≤ 8 * block.lines
  enough = words_fit (length bytes) block.lines (subst (λ (n : ℕ). lines_for (length bytes) ≤ n) object.of_size (lines_needed (length bytes)))

-- the words of a run's block, and of whole chunks
pub run_block_words : (lanes c lines index i : ℕ) → index < blocks_of lines → (block_of_run lanes c lines index).place / 8 ≤ i → i < (block_of_run lanes c lines index).place / 8 + 8 * lines
    → (chunk_word lanes c + 8 ≤ i) × (i < chunk_word lanes c + 512)
run_block_words lanes c lines index i inside from to =
    let before : ℕ = lines * index in
    let fits : 1 + before + lines ≤ 64 = run_fits lines index inside in
    let begins : (8 * chunk_word lanes c + 64 * (1 + before)) / 8 ≤ i = from in
    let ends : i < (8 * chunk_word lanes c + 64 * (1 + before)) / 8 + 8 * lines = to in
    (omega arith, omega arith)

pub chunks_block_words : (lanes c chunks i : ℕ) → (block_of_chunks lanes c chunks).place / 8 ≤ i → i < (block_of_chunks lanes c chunks).place / 8 + 8 * (64 * chunks) → (chunk_word lanes c ≤ i) × (i < chunk_word lanes c + 512 * chunks)
chunks_block_words lanes c chunks i from to =
    let begins : 8 * chunk_word lanes c / 8 ≤ i = from in
    let ends : i < 8 * chunk_word lanes c / 8 + 8 * (64 * chunks) = to in
    (omega arith, omega arith)

module _ (w : ℕ → ℕ) (lanes zones : ℕ) (none : heap_fault w lanes zones ≡ None) where
  -- each change is one of the four
  pub allocated_in_run : (c lines index kind : ℕ) (bytes : List ℕ) → CanChange w lanes zones (AllocatesInRun c lines index kind bytes)
      → MakesRunObject w (changed lanes (AllocatesInRun c lines index kind bytes) w) lanes zones c lines index kind bytes
  allocated_in_run c lines index kind bytes can =
      let a : HeapChange = AllocatesInRun c lines index kind bytes in
      let u : ℕ → ℕ = changed lanes a w in
      record {
        free = can.0;
        bitmap = changed_here lanes a w (chunk_word lanes c) refl
            ∙ or_entry (2 ^ index) (w (chunk_word lanes c)) (pow-lt (index_small lines index can.0.inside)) (run_bitmap_fits w lanes zones c lines index none can.0.in_zones can.0.inside can.0.is_run);
        object = object_stays w u (block_of_run lanes c lines index) kind bytes can.1 (λ i from to. changed_elsewhere lanes a w i (λ same.
            let at = run_block_words lanes c lines index i can.0.inside from to in
            let begins = at.0 in
            omega arith));
        others = λ i read other. changed_elsewhere lanes a w i other;
      }

  pub allocated_chunks : (c chunks kind : ℕ) (bytes : List ℕ) → CanChange w lanes zones (AllocatesChunks c chunks kind bytes)
      → MakesChunksObject w (changed lanes (AllocatesChunks c chunks kind bytes) w) lanes zones c chunks kind bytes
  allocated_chunks c chunks kind bytes can =
      let a : HeapChange = AllocatesChunks c chunks kind bytes in
      let u : ℕ → ℕ = changed lanes a w in
      record {
        free = can.0;
        descriptor = changed_here lanes a w (descriptor_word lanes c) refl ∙ made_whole (entry_of lanes a) (w (descriptor_word lanes c)) refl;
        object = object_stays w u (block_of_chunks lanes c chunks) kind bytes can.1 (λ i from to. changed_elsewhere lanes a w i (λ same.
            let at = chunks_block_words lanes c chunks i from to in
            let begins = at.0 in
            omega arith));
        others = λ i read other. changed_elsewhere lanes a w i other;
      }

  pub freed_in_run : (c lines index : ℕ) → CanChange w lanes zones (FreesInRun c lines index) → FreesRunBlock w (changed lanes (FreesInRun c lines index) w) lanes zones c lines index
  freed_in_run c lines index can =
      let a : HeapChange = FreesInRun c lines index in
      record {
        may = can;
        bitmap = changed_here lanes a w (chunk_word lanes c) refl ∙ and_entry (2 ^ 64 - 1 - 2 ^ index) (w (chunk_word lanes c)) (omega arith);
        others = λ i read other apart. changed_elsewhere lanes a w i other;
      }

  pub freed_chunks : (c chunks : ℕ) → CanChange w lanes zones (FreesChunks c chunks) → FreesChunksBlock w (changed lanes (FreesChunks c chunks) w) lanes zones c chunks
  freed_chunks c chunks can =
      let a : HeapChange = FreesChunks c chunks in
      record {
        may = can;
        descriptor = changed_here lanes a w (descriptor_word lanes c) refl ∙ made_whole (entry_of lanes a) (w (descriptor_word lanes c)) refl;
        others = λ i read other apart. changed_elsewhere lanes a w i other;
      }

  pub blocks_one : (a : HeapChange) → CanChange w lanes zones a → blocks (changed lanes a w) lanes zones ≡ blocks_changed lanes a (blocks w lanes zones)
  blocks_one (AllocatesInRun c lines index kind bytes) can =
      grown_blocks w (changed lanes (AllocatesInRun c lines index kind bytes) w) lanes zones (block_of_run lanes c lines index)
      (run_grows w (changed lanes (AllocatesInRun c lines index kind bytes) w) lanes zones c lines index kind bytes none (allocated_in_run c lines index kind bytes can))
  blocks_one (AllocatesChunks c chunks kind bytes) can =
      grown_blocks w (changed lanes (AllocatesChunks c chunks kind bytes) w) lanes zones (block_of_chunks lanes c chunks)
      (chunks_grow w (changed lanes (AllocatesChunks c chunks kind bytes) w) lanes zones c chunks kind bytes none (allocated_chunks c chunks kind bytes can))
  blocks_one (FreesInRun c lines index) can =
      shrunk_blocks w (changed lanes (FreesInRun c lines index) w) lanes zones (block_of_run lanes c lines index)
      (run_shrinks w (changed lanes (FreesInRun c lines index) w) lanes zones c lines index none (freed_in_run c lines index can))
  blocks_one (FreesChunks c chunks) can =
      shrunk_blocks w (changed lanes (FreesChunks c chunks) w) lanes zones (block_of_chunks lanes c chunks)
      (chunks_shrink w (changed lanes (FreesChunks c chunks) w) lanes zones c chunks none (freed_chunks c chunks can))

pub holds_one : (w : ℕ → ℕ) (lanes zones : ℕ) (header : Header) (pool : PoolView) (a : HeapChange) → HoldsPool w lanes zones header pool → CanChange w lanes zones a
    → HoldsPool (changed lanes a w) lanes zones header (pool_changed lanes a pool)
holds_one w lanes zones header pool (AllocatesInRun c lines index kind bytes) holds can =
    let made : MakesRunObject w (changed lanes (AllocatesInRun c lines index kind bytes) w) lanes zones c lines index kind bytes = allocated_in_run w lanes zones holds.no_fault c lines index kind bytes can in
    grown_pool w (changed lanes (AllocatesInRun c lines index kind bytes) w) lanes zones (block_of_run lanes c lines index)
    (run_grows w (changed lanes (AllocatesInRun c lines index kind bytes) w) lanes zones c lines index kind bytes holds.no_fault made) header pool kind bytes holds made.object
holds_one w lanes zones header pool (AllocatesChunks c chunks kind bytes) holds can =
    let made : MakesChunksObject w (changed lanes (AllocatesChunks c chunks kind bytes) w) lanes zones c chunks kind bytes = allocated_chunks w lanes zones holds.no_fault c chunks kind bytes can in
    grown_pool w (changed lanes (AllocatesChunks c chunks kind bytes) w) lanes zones (block_of_chunks lanes c chunks)
    (chunks_grow w (changed lanes (AllocatesChunks c chunks kind bytes) w) lanes zones c chunks kind bytes holds.no_fault made) header pool kind bytes holds made.object
holds_one w lanes zones header pool (FreesInRun c lines index) holds can =
    shrunk_pool w (changed lanes (FreesInRun c lines index) w) lanes zones (block_of_run lanes c lines index)
    (run_shrinks w (changed lanes (FreesInRun c lines index) w) lanes zones c lines index holds.no_fault (freed_in_run w lanes zones holds.no_fault c lines index can)) header pool holds can.not_root
holds_one w lanes zones header pool (FreesChunks c chunks) holds can =
    shrunk_pool w (changed lanes (FreesChunks c chunks) w) lanes zones (block_of_chunks lanes c chunks)
    (chunks_shrink w (changed lanes (FreesChunks c chunks) w) lanes zones c chunks holds.no_fault (freed_chunks w lanes zones holds.no_fault c chunks can)) header pool holds can.not_root
