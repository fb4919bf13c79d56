-- Words of which a block is freed have that block less: a block of a run, or of whole chunks.
use Rattle.std.proofs.Common.{◌≡◌, ◌≢◌, ◌⊎◌, ⊎_elim, inl, inr, ℕ, ◌+◌, ◌-◌, ◌*◌, ◌/◌, ◌%◌, ◌^◌, ◌<◌, ◌≤◌, false, Some, None, refl, sym, ◌∙◌, ap, subst, arith, eq-eqb}
use Rattle.std.specs.List.{Contains}
use Rattle.std.proofs.lemmas.Bool.{cases_eq, lt-leb}
use Rattle.std.proofs.Math.Nat.{pow-le-pow_right}
use Rattle.pm_layout.specs.Sizes.{blocks_of}
use Rattle.pm_layout.specs.declared.class.Class.TheVariants.{Lines, Chunks}
use Rattle.pm_image.specs.declared.block.Block.{Block}
use Rattle.pm_image.specs.Blocks.{blocks, chunk_word, class_in, descriptor_word}
use Rattle.pm_image.specs.Contents.{data_words, size_in}
use Rattle.pm_image.specs.HeapFaults.{bad_bitmap, bad_chunk, heap_fault}
use Rattle.pm_image.specs.Reads.{AgreeOn, ReadsBlock}
use Rattle.pm_image.proofs.FaultFree.{block_good}
use Rattle.pm_image.proofs.HeapWords.{chunks_fit, object_fits}
use Rattle.pm_image.proofs.LocalContents.{contents_local}
use Rattle.pm_image.proofs.Ordered.{further_zeros, no_class}
use Rattle.pm_image.proofs.Rooms.{run_fits}
use Rattle.solo_crash.specs.NewObjects.{block_of_chunks, block_of_run, FreesChunksBlock, FreesRunBlock, IsWordOf}
use Rattle.solo_crash.proofs.Apart.{apart, good_chunk, rising}
use Rattle.solo_crash.proofs.BitMore.{cleared_bit, cleared_small, index_small, HasBitMore}
use Rattle.solo_crash.proofs.Classes.{whole_by_byte}
use Rattle.solo_crash.proofs.EmptyRuns.{class_of_run}
use Rattle.solo_crash.proofs.GoodChunks.{good_bitmap_by_class, good_bitmap_kept, good_by_class, good_chunk_kept}
use Rattle.solo_crash.proofs.MadeObjects.{bitmap_small, good_bitmap, no_bitmap_read, no_descriptor_read, reads_bitmap, reads_contents, reads_descriptor}
use Rattle.solo_crash.proofs.OneBlockMore.{HasOneMore}
use Rattle.solo_crash.proofs.Standing.{block_begins_line, block_stands, Stands}
use Rattle.solo_crash.proofs.StandingMore.{more_keeps, more_lines, more_only, more_there, nothing_in, run_has, run_keeps, run_only, that_chunks_block, that_run_block, whole_only, ChunkHasMore, StandsIn}

-- what a block reads is read of it by the other words too, where these are the same there
turned : (w v : ℕ → ℕ) (b : Block) → AgreeOn (ReadsBlock w b) w v → AgreeOn (ReadsBlock v b) v w
turned w v b agree = record {
  same = λ i read.
      let to : i < b.place / 8 + 8 + data_words (size_in v b) = read.to in
      let size : size_in v b ≡ size_in w b = (contents_local w v b agree).same_size in
      sym (agree.same i (record { from = read.from; to = subst (λ (n : ℕ). i < b.place / 8 + 8 + data_words n) size to }));
}

-- what another block reads is no word of this one
apart_words : (w : ℕ → ℕ) (lanes zones i : ℕ) (block b : Block) → heap_fault w lanes zones ≡ None → Contains (blocks w lanes zones) block → Contains (blocks w lanes zones) b → block ≢ b → ReadsBlock w b i → ¬ IsWordOf block i
apart_words w lanes zones i block b none there inside differ read word =
    let fits : 8 + data_words (size_in w b) ≤ 8 * b.lines = object_fits w b (block_good w lanes zones b none inside) in
    let begins = block_begins_line w lanes zones block there in
    let begins_there = block_begins_line w lanes zones b inside in
    let from = word.from in
    let to = word.to in
    let read_from = read.from in
    let read_to = read.to in
    ⊎_elim
    (λ (same : block ≡ b). differ same)
    (λ (either : (block.place + 64 * block.lines ≤ b.place) ⊎ (b.place + 64 * b.lines ≤ block.place)). ⊎_elim
    (λ (before : block.place + 64 * block.lines ≤ b.place). omega arith)
    (λ (behind : b.place + 64 * b.lines ≤ block.place). omega arith)
    either)
    (apart 0 (blocks w lanes zones) block b (rising w lanes zones none) there inside)

-- a heap with a block less, and good bitmaps
pub record ShrinksBy (w v : ℕ → ℕ) (lanes zones : ℕ) (block : Block) : Type 0 where
  pub one : HasOneMore v w lanes zones block
  pub bitmaps : (c : ℕ) → c < 64 * zones → bad_bitmap v lanes c ≡ false

-- a block of a run
module _ (w v : ℕ → ℕ) (lanes zones c lines index : ℕ) (none : heap_fault w lanes zones ≡ None) (freed : FreesRunBlock w v lanes zones c lines index) where
  abbrev block : Block
  block = block_of_run lanes c lines index

  run_here : class_in (w (descriptor_word lanes c)) ≡ Some (Lines lines)
  run_here = let within = freed.may.inside in class_of_run (w (descriptor_word lanes c)) lines (freed.may.is_run ∙ omega arith) (omega arith)

  small_here : w (chunk_word lanes c) < 2 ^ blocks_of lines
  small_here = bitmap_small w lanes c lines (good_bitmap w lanes zones c none freed.may.in_zones) run_here

  of_64_bits : w (chunk_word lanes c) < 2 ^ 64
  of_64_bits =
      let within = freed.may.inside in
      let last : blocks_of lines - 1 < 64 = index_small lines (blocks_of lines - 1) (omega arith) in
      let small : w (chunk_word lanes c) < 2 ^ blocks_of lines = small_here in
      let few : blocks_of lines ≤ 64 = omega arith in
      let two : 0 < 2 = omega arith in
      let most : 2 ^ blocks_of lines ≤ 2 ^ 64 = pow-le-pow_right two few in
      omega arith

  pub bit_here : HasBitMore (v (chunk_word lanes c)) (w (chunk_word lanes c)) index
  bit_here = cleared_bit (v (chunk_word lanes c)) (w (chunk_word lanes c)) index (index_small lines index freed.may.inside) of_64_bits freed.may.is_set freed.bitmap

  -- the block's words are behind the bitmap's line in its chunk
  in_chunk : (i : ℕ) → IsWordOf block i → (chunk_word lanes c + 8 ≤ i) × (i < chunk_word lanes c + 512)
  in_chunk i word =
      let before : ℕ = lines * index in
      let fits : 1 + before + lines ≤ 64 = run_fits lines index freed.may.inside in
      let from : (8 * chunk_word lanes c + 64 * (1 + before)) / 8 ≤ i = word.from in
      let to : i < (8 * chunk_word lanes c + 64 * (1 + before)) / 8 + 8 * lines = word.to in
      (omega arith, omega arith)

  pub descriptors_here : (k : ℕ) → k < 64 * zones → v (descriptor_word lanes k) ≡ w (descriptor_word lanes k)
  descriptors_here k inside = freed.others (descriptor_word lanes k) (reads_descriptor w lanes zones k inside) (λ same. omega arith) (λ word. let at = in_chunk (descriptor_word lanes k) word in let from = at.0 in let to = at.1 in omega arith)

  pub bitmaps_here : (k other : ℕ) → k < 64 * zones → k ≢ c → class_in (w (descriptor_word lanes k)) ≡ Some (Lines other) → v (chunk_word lanes k) ≡ w (chunk_word lanes k)
  bitmaps_here k other inside differ run = freed.others (chunk_word lanes k) (reads_bitmap w lanes zones k other inside run) (λ same. differ (omega arith)) (λ word. let at = in_chunk (chunk_word lanes k) word in let from = at.0 in let to = at.1 in omega arith)

  run_still : class_in (v (descriptor_word lanes c)) ≡ Some (Lines lines)
  run_still = ap class_in (descriptors_here c freed.may.in_zones) ∙ run_here

  more_here : ChunkHasMore v w lanes zones c block
  more_here = record {
    in_zones = freed.may.in_zones;
    descriptors = λ k inside differ. sym (descriptors_here k inside);
    bitmaps = λ k other inside differ run. sym (bitmaps_here k other inside differ (ap class_in (sym (descriptors_here k inside)) ∙ run));
    has = run_has v w lanes c lines index freed.may.inside run_still run_here bit_here;
    keeps = run_keeps v w lanes c lines index freed.may.inside run_still run_here bit_here;
    only = run_only v w lanes c lines index freed.may.inside run_still run_here bit_here;
  }

  no_more : Contains (blocks v lanes zones) block → ⊥
  no_more there =
      let stands : Stands v lanes zones block = block_stands v lanes zones block there in
      let set = (that_run_block v lanes c stands.chunk lines index freed.may.inside stands.is).is_set in
      let clear = bit_here.is_clear in
      omega arith

  still_zero : (k n j : ℕ) → k < 64 * zones → class_in (w (descriptor_word lanes k)) ≡ Some (Chunks n) → j < n - 1 → v (descriptor_word lanes (k + 1 + j)) ≡ 0
  still_zero k n j inside whole near =
      let good : bad_chunk w lanes k ≡ false = good_chunk w lanes zones k none inside in
      let fits : k % 64 + n ≤ 64 = chunks_fit w lanes k n good whole in
      descriptors_here (k + 1 + j) (omega arith) ∙ further_zeros w lanes k n good whole j near

  words_here : (b : Block) → Contains (blocks v lanes zones) b → AgreeOn (ReadsBlock v b) v w
  words_here b there =
      let before : Contains (blocks w lanes zones) b = more_keeps v w lanes zones c block more_here b there in
      let differ : block ≢ b = λ same. no_more (subst (Contains (blocks v lanes zones)) (sym same) there) in
      turned w v b (record {
        same = λ i read. sym (freed.others i (reads_contents w lanes zones i b before read) (no_bitmap_read w lanes zones i c lines b none before read run_here)
            (apart_words w lanes zones i block b none (more_there v w lanes zones c block more_here) before differ read));
      })

  pub run_shrinks : ShrinksBy w v lanes zones block
  run_shrinks = record {
    one = record {
      chunks = λ k inside. good_chunk_kept w v lanes k (good_chunk w lanes zones k none inside) (descriptors_here k inside) (λ n j whole near. still_zero k n j inside whole near);
      more_chunks = λ k inside. good_chunk w lanes zones k none inside;
      there = more_there v w lanes zones c block more_here;
      new = no_more;
      keeps = more_keeps v w lanes zones c block more_here;
      only = more_only v w lanes zones c block more_here;
      lines = more_lines v w lanes zones c block more_here;
      words = words_here;
      root = sym (freed.others 64 (inl refl) (λ same. omega arith) (λ word. let at = in_chunk 64 word in let from = at.0 in omega arith));
    };
    bitmaps = λ k inside. ⊎_elim
        (λ (here : k ≡ c). subst (λ (n : ℕ). bad_bitmap v lanes n ≡ false) (sym here) (good_bitmap_by_class v lanes c (Some (Lines lines)) run_still
        (lt-leb (2 ^ blocks_of lines) (v (chunk_word lanes c)) (subst (λ (n : ℕ). n < 2 ^ blocks_of lines) (sym freed.bitmap)
        (cleared_small (w (chunk_word lanes c)) (2 ^ 64 - 1 - 2 ^ index) (blocks_of lines) small_here)))))
        (λ (differ : k ≢ c). good_bitmap_kept w v lanes k (good_bitmap w lanes zones k none inside) (descriptors_here k inside) (λ other run. bitmaps_here k other inside differ run))
        (cases_eq k c);
  }

-- a block of whole chunks
module _ (w v : ℕ → ℕ) (lanes zones c chunks : ℕ) (none : heap_fault w lanes zones ≡ None) (freed : FreesChunksBlock w v lanes zones c chunks) where
  abbrev whole_block : Block
  whole_block = block_of_chunks lanes c chunks

  pub good_here : bad_chunk w lanes c ≡ false
  good_here = good_chunk w lanes zones c none freed.may.in_zones

  pub whole_here : class_in (w (descriptor_word lanes c)) ≡ Some (Chunks chunks)
  whole_here =
      let is : w (descriptor_word lanes c) ≡ 2 + 256 * chunks = freed.may.is_first in
      let high : w (descriptor_word lanes c) / 256 ≡ chunks = omega arith in
      whole_by_byte w lanes c good_here (omega arith) ∙ ap (λ (n : ℕ). Some (Chunks n)) high

  pub first_fits : c % 64 + chunks ≤ 64
  first_fits = chunks_fit w lanes c chunks good_here whole_here

  in_chunks : (i : ℕ) → IsWordOf whole_block i → (chunk_word lanes c ≤ i) × (i < chunk_word lanes c + 512 * chunks)
  in_chunks i word =
      let from : 8 * chunk_word lanes c / 8 ≤ i = word.from in
      let to : i < 8 * chunk_word lanes c / 8 + 8 * (64 * chunks) = word.to in
      (omega arith, omega arith)

  pub descriptors_elsewhere : (k : ℕ) → k < 64 * zones → k ≢ c → v (descriptor_word lanes k) ≡ w (descriptor_word lanes k)
  descriptors_elsewhere k inside differ = freed.others (descriptor_word lanes k) (reads_descriptor w lanes zones k inside) (λ same. differ (omega arith))
      (λ word. let at = in_chunks (descriptor_word lanes k) word in let from = at.0 in let to = at.1 in let fits = first_fits in omega arith)

  -- no run is among the chunks
  no_run_inside : (k lines : ℕ) → k ≢ c → class_in (w (descriptor_word lanes k)) ≡ Some (Lines lines) → ¬ IsWordOf whole_block (chunk_word lanes k)
  no_run_inside k lines differ run word =
      let at = in_chunks (chunk_word lanes k) word in
      let from = at.0 in
      let to = at.1 in
      let fits = first_fits in
      let zone : k / 64 ≡ c / 64 = omega arith in
      let place : c + 1 + (k - c - 1) ≡ k = omega arith in
      let free : w (descriptor_word lanes k) ≡ 0 = ap (λ (j : ℕ). w (descriptor_word lanes j)) (sym place) ∙ further_zeros w lanes c chunks good_here whole_here (k - c - 1) (omega arith) in
      let clash : Some (Lines lines) ≡ None = sym run ∙ ap class_in free ∙ no_class in
      cc

  pub bitmaps_elsewhere : (k lines : ℕ) → k < 64 * zones → k ≢ c → class_in (w (descriptor_word lanes k)) ≡ Some (Lines lines) → v (chunk_word lanes k) ≡ w (chunk_word lanes k)
  bitmaps_elsewhere k lines inside differ run = freed.others (chunk_word lanes k) (reads_bitmap w lanes zones k lines inside run) (λ same. omega arith) (no_run_inside k lines differ run)

  nothing_after : class_in (v (descriptor_word lanes c)) ≡ None
  nothing_after = ap class_in freed.descriptor ∙ no_class

  -- the descriptors behind other whole chunks stay 0, and so is the one that was the block's
  zero_elsewhere : (k n j : ℕ) → k < 64 * zones → class_in (w (descriptor_word lanes k)) ≡ Some (Chunks n) → j < n - 1 → v (descriptor_word lanes (k + 1 + j)) ≡ 0
  zero_elsewhere k n j inside whole near =
      let good : bad_chunk w lanes k ≡ false = good_chunk w lanes zones k none inside in
      let fits : k % 64 + n ≤ 64 = chunks_fit w lanes k n good whole in
      ⊎_elim
      (λ (here : k + 1 + j ≡ c). ap (λ (m : ℕ). v (descriptor_word lanes m)) here ∙ freed.descriptor)
      (λ (differ : k + 1 + j ≢ c). descriptors_elsewhere (k + 1 + j) (omega arith) differ ∙ further_zeros w lanes k n good whole j near)
      (cases_eq (k + 1 + j) c)

  whole_more : ChunkHasMore v w lanes zones c whole_block
  whole_more = record {
    in_zones = freed.may.in_zones;
    descriptors = λ k inside differ. sym (descriptors_elsewhere k inside differ);
    bitmaps = λ k lines inside differ run. sym (bitmaps_elsewhere k lines inside differ (ap class_in (sym (descriptors_elsewhere k inside differ)) ∙ run));
    has = inr (record { chunks = chunks; is_first = whole_here; is_block = refl });
    keeps = λ b there. absurd (nothing_in v lanes c b nothing_after there);
    only = λ b there. inl (whole_only w lanes c chunks b whole_here there);
  }

  no_more_whole : Contains (blocks v lanes zones) whole_block → ⊥
  no_more_whole there =
      let stands : Stands v lanes zones whole_block = block_stands v lanes zones whole_block there in
      let that = that_chunks_block v lanes c stands.chunk chunks stands.is in
      nothing_in v lanes c whole_block nothing_after (subst (λ (n : ℕ). StandsIn v lanes n whole_block) that.same_chunk stands.is)

  words_elsewhere : (b : Block) → Contains (blocks v lanes zones) b → AgreeOn (ReadsBlock v b) v w
  words_elsewhere b there =
      let before : Contains (blocks w lanes zones) b = more_keeps v w lanes zones c whole_block whole_more b there in
      let differ : whole_block ≢ b = λ same. no_more_whole (subst (Contains (blocks v lanes zones)) (sym same) there) in
      turned w v b (record {
        same = λ i read. sym (freed.others i (reads_contents w lanes zones i b before read) (no_descriptor_read w lanes zones i c b none before read)
            (apart_words w lanes zones i whole_block b none (more_there v w lanes zones c whole_block whole_more) before differ read));
      })

  pub chunks_shrink : ShrinksBy w v lanes zones whole_block
  chunks_shrink = record {
    one = record {
      chunks = λ k inside. ⊎_elim
          (λ (here : k ≡ c). subst (λ (n : ℕ). bad_chunk v lanes n ≡ false) (sym here) (good_by_class v lanes c None nothing_after (eq-eqb (v (descriptor_word lanes c)) 0 freed.descriptor)))
          (λ (differ : k ≢ c). good_chunk_kept w v lanes k (good_chunk w lanes zones k none inside) (descriptors_elsewhere k inside differ) (λ n j whole near. zero_elsewhere k n j inside whole near))
          (cases_eq k c);
      more_chunks = λ k inside. good_chunk w lanes zones k none inside;
      there = more_there v w lanes zones c whole_block whole_more;
      new = no_more_whole;
      keeps = more_keeps v w lanes zones c whole_block whole_more;
      only = more_only v w lanes zones c whole_block whole_more;
      lines = more_lines v w lanes zones c whole_block whole_more;
      words = words_elsewhere;
      root = sym (freed.others 64 (inl refl) (λ same. omega arith) (λ word. let at = in_chunks 64 word in let from = at.0 in omega arith));
    };
    bitmaps = λ k inside. ⊎_elim
        (λ (here : k ≡ c). subst (λ (n : ℕ). bad_bitmap v lanes n ≡ false) (sym here) (good_bitmap_by_class v lanes c None nothing_after refl))
        (λ (differ : k ≢ c). good_bitmap_kept w v lanes k (good_bitmap w lanes zones k none inside) (descriptors_elsewhere k inside differ) (λ lines run. bitmaps_elsewhere k lines inside differ run))
        (cases_eq k c);
  }
