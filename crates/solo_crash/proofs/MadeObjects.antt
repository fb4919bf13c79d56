-- Words of which a free block is made a new object's have one block more: a block of a run, of whole chunks, or of a new run.
use Rattle.std.proofs.Common.{◌≡◌, ◌≢◌, ⊎_elim, inl, inr, ℕ, ◌+◌, ◌-◌, ◌*◌, ◌/◌, ◌%◌, ◌^◌, ◌<◌, ◌≤◌, ◌&&◌, true, false, not, eqb, leb, Some, None, refl, sym, ◌∙◌, ap, subst, arith, eq-eqb, List, length}
use Rattle.std.specs.Int.{bit_at}
use Rattle.std.specs.List.{Contains}
use Rattle.std.proofs.lemmas.Bool.{and_parts, cases_eq, false≢true, leb-false, lt-leb, or_cases}
use Rattle.std.proofs.Math.Pow.{pow-lt}
use Rattle.pm_layout.specs.Sizes.{blocks_of, class_of, lines_for}
use Rattle.pm_layout.specs.declared.class.Class.TheVariants.{Lines, Chunks}
use Rattle.pm_objects.specs.Pool.{block_lines}
use Rattle.pm_image.specs.declared.block.Block.{Block}
use Rattle.pm_image.specs.Blocks.{blocks, chunk_word, class_in, descriptor_word}
use Rattle.pm_image.specs.HeapFaults.{bad_bitmap, bad_chunk, heap_fault, is_bad_bitmap}
use Rattle.pm_image.specs.Reads.{AgreeOn, Reads, ReadsBlock}
use Rattle.pm_image.proofs.FaultFree.{bitmap_good}
use Rattle.pm_image.proofs.HeapWords.{chunks_fit}
use Rattle.pm_image.proofs.Members.{range_member}
use Rattle.pm_image.proofs.Ordered.{further_zeros, no_class}
use Rattle.pm_image.proofs.Rooms.{lines_needed}
use Rattle.solo_view.specs.Blocks.{bitmap_word, descriptor_word as lane_descriptor, is_run}
use Rattle.solo_view.specs.Occupancy.{is_chunk_taken}
use Rattle.solo_crash.specs.NewObjects.{block_of_chunks, block_of_run, HasNewObject, MakesChunksObject, MakesObjectOfNewRun, MakesRunObject}
use Rattle.solo_crash.proofs.Apart.{good_chunk}
use Rattle.solo_crash.proofs.BitMore.{only_bit, set_bit, set_small, HasBitMore}
use Rattle.solo_crash.proofs.Classes.{lines_of_class}
use Rattle.solo_crash.proofs.EmptyRuns.{class_of_run, free_is_zero, not_within, unused_free}
use Rattle.solo_crash.proofs.FoundBlocks.{page_of_chunk, IsPageOf}
use Rattle.solo_crash.proofs.FreeWords.{in_taken_chunk, read_in_block}
use Rattle.solo_crash.proofs.GoodChunks.{class_of_first, first_is_described, good_bitmap_by_class, good_bitmap_kept, good_by_class, good_chunk_kept}
use Rattle.solo_crash.proofs.OneBlockMore.{HasOneMore}
use Rattle.solo_crash.proofs.Standing.{block_stands, Stands}
use Rattle.solo_crash.proofs.StandingMore.{lone_block, more_keeps, more_lines, more_only, more_there, nothing_in, run_has, run_keeps, run_only, that_chunks_block, that_run_block, whole_only, ChunkHasMore, StandsIn}

-- good chunks and bitmaps of a heap without a fault
pub good_bitmap : (w : ℕ → ℕ) (lanes zones c : ℕ) → heap_fault w lanes zones ≡ None → c < 64 * zones → bad_bitmap w lanes c ≡ false
good_bitmap w lanes zones c none inside = bitmap_good w lanes zones c none (range_member (64 * zones) c inside)

-- a good bitmap of a run is below 2 ^ its blocks
pub bitmap_small : (w : ℕ → ℕ) (lanes c lines : ℕ) → bad_bitmap w lanes c ≡ false → class_in (w (descriptor_word lanes c)) ≡ Some (Lines lines) → w (chunk_word lanes c) < 2 ^ blocks_of lines
unfolding bad_bitmap
bitmap_small w lanes c lines good run =
    leb-false (2 ^ blocks_of lines) (w (chunk_word lanes c)) (sym (ap (λ o. is_bad_bitmap o (w (chunk_word lanes c))) run) ∙ good)

-- no block reads a descriptor, nor a run's bitmap
pub no_descriptor_read : (w : ℕ → ℕ) (lanes zones i c : ℕ) (b : Block) → heap_fault w lanes zones ≡ None → Contains (blocks w lanes zones) b → ReadsBlock w b i → i ≢ descriptor_word lanes c
no_descriptor_read w lanes zones i c b none there read is =
    let chunk = (in_taken_chunk w lanes i (read_in_block w lanes zones i b none there read)).0 in
    omega arith

pub no_bitmap_read : (w : ℕ → ℕ) (lanes zones i c lines : ℕ) (b : Block) → heap_fault w lanes zones ≡ None → Contains (blocks w lanes zones) b → ReadsBlock w b i
    → class_in (w (descriptor_word lanes c)) ≡ Some (Lines lines) → i ≢ chunk_word lanes c
no_bitmap_read w lanes zones i c lines b none there read run is =
    let page : ℕ = i / 512 in
    let of : IsPageOf lanes page c = page_of_chunk lanes page c (omega arith) in
    let d : ℕ = w (lane_descriptor lanes page) in
    let block : ℕ = (i % 512 / 8 - 1) / (d / 256) in
    let is_one : is_run d ≡ true = eq-eqb (d % 256) 1 (ap (λ (n : ℕ). w n % 256) of.descriptor ∙ (lines_of_class (w (descriptor_word lanes c)) lines run).0) in
    let first : i % 512 ≡ 0 = omega arith in
    ⊎_elim
    (λ (no_run : not (is_run d) ≡ true). false≢true (sym (ap not is_one) ∙ no_run))
    (λ (in_one : (leb 8 (i % 512) && eqb (bit_at (w (bitmap_word page)) block) 1) ≡ true).
    false≢true (sym (lt-leb 8 (i % 512) (omega arith)) ∙ (and_parts (leb 8 (i % 512)) (eqb (bit_at (w (bitmap_word page)) block) 1) in_one).0))
    (or_cases (not (is_run d)) (leb 8 (i % 512) && eqb (bit_at (w (bitmap_word page)) block) 1) (in_taken_chunk w lanes i (read_in_block w lanes zones i b none there read)).2)

-- the meaning reads each descriptor, and the bitmap of each run
pub reads_descriptor : (w : ℕ → ℕ) (lanes zones k : ℕ) → k < 64 * zones → Reads w lanes zones (descriptor_word lanes k)
reads_descriptor w lanes zones k inside = inr (inl (record { chunk = k; in_range = inside; is_word = refl }))

pub reads_bitmap : (w : ℕ → ℕ) (lanes zones k lines : ℕ) → k < 64 * zones → class_in (w (descriptor_word lanes k)) ≡ Some (Lines lines) → Reads w lanes zones (chunk_word lanes k)
reads_bitmap w lanes zones k lines inside run = inr (inr (inl (record { chunk = k; lines = lines; in_range = inside; is_run = run; is_word = refl })))

pub reads_contents : (w : ℕ → ℕ) (lanes zones i : ℕ) (b : Block) → Contains (blocks w lanes zones) b → ReadsBlock w b i → Reads w lanes zones i
reads_contents w lanes zones i b there read = inr (inr (inr (record { block = b; is_there = there; is_read = read })))

-- a heap with a block more, and good bitmaps
pub record GrowsBy (w v : ℕ → ℕ) (lanes zones : ℕ) (block : Block) : Type 0 where
  pub one : HasOneMore w v lanes zones block
  pub bitmaps : (c : ℕ) → c < 64 * zones → bad_bitmap v lanes c ≡ false

-- a block of a run
module _ (w v : ℕ → ℕ) (lanes zones c lines index kind : ℕ) (bytes : List ℕ) (none : heap_fault w lanes zones ≡ None) (made : MakesRunObject w v lanes zones c lines index kind bytes) where
  run_here : class_in (w (descriptor_word lanes c)) ≡ Some (Lines lines)
  run_here = let within = made.free.inside in class_of_run (w (descriptor_word lanes c)) lines (made.free.is_run ∙ omega arith) (omega arith)

  pub bit_here : HasBitMore (w (chunk_word lanes c)) (v (chunk_word lanes c)) index
  bit_here = set_bit (w (chunk_word lanes c)) (v (chunk_word lanes c)) index made.free.is_clear made.bitmap

  pub descriptors_here : (k : ℕ) → k < 64 * zones → v (descriptor_word lanes k) ≡ w (descriptor_word lanes k)
  descriptors_here k inside = made.others (descriptor_word lanes k) (reads_descriptor w lanes zones k inside) (λ same. omega arith)

  run_still : class_in (v (descriptor_word lanes c)) ≡ Some (Lines lines)
  run_still = ap class_in (descriptors_here c made.free.in_zones) ∙ run_here

  pub bitmaps_here : (k other : ℕ) → k < 64 * zones → k ≢ c → class_in (w (descriptor_word lanes k)) ≡ Some (Lines other) → v (chunk_word lanes k) ≡ w (chunk_word lanes k)
  bitmaps_here k other inside differ run = made.others (chunk_word lanes k) (reads_bitmap w lanes zones k other inside run) (λ same. differ (omega arith))

  more_here : ChunkHasMore w v lanes zones c (block_of_run lanes c lines index)
  more_here = record {
    in_zones = made.free.in_zones;
    descriptors = λ k inside differ. descriptors_here k inside;
    bitmaps = bitmaps_here;
    has = run_has w v lanes c lines index made.free.inside run_here run_still bit_here;
    keeps = run_keeps w v lanes c lines index made.free.inside run_here run_still bit_here;
    only = run_only w v lanes c lines index made.free.inside run_here run_still bit_here;
  }

  still_zero : (k n j : ℕ) → k < 64 * zones → class_in (w (descriptor_word lanes k)) ≡ Some (Chunks n) → j < n - 1 → v (descriptor_word lanes (k + 1 + j)) ≡ 0
  still_zero k n j inside whole near =
      let good : bad_chunk w lanes k ≡ false = good_chunk w lanes zones k none inside in
      let fits : k % 64 + n ≤ 64 = chunks_fit w lanes k n good whole in
      descriptors_here (k + 1 + j) (omega arith) ∙ further_zeros w lanes k n good whole j near

  pub run_grows : GrowsBy w v lanes zones (block_of_run lanes c lines index)
  run_grows = record {
    one = record {
      chunks = λ k inside. good_chunk w lanes zones k none inside;
      more_chunks = λ k inside. good_chunk_kept w v lanes k (good_chunk w lanes zones k none inside) (descriptors_here k inside) (λ n j whole near. still_zero k n j inside whole near);
      there = more_there w v lanes zones c (block_of_run lanes c lines index) more_here;
      new = λ there.
          let stands : Stands w lanes zones (block_of_run lanes c lines index) = block_stands w lanes zones (block_of_run lanes c lines index) there in
          let set = (that_run_block w lanes c stands.chunk lines index made.free.inside stands.is).is_set in
          let clear = made.free.is_clear in
          omega arith;
      keeps = more_keeps w v lanes zones c (block_of_run lanes c lines index) more_here;
      only = more_only w v lanes zones c (block_of_run lanes c lines index) more_here;
      lines = more_lines w v lanes zones c (block_of_run lanes c lines index) more_here;
      words = λ b there. record {
        same = λ i read. sym (made.others i (reads_contents w lanes zones i b there read) (no_bitmap_read w lanes zones i c lines b none there read run_here));
      };
      root = made.others 64 (inl refl) (λ same. omega arith);
    };
    bitmaps = λ k inside. ⊎_elim
        (λ (here : k ≡ c). subst (λ (n : ℕ). bad_bitmap v lanes n ≡ false) (sym here) (good_bitmap_by_class v lanes c (Some (Lines lines)) run_still
        (lt-leb (2 ^ blocks_of lines) (v (chunk_word lanes c)) (subst (λ (n : ℕ). n < 2 ^ blocks_of lines) (sym made.bitmap)
        (set_small (w (chunk_word lanes c)) index (blocks_of lines) made.free.inside (bitmap_small w lanes c lines (good_bitmap w lanes zones c none made.free.in_zones) run_here))))))
        (λ (differ : k ≢ c). good_bitmap_kept w v lanes k (good_bitmap w lanes zones k none inside) (descriptors_here k inside) (λ other run. bitmaps_here k other inside differ run))
        (cases_eq k c);
  }

-- a free chunk whose descriptor alone changes: what is elsewhere stays
module _ (w v : ℕ → ℕ) (lanes zones c : ℕ) (none : heap_fault w lanes zones ≡ None) (inside : c < 64 * zones) (free : is_chunk_taken w lanes (c / 64) (c % 64) ≡ false)
    (others : (i : ℕ) → Reads w lanes zones i → i ≢ descriptor_word lanes c → v i ≡ w i) where
  pub nothing_before : class_in (w (descriptor_word lanes c)) ≡ None
  nothing_before = ap class_in (free_is_zero w lanes zones c none free inside) ∙ no_class

  pub descriptors_elsewhere : (k : ℕ) → k < 64 * zones → k ≢ c → v (descriptor_word lanes k) ≡ w (descriptor_word lanes k)
  descriptors_elsewhere k within differ = others (descriptor_word lanes k) (reads_descriptor w lanes zones k within) (λ same. differ (omega arith))

  pub bitmaps_elsewhere : (k lines : ℕ) → k < 64 * zones → k ≢ c → class_in (w (descriptor_word lanes k)) ≡ Some (Lines lines) → v (chunk_word lanes k) ≡ w (chunk_word lanes k)
  bitmaps_elsewhere k lines within differ run = others (chunk_word lanes k) (reads_bitmap w lanes zones k lines within run) (λ same. omega arith)

  pub good_elsewhere : (k : ℕ) → k < 64 * zones → k ≢ c → bad_chunk v lanes k ≡ false
  good_elsewhere k within differ = good_chunk_kept w v lanes k good (descriptors_elsewhere k within differ) (λ n j whole near.
      let fits : k % 64 + n ≤ 64 = chunks_fit w lanes k n good whole in
      let not_this : k + (1 + j) ≢ c = not_within w lanes zones c k n (1 + j) none (unused_free w lanes c free) within whole (omega arith) in
      descriptors_elsewhere (k + 1 + j) (omega arith) (λ same. not_this (omega arith)) ∙ further_zeros w lanes k n good whole j near) where
        good : bad_chunk w lanes k ≡ false
        good = good_chunk w lanes zones k none within

  pub good_bitmap_elsewhere : (k : ℕ) → k < 64 * zones → k ≢ c → bad_bitmap v lanes k ≡ false
  good_bitmap_elsewhere k within differ =
      good_bitmap_kept w v lanes k (good_bitmap w lanes zones k none within) (descriptors_elsewhere k within differ) (λ lines run. bitmaps_elsewhere k lines within differ run)

  pub words_elsewhere : (b : Block) → Contains (blocks w lanes zones) b → AgreeOn (ReadsBlock w b) w v
  words_elsewhere b there = record { same = λ i read. sym (others i (reads_contents w lanes zones i b there read) (no_descriptor_read w lanes zones i c b none there read)) }

  pub root_elsewhere : v 64 ≡ w 64
  root_elsewhere = others 64 (inl refl) (λ same. omega arith)

  -- where it becomes a chunk with one block, the heap grows by it
  pub chunk_grows : (block : Block) → StandsIn v lanes c block → ((b : Block) → StandsIn v lanes c b → b ≡ block) → ((k : ℕ) → StandsIn w lanes k block → (k ≡ c) × StandsIn w lanes c block)
      → bad_chunk v lanes c ≡ false → bad_bitmap v lanes c ≡ false → GrowsBy w v lanes zones block
  chunk_grows block has alone placed good small = record {
    one = record {
      chunks = λ k within. good_chunk w lanes zones k none within;
      more_chunks = λ k within. ⊎_elim (λ (here : k ≡ c). subst (λ (n : ℕ). bad_chunk v lanes n ≡ false) (sym here) good) (λ (differ : k ≢ c). good_elsewhere k within differ) (cases_eq k c);
      there = more_there w v lanes zones c block more;
      new = λ there.
          let stands : Stands w lanes zones block = block_stands w lanes zones block there in
          nothing_in w lanes c block nothing_before (placed stands.chunk stands.is).1;
      keeps = more_keeps w v lanes zones c block more;
      only = more_only w v lanes zones c block more;
      lines = more_lines w v lanes zones c block more;
      words = words_elsewhere;
      root = root_elsewhere;
    };
    bitmaps = λ k within. ⊎_elim (λ (here : k ≡ c). subst (λ (n : ℕ). bad_bitmap v lanes n ≡ false) (sym here) small) (λ (differ : k ≢ c). good_bitmap_elsewhere k within differ) (cases_eq k c);
  } where
    more : ChunkHasMore w v lanes zones c block
    more = record {
      in_zones = inside;
      descriptors = descriptors_elsewhere;
      bitmaps = bitmaps_elsewhere;
      has = has;
      keeps = λ b old. absurd (nothing_in w lanes c b nothing_before old);
      only = λ b is. inl (alone b is);
    }

-- a block of whole chunks
module _ (w v : ℕ → ℕ) (lanes zones c chunks kind : ℕ) (bytes : List ℕ) (none : heap_fault w lanes zones ≡ None) (made : MakesChunksObject w v lanes zones c chunks kind bytes) where
  pub some_of_size : 1 ≤ chunks
  some_of_size =
      let object : HasNewObject v (block_of_chunks lanes c chunks) kind bytes = made.object in
      let is : block_lines (class_of (length bytes)) ≡ 64 * chunks = object.of_size in
      let needed : lines_for (length bytes) ≤ block_lines (class_of (length bytes)) = lines_needed (length bytes) in
      omega arith

  each_free : (j : ℕ) → j < chunks → is_chunk_taken w lanes ((c + j) / 64) ((c + j) % 64) ≡ false
  each_free j near =
      let fits = made.free.in_zone in
      let zone : (c + j) / 64 ≡ c / 64 = omega arith in
      let chunk : (c + j) % 64 ≡ c % 64 + j = omega arith in
      (λ i. is_chunk_taken w lanes (zone i) (chunk i)) ∙ made.free.are_free j near

  pub first_free : is_chunk_taken w lanes (c / 64) (c % 64) ≡ false
  first_free = let none_behind : c + 0 ≡ c = omega arith in ap (λ (k : ℕ). is_chunk_taken w lanes (k / 64) (k % 64)) (sym none_behind) ∙ each_free 0 some_of_size

  is_whole : class_in (v (descriptor_word lanes c)) ≡ Some (Chunks chunks)
  is_whole = let fits = made.free.in_zone in class_of_first (v (descriptor_word lanes c)) chunks made.descriptor some_of_size (omega arith)

  zeros_there : (j : ℕ) → j < chunks - 1 → v (descriptor_word lanes (c + 1 + j)) ≡ 0
  zeros_there j near =
      let fits = made.free.in_zone in
      let range = made.free.in_zones in
      let place : c + 1 + j ≡ c + (1 + j) = omega arith in
      let free : is_chunk_taken w lanes ((c + 1 + j) / 64) ((c + 1 + j) % 64) ≡ false = ap (λ (k : ℕ). is_chunk_taken w lanes (k / 64) (k % 64)) place ∙ each_free (1 + j) (omega arith) in
      descriptors_elsewhere w v lanes zones c none made.free.in_zones first_free made.others (c + 1 + j) (omega arith) (λ same. omega arith)
      ∙ free_is_zero w lanes zones (c + 1 + j) none free (omega arith)

  pub chunks_grow : GrowsBy w v lanes zones (block_of_chunks lanes c chunks)
  chunks_grow = chunk_grows w v lanes zones c none made.free.in_zones first_free made.others (block_of_chunks lanes c chunks)
      (inr (record { chunks = chunks; is_first = is_whole; is_block = refl }))
      (λ b is. whole_only v lanes c chunks b is_whole is)
      (λ k is.
      let that = that_chunks_block w lanes c k chunks is in
      (that.same_chunk, subst (λ (n : ℕ). StandsIn w lanes n (block_of_chunks lanes c chunks)) that.same_chunk is))
      (good_by_class v lanes c (Some (Chunks chunks)) is_whole (first_is_described v lanes c chunks made.free.in_zone zeros_there))
      (good_bitmap_by_class v lanes c (Some (Chunks chunks)) is_whole refl)

-- a block of a new run
module _ (w v : ℕ → ℕ) (lanes zones c lines index kind : ℕ) (bytes : List ℕ) (none : heap_fault w lanes zones ≡ None) (made : MakesObjectOfNewRun w v lanes zones c lines index kind bytes) where
  is_new_run : class_in (v (descriptor_word lanes c)) ≡ Some (Lines lines)
  is_new_run = let within = made.inside in class_of_run (v (descriptor_word lanes c)) lines (made.descriptor ∙ omega arith) (omega arith)

  lone_bit : HasBitMore 0 (v (chunk_word lanes c)) index
  lone_bit = only_bit (v (chunk_word lanes c)) index made.bitmap

  pub new_run_grows : GrowsBy w v lanes zones (block_of_run lanes c lines index)
  new_run_grows = chunk_grows w v lanes zones c none made.in_zones made.is_free made.others (block_of_run lanes c lines index)
      (inl (record { lines = lines; index = index; is_run = is_new_run; inside = made.inside; is_set = lone_bit.is_set; is_block = refl }))
      (λ b is. lone_block v lanes c lines index b is_new_run lone_bit is)
      (λ k is.
      let that = that_run_block w lanes c k lines index made.inside is in
      (that.same_chunk, subst (λ (n : ℕ). StandsIn w lanes n (block_of_run lanes c lines index)) that.same_chunk is))
      (good_by_class v lanes c (Some (Lines lines)) is_new_run refl)
      (good_bitmap_by_class v lanes c (Some (Lines lines)) is_new_run
      (lt-leb (2 ^ blocks_of lines) (v (chunk_word lanes c)) (subst (λ (n : ℕ). n < 2 ^ blocks_of lines) (sym made.bitmap) (pow-lt made.inside))))
