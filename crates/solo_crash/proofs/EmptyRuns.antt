-- A free chunk and a run without blocks hold the same: nothing. So words that differ in such chunks alone have the same heap.
use Rattle.std.proofs.Common.{◌≡◌, ◌≢◌, ⊎_elim, inl, inr, ℕ, ◌+◌, ◌-◌, ◌*◌, ◌/◌, ◌%◌, ◌^◌, ◌<◌, ◌≤◌, ◌&&◌, Bool, true, false, not, cond, eqb, leb, ltb, List, [], ◌∷◌, map, Option, Some, None, refl, sym, ◌∙◌, ap, subst, arith, eq-eqb, pow_pos}
use Rattle.std.specs.Int.{bit_at}
use Rattle.std.specs.List.{Contains, filter, list_any, range_with_len}
use Rattle.std.proofs.lemmas.Bool.{and_from, and_parts, cases_eq, eqb-true, false≢true, lt-leb, lt-ltb, or_cases, or_parts}
use Rattle.std.proofs.lemmas.Nat.Bits.{bit_at-zero}
use Rattle.pm_layout.specs.Sizes.{block_place, blocks_of}
use Rattle.pm_layout.specs.declared.class.Class.{Class}
use Rattle.pm_layout.specs.declared.class.Class.TheVariants.{Lines, Chunks}
use Rattle.pm_image.specs.declared.block.Block.{Block}
use Rattle.pm_image.specs.Blocks.{blocks, blocks_in, chunk_blocks, chunk_word, class_in, descriptor_word, run_blocks}
use Rattle.pm_image.specs.HeapFaults.{bad_bitmap, bad_chunk, heap_fault, is_bad_bitmap, is_described, zeros_behind}
use Rattle.pm_image.specs.Reads.{AgreeOn, IsHeapWord, Reads, ReadsBlock, SameHeap}
use Rattle.pm_image.proofs.FaultFree.{described}
use Rattle.pm_image.proofs.HeapWords.{chunks_fit, reads_heap}
use Rattle.pm_image.proofs.Members.{in_range, list_all_same}
use Rattle.pm_image.proofs.Ordered.{no_class}
use Rattle.pm_image.proofs.SameParts.{heap_of_parts}
use Rattle.solo_view.specs.declared.occ.Occ.TheVariants.{Zone}
use Rattle.solo_view.specs.Blocks.{bitmap_word, chunk_of, descriptor_word as lane_descriptor, is_run, zone_of, zone_page}
use Rattle.solo_view.specs.Occupancy.{is_chunk_taken, is_in_block, is_taken, reaches}
use Rattle.solo_crash.specs.FreeWords.{HasNoBlocks, IsEmptyRun, IsOfChunk, MakesEmptyRun, MayHaveNewRuns}
use Rattle.solo_crash.proofs.Apart.{good_chunk}
use Rattle.solo_crash.proofs.Classes.{chunks_of_class, lines_of_class}
use Rattle.solo_crash.proofs.FoundBlocks.{page_of_chunk, IsPageOf}
use Rattle.solo_crash.proofs.FreeWords.{in_taken_chunk, read_in_block}
use Rattle.solo_crash.proofs.InBlocks.{in_chunk_block}

-- the chunk has no blocks, and passes the tests
record HasNothing (w : ℕ → ℕ) (lanes c : ℕ) : Type 0 where
  no_blocks : chunk_blocks w lanes c ≡ []
  good : bad_chunk w lanes c ≡ false
  good_bitmap : bad_bitmap w lanes c ≡ false

-- so does a free one
nothing_free : (w : ℕ → ℕ) (lanes c : ℕ) → w (descriptor_word lanes c) ≡ 0 → HasNothing w lanes c
unfolding chunk_blocks bad_chunk bad_bitmap
nothing_free w lanes c free =
    let none : class_in (w (descriptor_word lanes c)) ≡ None = ap class_in free ∙ no_class in
    record {
      no_blocks = ap (λ (o : Option Class). blocks_in o (8 * chunk_word lanes c) (w (chunk_word lanes c))) none;
      good = ap (λ (o : Option Class). not (is_described w (descriptor_word lanes c) c o)) none ∙ ap (λ (d : ℕ). not (eqb d 0)) free;
      good_bitmap = ap (λ (o : Option Class). is_bad_bitmap o (w (chunk_word lanes c))) none;
    }

-- and a run without blocks
no_bits : (xs : List ℕ) → filter (λ i. eqb (bit_at 0 i) 1) xs ≡ []
no_bits [] = refl
no_bits (x ∷ xs) = ap (λ (k : ℕ). cond (eqb k 1) (x ∷ filter (λ i. eqb (bit_at 0 i) 1) xs) (filter (λ i. eqb (bit_at 0 i) 1) xs)) (bit_at-zero x) ∙ no_bits xs

nothing_in_run : (w : ℕ → ℕ) (lanes c lines : ℕ) → class_in (w (descriptor_word lanes c)) ≡ Some (Lines lines) → w (chunk_word lanes c) ≡ 0 → HasNothing w lanes c
unfolding chunk_blocks run_blocks bad_chunk bad_bitmap
nothing_in_run w lanes c lines run empty =
    let place : ℕ = 8 * chunk_word lanes c in
    record {
      no_blocks = ap (λ (o : Option Class). blocks_in o place (w (chunk_word lanes c))) run ∙ ap (λ (b : ℕ). run_blocks place b lines) empty
          ∙ ap (map (λ i. record { place = block_place place lines i; lines = lines })) (no_bits (range_with_len 0 (blocks_of lines)));
      good = ap (λ (o : Option Class). not (is_described w (descriptor_word lanes c) c o)) run;
      good_bitmap = ap (λ (o : Option Class). is_bad_bitmap o (w (chunk_word lanes c))) run ∙ ap (leb (2 ^ blocks_of lines)) empty ∙ lt-leb (2 ^ blocks_of lines) 0 (pow_pos (blocks_of lines));
    }

-- the descriptor and the first word of another chunk are none of this chunk's words
other_descriptor : (lanes c k : ℕ) → k ≢ c → IsOfChunk lanes c (descriptor_word lanes k) → ⊥
other_descriptor lanes c k other (inl same) = omega arith
other_descriptor lanes c k other (inr inside) = omega arith

other_first : (lanes c k : ℕ) → k ≢ c → IsOfChunk lanes c (chunk_word lanes k) → ⊥
other_first lanes c k other (inl same) = omega arith
other_first lanes c k other (inr inside) = omega arith

-- no block has a word in the chunk's page
abbrev pub IsUnused : (ℕ → ℕ) → ℕ → ℕ → Type 0
IsUnused w lanes c = (i : ℕ) → i / 512 ≡ 2 + 2 * lanes + 65 * (c / 64) + c % 64 → is_in_block w lanes i ≡ true → ⊥

-- so it is none of the chunks that are one block
pub not_within : (w : ℕ → ℕ) (lanes zones c k n j : ℕ) → heap_fault w lanes zones ≡ None → IsUnused w lanes c → k < 64 * zones → class_in (w (descriptor_word lanes k)) ≡ Some (Chunks n) → j < n → k + j ≢ c
not_within w lanes zones c k n j none unused inside whole near is =
    let good : bad_chunk w lanes k ≡ false = good_chunk w lanes zones k none inside in
    let fits : k % 64 + n ≤ 64 = chunks_fit w lanes k n good whole in
    unused (chunk_word lanes c) (omega arith)
    (in_chunk_block w lanes k (chunk_word lanes c) (record { place = 8 * chunk_word lanes k; lines = 64 * n }) good (record { chunks = n; is_first = whole; is_block = refl }) (record { from = omega arith; to = omega arith }))

-- where w has nothing in some chunks, and no block uses them, and v has nothing there either, and else the words that w's meaning reads are v's, both have
-- the same heap
module _ (w v : ℕ → ℕ) (lanes zones : ℕ) (empty : ℕ → Bool) (none : heap_fault w lanes zones ≡ None) (unused : (c : ℕ) → c < 64 * zones → empty c ≡ true → IsUnused w lanes c)
    (before : (c : ℕ) → c < 64 * zones → empty c ≡ true → HasNothing w lanes c) (later : (c : ℕ) → c < 64 * zones → empty c ≡ true → HasNothing v lanes c)
    (others : (i : ℕ) → Reads w lanes zones i → ((c : ℕ) → c < 64 * zones → empty c ≡ true → ¬ IsOfChunk lanes c i) → v i ≡ w i) where
  -- a chunk that is not empty is none of those that are
  other_than : (k c : ℕ) → empty k ≡ false → empty c ≡ true → k ≢ c
  other_than k c full is same = false≢true (sym full ∙ ap empty same ∙ is)

  descriptor_same : (k : ℕ) → k < 64 * zones → empty k ≡ false → v (descriptor_word lanes k) ≡ w (descriptor_word lanes k)
  descriptor_same k inside full =
      others (descriptor_word lanes k) (inr (inl (record { chunk = k; in_range = inside; is_word = refl }))) (λ c below is. other_descriptor lanes c k (other_than k c full is))

  bitmap_same : (k lines : ℕ) → k < 64 * zones → empty k ≡ false → class_in (w (descriptor_word lanes k)) ≡ Some (Lines lines) → v (chunk_word lanes k) ≡ w (chunk_word lanes k)
  bitmap_same k lines inside full run =
      others (chunk_word lanes k) (inr (inr (inl (record { chunk = k; lines = lines; in_range = inside; is_run = run; is_word = refl })))) (λ c below is. other_first lanes c k (other_than k c full is))

  by_chunk : (A : Type 0) (k : ℕ) → (empty k ≡ true → A) → (empty k ≡ false → A) → A
  by_chunk A k here other = by_case (empty k) refl where
    by_case : (is : Bool) → empty k ≡ is → A
    by_case true is = here is
    by_case false is = other is

  -- what is made of a first word is the same, whatever the class
  blocks_by_class : (k : ℕ) (class : Option Class) → k < 64 * zones → empty k ≡ false → class_in (w (descriptor_word lanes k)) ≡ class
      → blocks_in class (8 * chunk_word lanes k) (v (chunk_word lanes k)) ≡ blocks_in class (8 * chunk_word lanes k) (w (chunk_word lanes k))
  blocks_by_class k None inside full is = refl
  blocks_by_class k (Some (Lines lines)) inside full is = ap (run_blocks_of k lines) (bitmap_same k lines inside full is) where
    run_blocks_of : ℕ → ℕ → ℕ → List Block
    run_blocks_of k lines b = blocks_in (Some (Lines lines)) (8 * chunk_word lanes k) b
  blocks_by_class k (Some (Chunks n)) inside full is = refl

  bitmap_by_class : (k : ℕ) (class : Option Class) → k < 64 * zones → empty k ≡ false → class_in (w (descriptor_word lanes k)) ≡ class
      → is_bad_bitmap class (v (chunk_word lanes k)) ≡ is_bad_bitmap class (w (chunk_word lanes k))
  bitmap_by_class k None inside full is = refl
  bitmap_by_class k (Some (Lines lines)) inside full is = ap (λ (b : ℕ). is_bad_bitmap (Some (Lines lines)) b) (bitmap_same k lines inside full is)
  bitmap_by_class k (Some (Chunks n)) inside full is = refl

  blocks_of_chunk : (k : ℕ) → k < 64 * zones → chunk_blocks v lanes k ≡ chunk_blocks w lanes k
  unfolding chunk_blocks
  blocks_of_chunk k inside = by_chunk (chunk_blocks v lanes k ≡ chunk_blocks w lanes k) k
      (λ is. (later k inside is).no_blocks ∙ sym (before k inside is).no_blocks)
      (λ full. ap (λ (d : ℕ). blocks_in (class_in d) (8 * chunk_word lanes k) (v (chunk_word lanes k))) (descriptor_same k inside full)
      ∙ blocks_by_class k (class_in (w (descriptor_word lanes k))) inside full refl)

  -- the chunks behind the first of one block are none of the empty ones
  behind_full : (k n j : ℕ) → k < 64 * zones → class_in (w (descriptor_word lanes k)) ≡ Some (Chunks n) → j < n → k + j < 64 * zones → empty (k + j) ≡ false
  behind_full k n j inside whole near below = by_chunk (empty (k + j) ≡ false) (k + j)
      (λ is. absurd (not_within w lanes zones (k + j) k n j none (unused (k + j) below is) inside whole near refl))
      (λ full. full)

  behind_same : (k n : ℕ) → k < 64 * zones → class_in (w (descriptor_word lanes k)) ≡ Some (Chunks n) → zeros_behind v (descriptor_word lanes k) n ≡ zeros_behind w (descriptor_word lanes k) n
  unfolding zeros_behind
  behind_same k n inside whole =
      let at : ℕ = descriptor_word lanes k in
      let fits : k % 64 + n ≤ 64 = chunks_fit w lanes k n (good_chunk w lanes zones k none inside) whole in
      list_all_same (λ j. eqb (v (at + 1 + j)) 0) (λ j. eqb (w (at + 1 + j)) 0) (range_with_len 0 (n - 1)) (λ j there.
      let within : (0 ≤ j) × (j < 0 + (n - 1)) = in_range 0 (n - 1) j there in
      let place : at + 1 + j ≡ descriptor_word lanes (k + (1 + j)) = omega arith in
      let below : k + (1 + j) < 64 * zones = omega arith in
      ap (λ (d : ℕ). eqb d 0) (ap v place ∙ descriptor_same (k + (1 + j)) below (behind_full k n (1 + j) inside whole (omega arith) below) ∙ ap w (sym place)))

  described_same : (k : ℕ) (class : Option Class) → k < 64 * zones → empty k ≡ false → class_in (w (descriptor_word lanes k)) ≡ class → is_described v (descriptor_word lanes k) k class ≡ is_described w (descriptor_word lanes k) k class
  described_same k None inside full is = ap (λ (d : ℕ). eqb d 0) (descriptor_same k inside full)
  described_same k (Some (Lines lines)) inside full is = refl
  described_same k (Some (Chunks n)) inside full is = ap (λ (t : Bool). cond (leb (k % 64 + n) 64) t false) (behind_same k n inside is)

  test_of_chunk : (k : ℕ) → k < 64 * zones → bad_chunk v lanes k ≡ bad_chunk w lanes k
  unfolding bad_chunk
  test_of_chunk k inside = by_chunk (bad_chunk v lanes k ≡ bad_chunk w lanes k) k
      (λ is. (later k inside is).good ∙ sym (before k inside is).good)
      (λ full. ap (λ (d : ℕ). not (is_described v (descriptor_word lanes k) k (class_in d))) (descriptor_same k inside full)
      ∙ ap not (described_same k (class_in (w (descriptor_word lanes k))) inside full refl))

  test_of_bitmap : (k : ℕ) → k < 64 * zones → bad_bitmap v lanes k ≡ bad_bitmap w lanes k
  unfolding bad_bitmap
  test_of_bitmap k inside = by_chunk (bad_bitmap v lanes k ≡ bad_bitmap w lanes k) k
      (λ is. (later k inside is).good_bitmap ∙ sym (before k inside is).good_bitmap)
      (λ full. ap (λ (d : ℕ). is_bad_bitmap (class_in d) (v (chunk_word lanes k))) (descriptor_same k inside full)
      ∙ bitmap_by_class k (class_in (w (descriptor_word lanes k))) inside full refl)

  -- a word that a block reads is none of theirs
  unread : (i : ℕ) → is_in_block w lanes i ≡ true → (c : ℕ) → c < 64 * zones → empty c ≡ true → ¬ IsOfChunk lanes c i
  unread i is c inside there (inl descriptor) = let chunk = (in_taken_chunk w lanes i is).0 in omega arith
  unread i is c inside there (inr within) = unused c inside there i (omega arith) is

  words_of_block : (block : Block) → Contains (blocks w lanes zones) block → AgreeOn (ReadsBlock w block) w v
  words_of_block block there = record {
    same = λ i read.
        sym (others i (inr (inr (inr (record { block = block; is_there = there; is_read = read })))) (unread i (read_in_block w lanes zones i block none there read)));
  }

  not_the_root : (c : ℕ) → c < 64 * zones → empty c ≡ true → ¬ IsOfChunk lanes c 64
  not_the_root c inside is (inl descriptor) = omega arith
  not_the_root c inside is (inr within) = omega arith

  same_heap : SameHeap w v lanes zones
  same_heap = heap_of_parts w v lanes zones (record {
    blocks_of_chunk = blocks_of_chunk;
    test_of_chunk = test_of_chunk;
    test_of_bitmap = test_of_bitmap;
    words_of_block = words_of_block;
    root = others 64 (inl refl) not_the_root;
  })

-- so it is with one such chunk of the pool
module _ (w v : ℕ → ℕ) (lanes zones c : ℕ) (none : heap_fault w lanes zones ≡ None) (unused : IsUnused w lanes c) (before : HasNothing w lanes c) (later : HasNothing v lanes c)
    (others : (i : ℕ) → ¬ IsOfChunk lanes c i → v i ≡ w i) where
  of_same : (A : ℕ → Type 0) → A c → (k : ℕ) → k < 64 * zones → eqb k c ≡ true → A k
  of_same A here k inside is = subst A (sym (eqb-true k c is)) here

  -- words of a chunk that the pool has not are not read
  same_heap_but_one : SameHeap w v lanes zones
  same_heap_but_one =
      same_heap w v lanes zones (λ k. eqb k c) none (of_same (IsUnused w lanes) unused) (of_same (HasNothing w lanes) before) (of_same (HasNothing v lanes) later)
      (λ i read outside. others i (λ of. beyond i read outside of))
    where
      beyond : (i : ℕ) → Reads w lanes zones i → ((k : ℕ) → k < 64 * zones → eqb k c ≡ true → ¬ IsOfChunk lanes k i) → IsOfChunk lanes c i → ⊥
      beyond i read outside of = by_heap of (reads_heap w lanes zones i none read) where
        inside : c < 64 * zones → ⊥
        inside below = outside c below (eq-eqb c c refl) of

        by_heap : IsOfChunk lanes c i → IsHeapWord lanes zones i → ⊥
        by_heap (inl descriptor) (inl root) = omega arith
        by_heap (inr within) (inl root) = omega arith
        by_heap (inl descriptor) (inr zone) = inside (omega arith)
        by_heap (inr within) (inr zone) = inside (omega arith)

-- nothing of a free chunk is used, and its descriptor is 0
pub unused_free : (w : ℕ → ℕ) (lanes c : ℕ) → is_chunk_taken w lanes (c / 64) (c % 64) ≡ false → IsUnused w lanes c
unused_free w lanes c free i here is =
    let page : ℕ = i / 512 in
    let zone : zone_of lanes page ≡ c / 64 = omega arith in
    let chunk : chunk_of lanes page - 1 ≡ c % 64 = omega arith in
    false≢true (sym free ∙ (λ j. is_chunk_taken w lanes (sym zone j) (sym chunk j)) ∙ (in_taken_chunk w lanes i is).1)

two_has_no_class : class_in 2 ≡ None
unfolding class_in
two_has_no_class = refl

pub some_chunks : (d n : ℕ) → class_in d ≡ Some (Chunks n) → 0 < n
some_chunks d n whole =
    let parts = chunks_of_class d n whole in
    ⊎_elim
    (λ (none : n ≡ 0). let two : d ≡ 2 = omega arith in let clash : Some (Chunks n) ≡ None = sym whole ∙ ap class_in two ∙ two_has_no_class in absurd cc)
    (λ (some : n ≢ 0). omega arith)
    (cases_eq n 0)

pub free_is_zero : (w : ℕ → ℕ) (lanes zones c : ℕ) → heap_fault w lanes zones ≡ None → is_chunk_taken w lanes (c / 64) (c % 64) ≡ false → c < 64 * zones → w (descriptor_word lanes c) ≡ 0
free_is_zero w lanes zones c none free inside = by_class (class_in (w (descriptor_word lanes c))) refl where
  by_class : (class : Option Class) → class_in (w (descriptor_word lanes c)) ≡ class → w (descriptor_word lanes c) ≡ 0
  by_class None is = eqb-true (w (descriptor_word lanes c)) 0 (described w lanes c None (good_chunk w lanes zones c none inside) is)
  by_class (Some (Lines lines)) is =
      let place : 512 * zone_page lanes (c / 64) + c % 64 ≡ descriptor_word lanes c = omega arith in
      let no_run = (or_parts (is_run (w (512 * zone_page lanes (c / 64) + c % 64))) (list_any (reaches w lanes (c / 64) (c % 64)) (range_with_len 0 (c % 64 + 1))) free).0 in
      absurd (false≢true (sym no_run ∙ ap (λ (n : ℕ). is_run (w n)) place ∙ eq-eqb (w (descriptor_word lanes c) % 256) 1 (lines_of_class (w (descriptor_word lanes c)) lines is).0))
  by_class (Some (Chunks n)) is = absurd (not_within w lanes zones c c n 0 none (unused_free w lanes c free) inside is (some_chunks (w (descriptor_word lanes c)) n is) (omega arith))

-- nothing of a run without blocks is used
pub class_of_run : (d lines : ℕ) → d ≡ 256 * lines + 1 → 0 < blocks_of lines → class_in d ≡ Some (Lines lines)
unfolding class_in
class_of_run d lines is some =
    let low : d % 256 ≡ 1 = omega arith in
    let high : d / 256 ≡ lines = omega arith in
    let test : (eqb (d % 256) 1 && ltb 0 (blocks_of (d / 256))) ≡ true =
    and_from (eqb (d % 256) 1) (ltb 0 (blocks_of (d / 256))) (eq-eqb (d % 256) 1 low) (lt-ltb 0 (blocks_of (d / 256)) (subst (λ (n : ℕ). 0 < blocks_of n) (sym high) some)) in
    ap (λ (t : Bool). cond t (Some (Lines (d / 256))) (cond (eqb (d % 256) 2 && (leb 1 (d / 256) && leb (d / 256) 64)) (Some (Chunks (d / 256))) None)) test
    ∙ ap (λ (n : ℕ). Some (Lines n)) high

unused_run : (v : ℕ → ℕ) (lanes c lines : ℕ) → class_in (v (descriptor_word lanes c)) ≡ Some (Lines lines) → v (chunk_word lanes c) ≡ 0 → IsUnused v lanes c
unused_run v lanes c lines run empty i here is =
    let page : ℕ = i / 512 in
    let of : IsPageOf lanes page c = page_of_chunk lanes page c here in
    let d : ℕ = v (lane_descriptor lanes page) in
    let block : ℕ = (i % 512 / 8 - 1) / (d / 256) in
    let is_one : is_run d ≡ true = eq-eqb (d % 256) 1 (ap (λ (n : ℕ). v n % 256) of.descriptor ∙ (lines_of_class (v (descriptor_word lanes c)) lines run).0) in
    let no_bit : bit_at (v (bitmap_word page)) block ≡ 0 = ap (λ (b : ℕ). bit_at b block) (ap v of.bitmap ∙ empty) ∙ bit_at-zero block in
    ⊎_elim
    (λ (no_run : not (is_run d) ≡ true). false≢true (sym (ap not is_one) ∙ no_run))
    (λ (in_one : (leb 8 (i % 512) && eqb (bit_at (v (bitmap_word page)) block) 1) ≡ true).
    let set : bit_at (v (bitmap_word page)) block ≡ 1 = eqb-true (bit_at (v (bitmap_word page)) block) 1 (and_parts (leb 8 (i % 512)) (eqb (bit_at (v (bitmap_word page)) block) 1) in_one).1 in omega arith)
    (or_cases (not (is_run d)) (leb 8 (i % 512) && eqb (bit_at (v (bitmap_word page)) block) 1) (in_taken_chunk v lanes i is).2)

-- so it is with a run without blocks of any class
class_of_empty : (v : ℕ → ℕ) (lanes c : ℕ) (run : IsEmptyRun v lanes c) → class_in (v (descriptor_word lanes c)) ≡ Some (Lines run.lines)
class_of_empty v lanes c run = class_of_run (v (descriptor_word lanes c)) run.lines run.is_run run.some_blocks

empty_has_nothing : (v : ℕ → ℕ) (lanes c : ℕ) → IsEmptyRun v lanes c → HasNothing v lanes c
empty_has_nothing v lanes c run = nothing_in_run v lanes c run.lines (class_of_empty v lanes c run) run.no_block

-- so the chunk may become such a run, and be free again
module _ (w v : ℕ → ℕ) (lanes zones c : ℕ) (makes : MakesEmptyRun w v lanes c) where
  run_made : heap_fault w lanes zones ≡ None → is_chunk_taken w lanes (c / 64) (c % 64) ≡ false → c < 64 * zones → SameHeap w v lanes zones
  run_made none free inside =
      same_heap_but_one w v lanes zones c none (unused_free w lanes c free) (nothing_free w lanes c (free_is_zero w lanes zones c none free inside)) (empty_has_nothing v lanes c makes.run) makes.others

  pub run_freed : heap_fault v lanes zones ≡ None → w (descriptor_word lanes c) ≡ 0 → SameHeap v w lanes zones
  run_freed none free =
      same_heap_but_one v w lanes zones c none (unused_run v lanes c makes.run.lines (class_of_empty v lanes c makes.run) makes.run.no_block) (empty_has_nothing v lanes c makes.run) (nothing_free w lanes c free) (λ i other. sym (makes.others i other))

-- by the zone's bit
pub run_made_in_zone : (w v : ℕ → ℕ) (lanes zones zone chunk : ℕ) → heap_fault w lanes zones ≡ None → is_taken w lanes (Zone zone) chunk ≡ false → zone < zones → chunk < 64 → MakesEmptyRun w v lanes (64 * zone + chunk)
    → SameHeap w v lanes zones
run_made_in_zone w v lanes zones zone chunk none free inside low makes =
    let in_zone : (64 * zone + chunk) / 64 ≡ zone = omega arith in
    let number : (64 * zone + chunk) % 64 ≡ chunk = omega arith in
    run_made w v lanes zones (64 * zone + chunk) makes none ((λ j. is_chunk_taken w lanes (in_zone j) (number j)) ∙ free) (omega arith)

-- where each free chunk is still free, or a run without blocks, and all else that the meaning reads is the same
module _ (w v : ℕ → ℕ) (lanes zones : ℕ) (new : MayHaveNewRuns w v lanes zones) where
  abbrev is_free : ℕ → Bool
  is_free c = not (is_chunk_taken w lanes (c / 64) (c % 64))

  free_by : (c : ℕ) → is_free c ≡ true → is_chunk_taken w lanes (c / 64) (c % 64) ≡ false
  free_by c is = not_true (is_chunk_taken w lanes (c / 64) (c % 64)) is where
    not_true : (taken : Bool) → not taken ≡ true → taken ≡ false
    not_true true e = sym e
    not_true false e = refl

  has_nothing : (c : ℕ) → HasNoBlocks v lanes c → HasNothing v lanes c
  has_nothing c (inl free) = nothing_free v lanes c free
  has_nothing c (inr run) = empty_has_nothing v lanes c run

  pub new_runs_alike : heap_fault w lanes zones ≡ None → SameHeap w v lanes zones
  new_runs_alike none =
      same_heap w v lanes zones is_free none
      (λ c inside is. unused_free w lanes c (free_by c is))
      (λ c inside is. nothing_free w lanes c (free_is_zero w lanes zones c none (free_by c is) inside))
      (λ c inside is. has_nothing c (new.free_chunks c inside (free_by c is)))
      (λ i read outside. new.others i read (λ c inside free. outside c inside (ap not free)))
