-- What a change of the heap asks of the words before it does not depend on words in blocks that are allocated.
use Rattle.std.proofs.Common.{◌≡◌, ⊎_elim, ℕ, ◌+◌, ◌-◌, ◌*◌, ◌/◌, ◌%◌, ◌<◌, ◌≤◌, ◌&&◌, Bool, true, false, not, eqb, leb, ltb, refl, ◌∙◌, sym, ap, arith, eq-eqb}
use Rattle.std.specs.Int.{bit_at}
use Rattle.std.specs.List.{list_any, range_with_len}
use Rattle.std.proofs.lemmas.Bool.{and_parts, eqb-true, false_from_ne_true, false≢true, leb-true, or_cases, or_parts}
use Rattle.std.proofs.lemmas.Nat.{div-mul-add}
use Rattle.std.proofs.Math.Nat.{mul_comm}
use Rattle.pm_layout.specs.Sizes.{blocks_of, descriptor_of}
use Rattle.pm_layout.specs.declared.class.Class.TheVariants.{Lines}
use Rattle.pm_image.specs.Blocks.{chunk_word, descriptor_word}
use Rattle.pm_image.proofs.Rooms.{run_fits}
use Rattle.solo_view.specs.Blocks.{bitmap_word, chunk_of, descriptor_word as lane_descriptor, is_huge, is_run, zone_of, zone_page}
use Rattle.solo_view.specs.Occupancy.{is_chunk_taken, is_in_block, reaches}
use Rattle.solo_crash.specs.HeapChanges.{CanChange, HeapChange}
use Rattle.solo_crash.specs.HeapChanges.HeapChange.{AllocatesChunks, AllocatesInRun, FreesChunks, FreesInRun}
use Rattle.solo_crash.specs.NewObjects.{block_of_chunks, block_of_run, AreFreeChunks, IsFreeInRun}
use Rattle.solo_crash.proofs.ChangesApart.{free_still}
use Rattle.solo_crash.proofs.FoundBlocks.{page_of_chunk, IsPageOf}
use Rattle.solo_crash.proofs.FreeWords.{in_taken_chunk}
use Rattle.solo_crash.proofs.OneChange.{chunks_block_words, object_stays}

-- a descriptor is in no block, nor is the root's word, or the bitmap of a run
descriptor_outside : (w : ℕ → ℕ) (lanes i zone k : ℕ) → k < 64 → i ≡ 512 * zone_page lanes zone + k → is_in_block w lanes i ≡ false
descriptor_outside w lanes i zone k low is = false_from_ne_true (is_in_block w lanes i) (λ inside. let chunk = (in_taken_chunk w lanes i inside).0 in omega arith)

pub root_outside : (w : ℕ → ℕ) (lanes : ℕ) → is_in_block w lanes 64 ≡ false
root_outside w lanes = false_from_ne_true (is_in_block w lanes 64) (λ inside. let chunk = (in_taken_chunk w lanes 64 inside).0 in omega arith)

module _ (w : ℕ → ℕ) (lanes c lines : ℕ) (is : w (descriptor_word lanes c) ≡ descriptor_of (Lines lines)) where
  own : w (descriptor_word lanes c) ≡ 1 + 256 * lines
  own = is

  -- the page of a word of the run
  run_page : (i : ℕ) → i / 512 ≡ 2 + 2 * lanes + 65 * (c / 64) + c % 64 → (is_run (w (lane_descriptor lanes (i / 512))) ≡ true) × (w (lane_descriptor lanes (i / 512)) / 256 ≡ lines)
  run_page i here =
      let of : IsPageOf lanes (i / 512) c = page_of_chunk lanes (i / 512) c here in
      let run : w (descriptor_word lanes c) ≡ 1 + 256 * lines = own in (
        eq-eqb (w (lane_descriptor lanes (i / 512)) % 256) 1 (ap (λ (n : ℕ). w n % 256) of.descriptor ∙ (let e : w (descriptor_word lanes c) % 256 ≡ 1 = omega arith in e)),
        ap (λ (n : ℕ). w n / 256) of.descriptor ∙ (let e : w (descriptor_word lanes c) / 256 ≡ lines = omega arith in e),
      )

  -- a word in a block of the run is behind the bitmap's line, and under its block's bit
  in_run : (i : ℕ) → i / 512 ≡ 2 + 2 * lanes + 65 * (c / 64) + c % 64 → is_in_block w lanes i ≡ true → (8 ≤ i % 512) × (bit_at (w (chunk_word lanes c)) ((i % 512 / 8 - 1) / lines) ≡ 1)
  in_run i here inside =
      let of : IsPageOf lanes (i / 512) c = page_of_chunk lanes (i / 512) c here in
      let page = run_page i here in
      let d : ℕ = w (lane_descriptor lanes (i / 512)) in
      let test : Bool = eqb (bit_at (w (bitmap_word (i / 512))) ((i % 512 / 8 - 1) / (d / 256))) 1 in
      ⊎_elim
      (λ (no_run : not (is_run d) ≡ true). absurd (false≢true (sym (ap not page.0) ∙ no_run)))
      (λ (in_one : (leb 8 (i % 512) && test) ≡ true).
      let parts = and_parts (leb 8 (i % 512)) test in_one in (
        leb-true 8 (i % 512) parts.0,
        ap (λ (n : ℕ). bit_at (w n) ((i % 512 / 8 - 1) / lines)) (sym of.bitmap) ∙ ap (λ (n : ℕ). bit_at (w (bitmap_word (i / 512))) ((i % 512 / 8 - 1) / n)) (sym page.1) ∙ eqb-true _ 1 parts.1,
      ))
      (or_cases (not (is_run d)) (leb 8 (i % 512) && test) (in_taken_chunk w lanes i inside).2)

  pub bitmap_outside : is_in_block w lanes (chunk_word lanes c) ≡ false
  bitmap_outside = false_from_ne_true (is_in_block w lanes (chunk_word lanes c)) (λ inside.
      let low = (in_run (chunk_word lanes c) (omega arith) inside).0 in
      omega arith)

  -- nor is a word of a block of the run that is free
  free_outside : (index i : ℕ) → index < blocks_of lines → bit_at (w (chunk_word lanes c)) index ≡ 0 → (block_of_run lanes c lines index).place / 8 ≤ i → i < (block_of_run lanes c lines index).place / 8 + 8 * lines
      → is_in_block w lanes i ≡ false
  free_outside index i inside clear from to = false_from_ne_true (is_in_block w lanes i) (λ in_one.
      let before : ℕ = lines * index in
      let fits : 1 + before + lines ≤ 64 = run_fits lines index inside in
      let begins : (8 * chunk_word lanes c + 64 * (1 + before)) / 8 ≤ i = from in
      let ends : i < (8 * chunk_word lanes c + 64 * (1 + before)) / 8 + 8 * lines = to in
      let here : i / 512 ≡ 2 + 2 * lanes + 65 * (c / 64) + c % 64 = omega arith in
      let set = (in_run i here in_one).1 in
      let line : ℕ = i % 512 / 8 - 1 in
      let rest : ℕ = line - before in
      let near : rest < lines = omega arith in
      let split : line ≡ index * lines + rest = (let e : before + rest ≡ line = omega arith in let turned : lines * index ≡ index * lines = mul_comm lines index in omega arith) in
      let is_index : line / lines ≡ index = ap (λ (n : ℕ). n / lines) split ∙ div-mul-add index lines rest near in
      let set_there : bit_at (w (chunk_word lanes c)) index ≡ 1 = ap (bit_at (w (chunk_word lanes c))) (sym is_index) ∙ set in
      omega arith)

-- a word of a free chunk is in no block
chunk_outside : (w : ℕ → ℕ) (lanes i zone chunk : ℕ) → zone_of lanes (i / 512) ≡ zone → chunk_of lanes (i / 512) - 1 ≡ chunk → is_chunk_taken w lanes zone chunk ≡ false → is_in_block w lanes i ≡ false
chunk_outside w lanes i zone chunk is_zone is_chunk free = false_from_ne_true (is_in_block w lanes i) (λ inside.
    false≢true (sym free ∙ (λ j. is_chunk_taken w lanes (sym is_zone j) (sym is_chunk j)) ∙ (in_taken_chunk w lanes i inside).1))

module _ (w v : ℕ → ℕ) (lanes zones : ℕ) (same : (i : ℕ) → is_in_block w lanes i ≡ false → v i ≡ w i) where
  pub descriptor_same : (k : ℕ) → v (descriptor_word lanes k) ≡ w (descriptor_word lanes k)
  descriptor_same k = same (descriptor_word lanes k) (descriptor_outside w lanes (descriptor_word lanes k) (k / 64) (k % 64) (omega arith) (omega arith))

  pub can_kept : (a : HeapChange) → CanChange w lanes zones a → CanChange v lanes zones a
  can_kept (AllocatesInRun c lines index kind bytes) can =
      let free : IsFreeInRun w lanes zones c lines index = can.0 in (
        record {
          in_zones = free.in_zones;
          inside = free.inside;
          is_run = descriptor_same c ∙ free.is_run;
          is_clear = ap (λ (n : ℕ). bit_at n index) (same (chunk_word lanes c) (bitmap_outside w lanes c lines free.is_run)) ∙ free.is_clear;
        },
        object_stays w v (block_of_run lanes c lines index) kind bytes can.1 (λ i from to. same i (free_outside w lanes c lines free.is_run index i free.inside free.is_clear from to)),
      )
  can_kept (AllocatesChunks c chunks kind bytes) can =
      let free : AreFreeChunks w lanes zones c chunks = can.0 in
      let fits : c % 64 + chunks ≤ 64 = free.in_zone in (
        record {
          in_zones = free.in_zones;
          in_zone = free.in_zone;
          are_free = λ k near.
              let low : c % 64 + k < 64 = omega arith in
              let before = free.are_free k near in
              let at : (j : ℕ) → j < 64 → v (512 * zone_page lanes (c / 64) + j) ≡ w (512 * zone_page lanes (c / 64) + j) =
              λ j small. same (512 * zone_page lanes (c / 64) + j) (descriptor_outside w lanes (512 * zone_page lanes (c / 64) + j) (c / 64) j small refl) in
              free_still w v lanes (c / 64) (c % 64 + k) before
              (ap is_run (at (c % 64 + k) low) ∙ (or_parts (is_run (w (512 * zone_page lanes (c / 64) + (c % 64 + k)))) (list_any (reaches w lanes (c / 64) (c % 64 + k)) (range_with_len 0 (c % 64 + k + 1))) before).0)
              (λ j below none. ap (λ (d : ℕ). is_huge d && ltb (c % 64 + k) (j + d / 256)) (at j (omega arith)) ∙ none);
        },
        object_stays w v (block_of_chunks lanes c chunks) kind bytes can.1 (λ i from to.
            let at = chunks_block_words lanes c chunks i from to in
            let begins = at.0 in
            let ends = at.1 in
            let k : ℕ = i / 512 - (2 + 2 * lanes + 65 * (c / 64) + c % 64) in
            let near : k < chunks = omega arith in
            same i (chunk_outside w lanes i (c / 64) (c % 64 + k) (omega arith) (omega arith) (free.are_free k near))),
      )
  can_kept (FreesInRun c lines index) can = record {
    in_zones = can.in_zones;
    inside = can.inside;
    is_run = descriptor_same c ∙ can.is_run;
    is_set = ap (λ (n : ℕ). bit_at n index) (same (chunk_word lanes c) (bitmap_outside w lanes c lines can.is_run)) ∙ can.is_set;
    not_root = λ root. can.not_root (sym (same 64 (root_outside w lanes)) ∙ root);
  }
  can_kept (FreesChunks c chunks) can = record {
    in_zones = can.in_zones;
    is_first = descriptor_same c ∙ can.is_first;
    not_root = λ root. can.not_root (sym (same 64 (root_outside w lanes)) ∙ root);
  }
