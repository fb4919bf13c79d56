-- Which words of the opening are living, by other words that tell the same of blocks: those that lie in a block, and those that a meaning reads but for
-- the chunks that were free.
use Rattle.std.proofs.Common.{◌≡◌, ⊎_elim, inl, inr, ℕ, zero, suc, ◌+◌, ◌-◌, ◌*◌, ◌/◌, ◌%◌, ◌<◌, ◌≤◌, ◌&&◌, ◌||◌, Bool, true, false, not, eqb, leb, ltb, length, slice_index, None, Some, refl, sym, ◌∙◌, ap, subst, arith}
use Rattle.std.specs.Int.{bit_at}
use Rattle.std.specs.List.{Contains, list_any, range_with_len}
use Rattle.std.proofs.lemmas.Bool.{and_parts, cases_Bool, false_from_ne_true, false≢true, not-true}
use Rattle.pm_image.specs.declared.block.Block.{Block}
use Rattle.pm_image.specs.Blocks.{blocks, chunk_word, descriptor_word}
use Rattle.pm_image.specs.HeapFaults.{heap_fault}
use Rattle.pm_image.specs.Reads.{IsHeapWord, Reads}
use Rattle.pm_image.proofs.HeapWords.{in_pool, reads_heap}
use Rattle.solo_view.specs.Blocks.{bitmap_word, chunk_of, descriptor_word as lane_descriptor, is_chunk, is_huge, is_run, zone_of, zone_page}
use Rattle.solo_view.specs.Occupancy.{is_chunk_taken, is_in_block, reaches}
use Rattle.solo_view.specs.View.{Lock, View}
use Rattle.solo_world.specs.Opening.{IsChunk, IsLivingWord, IsSound, Opening, TellsOfBlocks, is_free_chunk}
use Rattle.solo_world.proofs.Chunks.{chunk_here}
use Rattle.solo_world.proofs.Living.{living_block, root_lives, told_lives}
use Rattle.solo_crash.specs.FreeWords.{IsOfChunk}
use Rattle.solo_crash.specs.OpenCall.{IsUnderBlock, block_at_line}
use Rattle.solo_crash.proofs.Apart.{good_chunk}
use Rattle.solo_crash.proofs.Classes.{lines_of_class}
use Rattle.solo_crash.proofs.FoundBlocks.{IsPageOf, page_of_chunk}
use Rattle.solo_crash.proofs.FreeWords.{read_in_block}
use Rattle.solo_crash.proofs.InBlocks.{in_chunk_block, in_run_block, IsIn}
use Rattle.solo_crash.proofs.Standing.{block_begins_line, block_stands, IsChunkBlock, IsRunBlock, Stands}

-- the word is one of an allocated block's
pub record LiesInBlock (w : ℕ → ℕ) (lanes zones i : ℕ) : Type 0 where
  pub block : Block
  pub is_there : Contains (blocks w lanes zones) block
  pub from : block.place ≤ 8 * i
  pub to : 8 * i < block.place + 64 * block.lines

-- a word of a block that was found lies in a block, where the words have the blocks that were
pub lies_under : (v : View) (w : ℕ → ℕ) (i : ℕ) → ((l : Lock) (lines : ℕ) → Contains v.locks l → l.block ≡ Some lines → Contains (blocks w v.lanes v.zones) (block_at_line l.line lines))
    → IsUnderBlock v i → LiesInBlock w v.lanes v.zones i
lies_under v w i found under =
    let from = under.from in
    let to = under.to in
    record { block = block_at_line under.lock.line under.lines; is_there = found under.lock under.lines under.held under.found; from = omega arith; to = omega arith }

pub any_same : (p q : ℕ → Bool) (from n : ℕ) → ((i : ℕ) → from ≤ i → i < from + n → p i ≡ q i) → list_any p (range_with_len from n) ≡ list_any q (range_with_len from n)
any_same p q from zero same = refl
any_same p q from (suc n) same =
    λ j. same from (omega arith) (omega arith) j || any_same p q (from + 1) n (λ i low high. same i (omega arith) (omega arith)) j

-- whether a chunk is free, by its number
pub free_by_page : (words : ℕ → ℕ) (lanes c : ℕ) → is_free_chunk words lanes (2 + 2 * lanes + 65 * (c / 64) + c % 64) ≡ not (is_chunk_taken words lanes (c / 64) (c % 64))
free_by_page words lanes c =
    let page : ℕ = 2 + 2 * lanes + 65 * (c / 64) + c % 64 in
    let zone : zone_of lanes page ≡ c / 64 = omega arith in
    let chunk : chunk_of lanes page - 1 ≡ c % 64 = omega arith in
    (λ j. not (is_chunk_taken words lanes (zone j) (chunk j)))

pub free_by_number : (words : ℕ → ℕ) (lanes c : ℕ) → is_free_chunk words lanes (2 + 2 * lanes + 65 * (c / 64) + c % 64) ≡ true → is_chunk_taken words lanes (c / 64) (c % 64) ≡ false
free_by_number words lanes c free = not-true (is_chunk_taken words lanes (c / 64) (c % 64)) (sym (free_by_page words lanes c) ∙ free)

module _ (o : Opening) (w : ℕ → ℕ) (heads : (i : ℕ) → TellsOfBlocks o i → w i ≡ slice_index o.words i) where
  abbrev s : ℕ → ℕ
  s = slice_index o.words

  descriptor_same : (page : ℕ) → IsChunk o.lanes page → w (lane_descriptor o.lanes page) ≡ s (lane_descriptor o.lanes page)
  descriptor_same page chunk = heads (lane_descriptor o.lanes page) (page, (chunk, inl refl))

  -- the descriptors of a zone, by their numbers
  numbered_same : (zone k : ℕ) → k < 64 → w (512 * zone_page o.lanes zone + k) ≡ s (512 * zone_page o.lanes zone + k)
  numbered_same zone k low =
      let page : ℕ = zone_page o.lanes zone + 1 + k in
      let at : lane_descriptor o.lanes page ≡ 512 * zone_page o.lanes zone + k = omega arith in
      ap w (sym at) ∙ descriptor_same page (omega arith, omega arith) ∙ ap s at

  pub taken_same : (zone chunk : ℕ) → chunk < 64 → is_chunk_taken w o.lanes zone chunk ≡ is_chunk_taken s o.lanes zone chunk
  taken_same zone chunk low =
      let reach : (k : ℕ) → 0 ≤ k → k < 0 + (chunk + 1) → reaches w o.lanes zone chunk k ≡ reaches s o.lanes zone chunk k =
      λ k from to. ap (λ d. is_huge d && ltb chunk (k + d / 256)) (numbered_same zone k (omega arith)) in
      λ j. is_run (numbered_same zone chunk low j) || any_same (reaches w o.lanes zone chunk) (reaches s o.lanes zone chunk) 0 (chunk + 1) reach j

  -- a word is in a block by both
  pub in_block_same : (i : ℕ) → is_in_block w o.lanes i ≡ true → is_in_block s o.lanes i ≡ true
  in_block_same i is =
      let page : ℕ = i / 512 in
      let d : ℕ = w (lane_descriptor o.lanes page) in
      let e : ℕ = s (lane_descriptor o.lanes page) in
      let taken : Bool = is_chunk_taken w o.lanes (zone_of o.lanes page) (chunk_of o.lanes page - 1) in
      let chunk : IsChunk o.lanes page = chunk_here o.lanes page (and_parts (is_chunk o.lanes page) taken (and_parts (is_chunk o.lanes page && taken) _ is).0).0 in
      let same : d ≡ e = descriptor_same page chunk in
      let few : chunk_of o.lanes page - 1 < 64 = omega arith in
      let last : (not (is_run e) || leb 8 (i % 512) && eqb (bit_at (w (bitmap_word page)) ((i % 512 / 8 - 1) / (e / 256))) 1) ≡ (not (is_run e) || leb 8 (i % 512) && eqb (bit_at (s (bitmap_word page)) ((i % 512 / 8 - 1) / (e / 256))) 1) =
      ⊎_elim (λ (run : is_run e ≡ true). ap (λ b. not (is_run e) || leb 8 (i % 512) && eqb (bit_at b ((i % 512 / 8 - 1) / (e / 256))) 1) (heads (bitmap_word page) (page, (chunk, inr (refl, run)))))
      (λ (none : is_run e ≡ false). no_run (is_run e) none (leb 8 (i % 512) && eqb (bit_at (w (bitmap_word page)) ((i % 512 / 8 - 1) / (e / 256))) 1) (leb 8 (i % 512) && eqb (bit_at (s (bitmap_word page)) ((i % 512 / 8 - 1) / (e / 256))) 1))
      (cases_Bool (is_run e)) in
      sym ((λ j. is_chunk o.lanes page && taken_same (zone_of o.lanes page) (chunk_of o.lanes page - 1) few j
      && (not (is_run (same j)) || leb 8 (i % 512) && eqb (bit_at (w (bitmap_word page)) ((i % 512 / 8 - 1) / (same j / 256))) 1))
      ∙ ap (λ b. is_chunk o.lanes page && is_chunk_taken s o.lanes (zone_of o.lanes page) (chunk_of o.lanes page - 1) && b) last)
      ∙ is
    where
      no_run : (run : Bool) → run ≡ false → (x y : Bool) → (not run || x) ≡ (not run || y)
      no_run true e x y = absurd (false≢true (sym e))
      no_run false e x y = refl

  module _ (sound : IsSound o) (none : heap_fault w o.lanes o.zones ≡ None) where
    -- a word of a block
    pub lying_lives : (i : ℕ) → LiesInBlock w o.lanes o.zones i → IsLivingWord o i
    lying_lives i lies =
        let block : Block = lies.block in
        let stands : Stands w o.lanes o.zones block = block_stands w o.lanes o.zones block lies.is_there in
        let inside : IsIn block i = record { from = lies.from; to = lies.to } in
        let inside_block : is_in_block w o.lanes i ≡ true = ⊎_elim (λ (run : IsRunBlock w o.lanes stands.chunk block). in_run_block w o.lanes stands.chunk i block run inside)
        (λ (whole : IsChunkBlock w o.lanes stands.chunk block). in_chunk_block w o.lanes stands.chunk i block (good_chunk w o.lanes o.zones stands.chunk none stands.in_zones) whole inside)
        stands.is in
        let room = in_pool w o.lanes o.zones block none lies.is_there in
        let line = block_begins_line w o.lanes o.zones block lies.is_there in
        let begins = room.begins in
        let ends = room.ends in
        let from = lies.from in
        let to = lies.to in
        living_block o i (inr (omega (arith, line, begins, from), omega (arith, line, ends, to))) (in_block_same i inside_block)

    -- a word that the meaning reads, and that is of no free chunk
    pub read_lives : (i : ℕ) → Reads w o.lanes o.zones i → ((c : ℕ) → c < 64 * o.zones → is_chunk_taken w o.lanes (c / 64) (c % 64) ≡ false → ¬ IsOfChunk o.lanes c i) → IsLivingWord o i
    read_lives i read apart = by_part read where
      heap : IsHeapWord o.lanes o.zones i
      heap = reads_heap w o.lanes o.zones i none read

      within : i < length o.words
      within = let size = sound.size in ⊎_elim (λ (root : i ≡ 64). omega arith) (λ (zone : (512 + 1024 * o.lanes ≤ i) × (i < 512 + 1024 * o.lanes + 33280 * o.zones)). let high = zone.1 in omega arith) heap

      -- so the chunk that it tells of was taken
      was_taken : (c : ℕ) → c < 64 * o.zones → IsOfChunk o.lanes c i → is_free_chunk s o.lanes (2 + 2 * o.lanes + 65 * (c / 64) + c % 64) ≡ false
      was_taken c in_zones of = false_from_ne_true (is_free_chunk s o.lanes (2 + 2 * o.lanes + 65 * (c / 64) + c % 64)) (λ free.
          apart c in_zones (taken_same (c / 64) (c % 64) (omega arith) ∙ free_by_number s o.lanes c free) of)

      by_part : Reads w o.lanes o.zones i → IsLivingWord o i
      by_part (inl root) = subst (IsLivingWord o) (sym root) (root_lives o)
      by_part (inr (inl descriptor)) =
          let c : ℕ = descriptor.chunk in
          let page : ℕ = 2 + 2 * o.lanes + 65 * (c / 64) + c % 64 in
          let of : IsPageOf o.lanes page c = page_of_chunk o.lanes page c refl in
          told_lives o sound page i (chunk_here o.lanes page of.in_chunk) (was_taken c descriptor.in_range (inl descriptor.is_word)) (inl (descriptor.is_word ∙ sym of.descriptor)) within
      by_part (inr (inr (inl bitmap))) =
          let c : ℕ = bitmap.chunk in
          let page : ℕ = 2 + 2 * o.lanes + 65 * (c / 64) + c % 64 in
          let of : IsPageOf o.lanes page c = page_of_chunk o.lanes page c refl in
          let chunk : IsChunk o.lanes page = chunk_here o.lanes page of.in_chunk in
          let low = (lines_of_class (w (descriptor_word o.lanes c)) bitmap.lines bitmap.is_run).0 in
          let run : is_run (s (lane_descriptor o.lanes page)) ≡ true = ap is_run (sym (descriptor_same page chunk)) ∙ ap (λ n. is_run (w n)) of.descriptor ∙ ap (λ n. eqb n 1) low in
          let here : i ≡ chunk_word o.lanes c = bitmap.is_word in
          told_lives o sound page i chunk (was_taken c bitmap.in_range (inr (omega arith, omega arith))) (inr (bitmap.is_word ∙ sym of.bitmap, run)) within
      by_part (inr (inr (inr contents))) = living_block o i heap (in_block_same i (read_in_block w o.lanes o.zones i contents.block none contents.is_there contents.is_read))
