-- Which bits the block of a run has, and whole chunks, by their numbers; and that a lane reserved those of a block that it keeps.
use Rattle.std.proofs.Common.{◌≡◌, ◌≢◌, ◌↔◌, inl, inr, ℕ, ◌+◌, ◌-◌, ◌*◌, ◌/◌, ◌%◌, ◌<◌, ◌≤◌, ◌==◌, ◌||◌, not, nat_le, Bool, true, false, All, List, slice_index, sym, ap, ◌∙◌, subst, arith}
use Rattle.std.specs.Int.{bit_at}
use Rattle.std.proofs.lemmas.Bool.{leb-false, or_parts}
use Rattle.std.proofs.lemmas.List.Elements.{All-get_or}
use Rattle.std.proofs.Math.Nat.{mul-div_cancel_left}
use Rattle.pm_layout.specs.Sizes.{blocks_of}
use Rattle.pm_image.specs.declared.block.Block.{Block}
use Rattle.pm_image.proofs.Rooms.{run_fits}
use Rattle.solo_view.specs.declared.occ.Occ.{Occ}
use Rattle.solo_view.specs.declared.occ.Occ.TheVariants.{Run, Zone}
use Rattle.solo_view.specs.Blocks.{descriptor_word, is_run, zone_of}
use Rattle.solo_view.specs.View.{View}
use Rattle.solo_view.specs.Views.{chunk_bit, reserves}
use Rattle.solo_world.specs.Heap.{IsOcc}
use Rattle.solo_crash.specs.HeapChanges.{run_at}
use Rattle.solo_crash.specs.NewObjects.{block_of_chunks, block_of_run}
use Rattle.solo_crash.specs.Taken.{IsBlockBit, IsChunkBit}
use Rattle.solo_crash.proofs.Classes.{run_has_lines}
use Rattle.solo_reclaim.specs.KeptBlocks.{IsBitOf, IsKeptBit, IsOfHeap, Keeps, KeepsChunks, KeepsInRun}
use Rattle.solo_reclaim.specs.KnownTaken.{KnowsTaken}

-- the page of a chunk
abbrev page_of : ℕ → ℕ → ℕ
page_of lanes c = 2 + 2 * lanes + 65 * (c / 64) + c % 64

-- ---- a block of a run

module _ (lanes c lines index : ℕ) (inside : index < blocks_of lines) where
  abbrev block : Block
  block = block_of_run lanes c lines index

  some : 1 ≤ lines
  some = run_has_lines lines index inside

  pub run_lines : lines % 64 ≢ 0
  run_lines whole = let before : ℕ = lines * index in let fits : 1 + before + lines ≤ 64 = run_fits lines index inside in let few = some in omega (arith, few, whole, fits)

  pub run_page : block.place / 4096 ≡ page_of lanes c
  run_page = let before : ℕ = lines * index in let fits : 1 + before + lines ≤ 64 = run_fits lines index inside in let few = some in omega (arith, few, fits)

  pub run_line : block.place % 4096 / 64 ≡ 1 + lines * index
  run_line = let before : ℕ = lines * index in let fits : 1 + before + lines ≤ 64 = run_fits lines index inside in let few = some in omega (arith, few, fits)

  run_index : (block.place % 4096 / 64 - 1) / lines ≡ index
  run_index = ap (λ n. n / lines) (let before : ℕ = lines * index in let line : block.place % 4096 / 64 ≡ 1 + before = run_line in let less : block.place % 4096 / 64 - 1 ≡ before = omega (arith, line) in less) ∙ mul-div_cancel_left index some

  pub run_bits : (at : Occ) (bit : ℕ) → IsBitOf lanes block at bit ↔ IsBlockBit lanes c index at bit
  run_bits at bit = (forth, λ is. inl (run_lines, is.0 ∙ ap Run (let page = run_page in omega (arith, page)), is.1 ∙ sym run_index)) where
    forth : IsBitOf lanes block at bit → IsBlockBit lanes c index at bit
    forth (inl is) = (is.1 ∙ ap Run (let page = run_page in omega (arith, page)), is.2 ∙ run_index)
    forth (inr is) = absurd (run_lines is.0)

-- ---- whole chunks

module _ (lanes c count : ℕ) where
  abbrev chunks : Block
  chunks = block_of_chunks lanes c count

  whole : 64 * count % 64 ≡ 0
  whole = omega arith

  chunks_page : chunks.place / 4096 ≡ page_of lanes c
  chunks_page = omega arith

  chunks_zone : zone_of lanes (chunks.place / 4096) ≡ c / 64
  chunks_zone = let page = chunks_page in omega (arith, page)

  pub chunks_first : chunk_bit lanes (chunks.place / 4096) ≡ c % 64
  chunks_first = let page = chunks_page in omega (arith, page)

  chunks_count : 64 * count / 64 ≡ count
  chunks_count = omega arith

  pub chunks_bits : (at : Occ) (bit : ℕ) → IsBitOf lanes chunks at bit ↔ IsChunkBit c count at bit
  chunks_bits at bit = (
    forth,
    λ is. inr (
      whole,
      is.0 ∙ ap Zone (sym chunks_zone),
      (let first = chunks_first in let from = is.1.0 in omega (arith, first, from)),
      (let first = chunks_first in let many = chunks_count in let to = is.1.1 in omega (arith, first, many, to)),
    ),
  ) where
    forth : IsBitOf lanes chunks at bit → IsChunkBit c count at bit
    forth (inl is) = absurd (is.0 whole)
    forth (inr is) = (is.1 ∙ ap Zone chunks_zone, ((let first = chunks_first in let from = is.2 in omega (arith, first, from)), (let first = chunks_first in let many = chunks_count in let to = is.3 in omega (arith, first, many, to))))

  pub chunks_of_heap : c % 64 + count ≤ 64 → IsOfHeap lanes chunks
  chunks_of_heap fits = record {
    behind = λ none. absurd (none whole);
    is_chunk = let page = chunks_page in (omega (arith, page), omega (arith, page));
    in_zone = λ is. let first = chunks_first in let many = chunks_count in omega (arith, first, many, fits);
  }

pub run_of_heap : (lanes c lines index : ℕ) → index < blocks_of lines → IsOfHeap lanes (block_of_run lanes c lines index)
run_of_heap lanes c lines index inside = record {
  behind = λ none. let line = run_line lanes c lines index inside in omega (arith, line);
  is_chunk = let page = run_page lanes c lines index inside in (omega (arith, page), omega (arith, page));
  in_zone = λ is. absurd (run_lines lanes c lines index inside is);
}

-- ---- a block that the lane keeps

-- what a bit of an occupancy word is of the lane reserved
pub record IsReservedBit (v : View) (at : Occ) (bit : ℕ) : Type 0 where
  pub of_pool : IsOcc v.lanes v.zones at
  pub low : bit < 64
  pub reserved : reserves v at bit ≡ true

module _ (v : View) (knows : KnowsTaken v) where
  module _ (block : Block) (is : KeepsInRun v block) where
    abbrev place : ℕ
    place = 4096 * page_of v.lanes is.chunk

    of_pool : IsOcc v.lanes v.zones (run_at v.lanes is.chunk)
    of_pool = let low = is.in_pool in (omega arith, (omega arith, omega arith), omega (arith, low))

    abbrev descriptor : ℕ
    descriptor = slice_index v.words (descriptor_word v.lanes (place / 4096))

    -- the run has a block with its index, since what the lane reserved is free
    free_there : nat_le (blocks_of (descriptor / 256)) is.index ≡ false
    free_there = let beyond : Bool = nat_le (blocks_of (descriptor / 256)) is.index in (or_parts (not (is_run descriptor)) beyond
        (or_parts (not (is_run descriptor) || beyond) (bit_at (slice_index v.words (512 * (place / 4096))) is.index == 1) (knows.apart (run_at v.lanes is.chunk) is.index of_pool is.low (inl is.reserved))).0).1

    pub kept_inside : is.index < blocks_of is.lines
    kept_inside =
        let word : descriptor_word v.lanes (place / 4096) ≡ 512 + 1024 * v.lanes + 33280 * (is.chunk / 64) + is.chunk % 64 = omega arith in
        let lines : descriptor / 256 ≡ is.lines = (let d = ap (slice_index v.words) word ∙ is.described in omega (arith, d)) in
        subst (λ n. is.index < blocks_of n) lines (leb-false (blocks_of (descriptor / 256)) is.index free_there)

    run_reserved : (at : Occ) (bit : ℕ) → IsBitOf v.lanes block at bit → IsReservedBit v at bit
    run_reserved at bit of =
        let its = (run_bits v.lanes is.chunk is.lines is.index kept_inside at bit).0 (subst (λ b. IsBitOf v.lanes b at bit) is.is_block of) in
        let same : at ≡ run_at v.lanes is.chunk = its.0 ∙ ap Run (omega arith) in
        record {
          of_pool = subst (IsOcc v.lanes v.zones) (sym same) of_pool;
          low = let low = is.low in let bit_is = its.1 in omega (arith, low, bit_is);
          reserved = ap (λ o. reserves v o bit) same ∙ (ap (reserves v (run_at v.lanes is.chunk)) its.1 ∙ is.reserved);
        }

  module _ (block : Block) (is : KeepsChunks v block) where
    abbrev first : ℕ
    first = 64 * is.zone + is.first

    zone_is : first / 64 ≡ is.zone
    zone_is = let low = is.low in omega (arith, low)

    first_is : first % 64 ≡ is.first
    first_is = let low = is.low in omega (arith, low)

    chunks_reserved : (at : Occ) (bit : ℕ) → IsBitOf v.lanes block at bit → IsReservedBit v at bit
    chunks_reserved at bit of =
        let its = (chunks_bits v.lanes first is.count at bit).0 (subst (λ b. IsBitOf v.lanes b at bit) is.is_block of) in
        let same : at ≡ Zone is.zone = its.0 ∙ ap Zone zone_is in
        let from : is.first ≤ bit = (let from = its.1.0 in let low = first_is in omega (arith, from, low)) in
        let to : bit < is.first + is.count = (let to = its.1.1 in let low = first_is in omega (arith, to, low)) in
        let bit_is : is.first + (bit - is.first) ≡ bit = omega (arith, from) in
        record {
          of_pool = subst (IsOcc v.lanes v.zones) (sym same) is.in_pool;
          low = let fits = is.fits in omega (arith, to, fits);
          reserved = ap (λ o. reserves v o bit) same ∙ (ap (reserves v (Zone is.zone)) (sym bit_is) ∙ (is.unused (bit - is.first) (omega (arith, from, to))).reserved);
        }

  pub block_of_heap : (block : Block) → Keeps v block → IsOfHeap v.lanes block
  block_of_heap block (inl is) = subst (IsOfHeap v.lanes) (sym is.is_block) (run_of_heap v.lanes is.chunk is.lines is.index (kept_inside block is))
  block_of_heap block (inr is) = subst (IsOfHeap v.lanes) (sym is.is_block) (chunks_of_heap v.lanes (first block is) is.count (let fits = is.fits in let low = first_is block is in omega (arith, fits, low)))

  pub bit_reserved : (block : Block) → Keeps v block → (at : Occ) (bit : ℕ) → IsBitOf v.lanes block at bit → IsReservedBit v at bit
  bit_reserved block (inl is) = run_reserved block is
  bit_reserved block (inr is) = chunks_reserved block is

  pub kept_reserved : (kept : List Block) → All (Keeps v) kept → (at : Occ) (bit : ℕ) → IsKeptBit v.lanes kept at bit → IsReservedBit v at bit
  kept_reserved kept keeps at bit some =
      bit_reserved some.1 (subst (Keeps v) some.3 (All-get_or (Keeps v) kept some.0 some.1 some.2 keeps)) at bit some.4
