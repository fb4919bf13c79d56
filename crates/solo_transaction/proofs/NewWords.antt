-- The words of an object that the call made: the lane reserved each, which tells of no block, and knows those of its bytes.
use Rattle.std.proofs.Common.{◌≡◌, inl, inr, ℕ, ◌+◌, ◌-◌, ◌*◌, ◌/◌, ◌%◌, ◌<◌, ◌≤◌, ◌&&◌, Bool, true, false, not, eqb, leb, length, slice_index, refl, sym, ap, ◌∙◌, subst, arith, eq-eqb, ne_eqb}
use Rattle.std.specs.Int.{bit_at}
use Rattle.std.specs.List.{list_any}
use Rattle.std.proofs.Math.Nat.{mul_comm}
use Rattle.std.proofs.lemmas.Bool.{and_from, and_parts, eqb-true, le-leb}
use Rattle.std.proofs.lemmas.List.Folds.{Any-from_list_any, list_any_at}
use Rattle.std.proofs.lemmas.Nat.{div-mul-add}
use Rattle.pm_image.specs.Blocks.{chunk_word, descriptor_word}
use Rattle.pm_image.proofs.Rooms.{run_fits}
use Rattle.solo_view.specs.declared.occ.Occ.{Occ}
use Rattle.solo_view.specs.declared.occ.Occ.TheVariants.{Zone}
use Rattle.solo_view.specs.Blocks.{chunk_of, covers, descriptor_word as lane_descriptor, is_chunk, is_run, tells_nothing, zone_of}
use Rattle.solo_view.specs.View.{Taken, View}
use Rattle.solo_view.specs.Views.{has_bit, has_chunk, is_same_occ}
use Rattle.solo_world.proofs.Chunks.{chunk_here}
use Rattle.solo_world.proofs.Reserved.{chunk_word_here, occ_same}
use Rattle.solo_world.specs.Lawful.{MayFill}
use Rattle.solo_fresh.proofs.MakingRuns.{chunk_reserved}
use Rattle.solo_crash.proofs.FoundBlocks.{IsPageOf, page_of_chunk}
use Rattle.solo_crash.proofs.NewRuns.{page_at}
use Rattle.solo_crash.proofs.OneChange.{chunks_block_words}
use Rattle.solo_crash.specs.CallBlocks.{NewObject, block_of}
use Rattle.solo_crash.specs.HeapChanges.{run_at}
use Rattle.solo_crash.specs.Reserved.{IsReservedInChunks, IsReservedInRun, IsUnusedChunk}
use Rattle.pm_layout.specs.Sizes.{blocks_of}
use Rattle.pm_image.specs.declared.block.Block.{Block}
use Rattle.solo_transaction.specs.AtWork.{LiesInReserved}

-- the word is one of the object's block
pub record IsInBlock (n : NewObject) (i : ℕ) : Type 0 where
  pub from : (block_of n).place / 8 ≤ i
  pub to : i < (block_of n).place / 8 + 8 * (block_of n).lines

-- it lies in a page of a chunk, and is a chunk's, and not the bitmap of a run
tells_none : (v : View) (i : ℕ) → is_chunk v.lanes (i / 512) ≡ true → (eqb (i % 512) 0 && is_run (slice_index v.words (lane_descriptor v.lanes (i / 512)))) ≡ false → tells_nothing v.lanes v.words i ≡ true
tells_none v i chunk none =
    and_from (is_chunk v.lanes (i / 512)) (not (eqb (i % 512) 0 && is_run (slice_index v.words (lane_descriptor v.lanes (i / 512))))) chunk (ap not none)

module _ (v : View) (n : NewObject) (run : IsReservedInRun v n) (inside : run.index < blocks_of run.lines) (i : ℕ) (in_block : IsInBlock n i) where
  abbrev page : ℕ
  page = page_at v.lanes run.chunk

  abbrev before : ℕ
  before = run.lines * run.index

  fits : 1 + run.lines * run.index + run.lines ≤ 64
  fits = run_fits run.lines run.index inside

  begins : (8 * chunk_word v.lanes run.chunk + 64 * (1 + run.lines * run.index)) / 8 ≤ i
  begins = subst (λ (b : Block). b.place / 8 ≤ i) run.is_block in_block.from

  ends : i < (8 * chunk_word v.lanes run.chunk + 64 * (1 + run.lines * run.index)) / 8 + 8 * run.lines
  ends = subst (λ (b : Block). i < b.place / 8 + 8 * b.lines) run.is_block in_block.to

  here : i / 512 ≡ page_at v.lanes run.chunk
  here = let room = fits in let low = begins in let high = ends in omega (arith, room, low, high)

  behind : 8 ≤ i % 512
  behind = let room = fits in let low = begins in let high = ends in let there = here in omega (arith, room, low, high, there)

  number : (i % 512 / 8 - 1) / run.lines ≡ run.index
  number =
      let room = fits in let first = begins in let last = ends in let there = here in
      let line : ℕ = i % 512 / 8 - 1 in
      let rest : ℕ = line - run.lines * run.index in
      let low : run.lines * run.index ≤ line = omega (arith, room, first, last, there) in
      let high : line < run.lines * run.index + run.lines = omega (arith, room, first, last, there) in
      let turned : run.lines * run.index ≡ run.index * run.lines = mul_comm run.lines run.index in
      let split : line ≡ run.index * run.lines + rest = omega (arith, low, turned) in
      ap (λ k. k / run.lines) split ∙ div-mul-add run.index run.lines rest (omega (arith, low, high))

  of_page : IsPageOf v.lanes page run.chunk
  of_page = page_of_chunk v.lanes page run.chunk refl

  -- what covers it is the bit of its block
  covered : (t : Taken) → has_bit (run_at v.lanes run.chunk) run.index t ≡ true → covers v.lanes v.words t.at t.bits i ≡ true
  covered t has =
      let both = and_parts (is_same_occ (run_at v.lanes run.chunk) t.at) (eqb (bit_at t.bits run.index) 1) has in
      let whole : 4096 * page / 4096 ≡ page = omega arith in
      let described = run.described in
      let word : slice_index v.words (lane_descriptor v.lanes page) ≡ slice_index v.words (descriptor_word v.lanes run.chunk) = ap (slice_index v.words) of_page.descriptor in
      let lines : slice_index v.words (lane_descriptor v.lanes page) / 256 ≡ run.lines = omega (arith, described, word) in
      let d : ℕ = slice_index v.words (lane_descriptor v.lanes (4096 * page / 4096)) / 256 in
      let d_is : d ≡ run.lines = ap (λ p. slice_index v.words (lane_descriptor v.lanes p) / 256) whole ∙ lines in
      let bit : bit_at t.bits ((i % 512 / 8 - 1) / d) ≡ 1 = ap (λ m. bit_at t.bits ((i % 512 / 8 - 1) / m)) d_is ∙ (ap (bit_at t.bits) number ∙ eqb-true (bit_at t.bits run.index) 1 both.1) in
      subst (λ (at : Occ). covers v.lanes v.words at t.bits i ≡ true) (occ_same (run_at v.lanes run.chunk) t.at both.0)
      (and_from (eqb (i / 512) (4096 * page / 4096) && leb 8 (i % 512)) (eqb (bit_at t.bits ((i % 512 / 8 - 1) / d)) 1)
      (and_from (eqb (i / 512) (4096 * page / 4096)) (leb 8 (i % 512)) (eq-eqb (i / 512) (4096 * page / 4096) (here ∙ sym whole)) (le-leb 8 (i % 512) behind))
      (eq-eqb (bit_at t.bits ((i % 512 / 8 - 1) / d)) 1 bit))

  may_fill_in_run : MayFill v i
  may_fill_in_run =
      let t = Any-from_list_any (has_bit (run_at v.lanes run.chunk) run.index) v.reserved run.reserved in
      let far = behind in
      record {
        reserved = list_any_at (λ (b : Taken). covers v.lanes v.words b.at b.bits i) v.reserved t.0 t.1 t.2 (ap (λ (b : Taken). covers v.lanes v.words b.at b.bits i) t.3 ∙ covered t.1 t.4);
        plain =
            tells_none v i (ap (is_chunk v.lanes) here ∙ of_page.in_chunk)
            (ap (λ b. b && is_run (slice_index v.words (lane_descriptor v.lanes (i / 512)))) (ne_eqb (i % 512) 0 (λ none. absurd (omega (arith, none, far)))));
      }

  inside_in_run : length v.words ≡ 512 + 1024 * v.lanes + 33280 * v.zones → i < length v.words
  inside_in_run size = let page_is = here in let in_pool = run.in_pool in omega (arith, size, page_is, in_pool)

module _ (v : View) (n : NewObject) (has : IsReservedInChunks v n) (i : ℕ) (in_block : IsInBlock n i) where
  abbrev first : ℕ
  first = 64 * has.zone + has.first

  words : (chunk_word v.lanes (64 * has.zone + has.first) ≤ i) × (i < chunk_word v.lanes (64 * has.zone + has.first) + 512 * has.count)
  words =
      chunks_block_words v.lanes (64 * has.zone + has.first) has.count i (subst (λ (b : Block). b.place / 8 ≤ i) has.is_block in_block.from)
      (subst (λ (b : Block). i < b.place / 8 + 8 * b.lines) has.is_block in_block.to)

  -- which of its chunks it lies in
  abbrev k : ℕ
  k = (i - chunk_word v.lanes (64 * has.zone + has.first)) / 512

  near : k < has.count
  near = let t = words in let low = t.0 in let high = t.1 in omega (arith, low, high)

  chunk : ℕ
  chunk = has.first + k

  there : i / 512 ≡ 2 + 2 * v.lanes + 65 * has.zone + (has.first + k)
  there = let t = words in let low = t.0 in let high = t.1 in let low_first = has.low in let fits_in = has.fits in omega (arith, low, high, low_first, fits_in)

  unused : IsUnusedChunk v.lanes v has.zone (has.first + k)
  unused = has.unused k near

  of_chunk : IsPageOf v.lanes (i / 512) (64 * has.zone + (has.first + k))
  of_chunk = page_of_chunk v.lanes (i / 512) (64 * has.zone + (has.first + k)) (let is = there in let close = near in let fits_in = has.fits in omega (arith, is, close, fits_in))

  zone_is : zone_of v.lanes (i / 512) ≡ has.zone
  zone_is = let is = there in let close = near in let fits_in = has.fits in omega (arith, is, close, fits_in)

  number_is : chunk_of v.lanes (i / 512) - 1 ≡ has.first + k
  number_is = let is = there in let close = near in let fits_in = has.fits in omega (arith, is, close, fits_in)

  reserved_there : has_chunk v (i / 512) ≡ true
  reserved_there = (λ j. list_any (has_bit (Zone (zone_is j)) (number_is j)) v.reserved) ∙ unused.reserved

  may_fill_in_chunks : MayFill v i
  may_fill_in_chunks =
      let is_page = chunk_here v.lanes (i / 512) of_chunk.in_chunk in
      let zero : slice_index v.words (lane_descriptor v.lanes (i / 512)) ≡ 0 = ap (slice_index v.words) of_chunk.descriptor ∙ unused.undescribed in
      record {
        reserved = chunk_reserved v (i / 512) i is_page reserved_there (chunk_word_here v.lanes i is_page.1);
        plain = tells_none v i of_chunk.in_chunk (no_run (eqb (i % 512) 0) (is_run (slice_index v.words (lane_descriptor v.lanes (i / 512)))) (ap is_run zero));
      } where
        no_run : (a b : Bool) → b ≡ false → (a && b) ≡ false
        no_run true b none = none
        no_run false b none = refl

  inside_in_chunks : length v.words ≡ 512 + 1024 * v.lanes + 33280 * v.zones → i < length v.words
  inside_in_chunks size = let is = there in let close = near in let fits_in = has.fits in let in_pool = has.in_pool in omega (arith, size, is, close, fits_in, in_pool)

-- the lane may store each word of the block, which lies in the pool
pub may_fill : (v : View) (n : NewObject) → LiesInReserved v n → (i : ℕ) → IsInBlock n i → MayFill v i
may_fill v n (inl run) i there = may_fill_in_run v n run.0 run.1 i there
may_fill v n (inr has) i there = may_fill_in_chunks v n has i there

pub in_pool : (v : View) (n : NewObject) → LiesInReserved v n → length v.words ≡ 512 + 1024 * v.lanes + 33280 * v.zones → (i : ℕ) → IsInBlock n i → i < length v.words
in_pool v n (inl run) size i there = inside_in_run v n run.0 run.1 i there size
in_pool v n (inr has) size i there = inside_in_chunks v n has i there size
