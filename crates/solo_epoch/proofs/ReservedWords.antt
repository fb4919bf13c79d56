-- The words of what a lane that works alone reserved: each word of an object's block is one, none of them is recorded, and none lies in a block that it found under a lock.
use Rattle.std.proofs.Common.{◌≡◌, ⊎_elim, inl, inr, ℕ, ◌+◌, ◌-◌, ◌*◌, ◌/◌, ◌%◌, ◌<◌, ◌≤◌, ◌&&◌, true, false, eqb, leb, Contains, List, None, slice_index, refl, sym, ap, ◌∙◌, subst, arith, eq-eqb}
use Rattle.std.specs.Int.{bit_at}
use Rattle.std.specs.List.{list_any}
use Rattle.std.proofs.Math.Nat.{mul_comm}
use Rattle.std.proofs.lemmas.Bool.{and_from, false_from_ne_true, le-leb}
use Rattle.std.proofs.lemmas.Nat.{div-mul-add}
use Rattle.pm_header.specs.declared.header.Header.{Header}
use Rattle.pm_layout.specs.Sizes.{blocks_of}
use Rattle.pm_objects.specs.declared.pool.PoolView.{PoolView}
use Rattle.pm_image.specs.declared.block.Block.{Block}
use Rattle.pm_image.specs.Blocks.{blocks, chunk_word, descriptor_word}
use Rattle.pm_image.specs.HeapFaults.{heap_fault}
use Rattle.pm_image.proofs.Rooms.{run_fits}
use Rattle.solo_view.specs.declared.occ.Occ.TheVariants.{Zone}
use Rattle.solo_view.specs.Blocks.{chunk_of, covers, descriptor_word as lane_descriptor, zone_of}
use Rattle.solo_view.specs.Held.{is_reserved}
use Rattle.solo_view.specs.Occupancy.{is_in_block}
use Rattle.solo_view.specs.Steps.{Step}
use Rattle.solo_view.specs.View.{View}
use Rattle.solo_view.specs.Views.{has_bit, has_chunk}
use Rattle.solo_world.specs.Opening.{Opening}
use Rattle.solo_world.specs.Records.{is_recorded}
use Rattle.solo_world.proofs.Chunks.{chunk_here}
use Rattle.solo_world.proofs.CrashWords.{recorded_writes}
use Rattle.solo_world.proofs.Reserved.{chunk_word_here}
use Rattle.solo_fresh.proofs.MakingRuns.{chunk_reserved}
use Rattle.solo_crash.specs.Alone.{WorksAlone}
use Rattle.solo_crash.specs.CallBlocks.{NewObject, block_of}
use Rattle.solo_crash.specs.HeapChanges.{run_at}
use Rattle.solo_crash.specs.NewObjects.{IsWordOf}
use Rattle.solo_crash.specs.OpenCall.{IsUnderBlock, block_at_line}
use Rattle.solo_crash.specs.Reserved.{IsReservedFor, IsReservedInChunks, IsReservedInRun, IsUnusedChunk}
use Rattle.solo_crash.proofs.AloneCourse.{StandsAlone}
use Rattle.solo_crash.proofs.AloneMemory.{memory_of}
use Rattle.solo_crash.proofs.Apart.{good_chunk}
use Rattle.solo_crash.proofs.FoundBlocks.{IsPageOf, found_of_words, page_of_chunk}
use Rattle.solo_crash.proofs.InBlocks.{IsIn, in_chunk_block, in_run_block}
use Rattle.solo_crash.proofs.NewRuns.{page_at}
use Rattle.solo_crash.proofs.OneChange.{chunks_block_words}
use Rattle.solo_crash.proofs.Standing.{IsChunkBlock, IsRunBlock, Stands, block_stands}
use Rattle.solo_epoch.proofs.GainedObjects.{stood}
use Rattle.solo_epoch.proofs.GivingSteps.{word_reserved}
use Rattle.solo_epoch.proofs.HeldApart.{found_at_opening, opening_has_no_fault, reserved_in_none}
use Rattle.solo_epoch.proofs.PutDescriptors.{lies_whole}

-- ---- the words of a block of a run

module _ (v : View) (n : NewObject) (run : IsReservedInRun v n) (inside : run.index < blocks_of run.lines) (i : ℕ) (in_block : IsWordOf (block_of n) i) where
  abbrev page : ℕ
  page = page_at v.lanes run.chunk

  fits : 1 + run.lines * run.index + run.lines ≤ 64
  fits = run_fits run.lines run.index inside

  begins : (8 * chunk_word v.lanes run.chunk + 64 * (1 + run.lines * run.index)) / 8 ≤ i
  begins = subst (λ (b : Block). b.place / 8 ≤ i) run.is_block in_block.from

  ends : i < (8 * chunk_word v.lanes run.chunk + 64 * (1 + run.lines * run.index)) / 8 + 8 * run.lines
  ends = subst (λ (b : Block). i < b.place / 8 + 8 * b.lines) run.is_block in_block.to

  here : i / 512 ≡ page
  here = let room = fits in let low = begins in let high = ends in omega (arith, room, low, high)

  behind : 8 ≤ i % 512
  behind = let room = fits in let low = begins in let high = ends in let there = here in omega (arith, room, low, high, there)

  number : (i % 512 / 8 - 1) / run.lines ≡ run.index
  number =
      let room = fits in let first = begins in let last = ends in let there = here in
      let line : ℕ = i % 512 / 8 - 1 in
      let rest : ℕ = line - run.lines * run.index in
      let low : run.lines * run.index ≤ line = omega (arith, room, first, last, there) in
      let high : line < run.lines * run.index + run.lines = omega (arith, room, first, last, there) in
      let turned : run.lines * run.index ≡ run.index * run.lines = mul_comm run.lines run.index in
      let split : line ≡ run.index * run.lines + rest = omega (arith, low, turned) in
      ap (λ k. k / run.lines) split ∙ div-mul-add run.index run.lines rest (omega (arith, low, high))

  covered : (bits : ℕ) → bit_at bits run.index ≡ 1 → covers v.lanes v.words (run_at v.lanes run.chunk) bits i ≡ true
  covered bits set =
      let whole : 4096 * page / 4096 ≡ page = omega arith in
      let described = run.described in
      let word : slice_index v.words (lane_descriptor v.lanes page) ≡ slice_index v.words (descriptor_word v.lanes run.chunk) = ap (slice_index v.words) (page_of_chunk v.lanes page run.chunk refl).descriptor in
      let lines : slice_index v.words (lane_descriptor v.lanes page) / 256 ≡ run.lines = omega (arith, described, word) in
      let d : ℕ = slice_index v.words (lane_descriptor v.lanes (4096 * page / 4096)) / 256 in
      let d_is : d ≡ run.lines = ap (λ p. slice_index v.words (lane_descriptor v.lanes p) / 256) whole ∙ lines in
      let bit : bit_at bits ((i % 512 / 8 - 1) / d) ≡ 1 = ap (λ m. bit_at bits ((i % 512 / 8 - 1) / m)) d_is ∙ (ap (bit_at bits) number ∙ set) in
      and_from (eqb (i / 512) (4096 * page / 4096) && leb 8 (i % 512)) (eqb (bit_at bits ((i % 512 / 8 - 1) / d)) 1)
      (and_from (eqb (i / 512) (4096 * page / 4096)) (leb 8 (i % 512)) (eq-eqb (i / 512) (4096 * page / 4096) (here ∙ sym whole)) (le-leb 8 (i % 512) behind))
      (eq-eqb (bit_at bits ((i % 512 / 8 - 1) / d)) 1 bit)

  run_word_reserved : is_reserved v i ≡ true
  run_word_reserved = word_reserved v (run_at v.lanes run.chunk) run.index i run.reserved covered

-- ---- and of whole chunks

module _ (v : View) (n : NewObject) (has : IsReservedInChunks v n) (i : ℕ) (in_block : IsWordOf (block_of n) i) where
  words : (chunk_word v.lanes (64 * has.zone + has.first) ≤ i) × (i < chunk_word v.lanes (64 * has.zone + has.first) + 512 * has.count)
  words =
      chunks_block_words v.lanes (64 * has.zone + has.first) has.count i (subst (λ (b : Block). b.place / 8 ≤ i) has.is_block in_block.from)
      (subst (λ (b : Block). i < b.place / 8 + 8 * b.lines) has.is_block in_block.to)

  -- which of its chunks it lies in
  abbrev k : ℕ
  k = (i - chunk_word v.lanes (64 * has.zone + has.first)) / 512

  near : k < has.count
  near = let t = words in let low = t.0 in let high = t.1 in omega (arith, low, high)

  there : i / 512 ≡ 2 + 2 * v.lanes + 65 * has.zone + (has.first + k)
  there = let t = words in let low = t.0 in let high = t.1 in let low_first = has.low in let fits_in = has.fits in omega (arith, low, high, low_first, fits_in)

  of_chunk : IsPageOf v.lanes (i / 512) (64 * has.zone + (has.first + k))
  of_chunk = page_of_chunk v.lanes (i / 512) (64 * has.zone + (has.first + k)) (let is = there in let close = near in let fits_in = has.fits in omega (arith, is, close, fits_in))

  zone_is : zone_of v.lanes (i / 512) ≡ has.zone
  zone_is = let is = there in let close = near in let fits_in = has.fits in omega (arith, is, close, fits_in)

  number_is : chunk_of v.lanes (i / 512) - 1 ≡ has.first + k
  number_is = let is = there in let close = near in let fits_in = has.fits in omega (arith, is, close, fits_in)

  chunk_word_reserved : is_reserved v i ≡ true
  chunk_word_reserved =
      let is_page = chunk_here v.lanes (i / 512) of_chunk.in_chunk in
      let unused : IsUnusedChunk v.lanes v has.zone (has.first + k) = has.unused k near in
      let own : has_chunk v (i / 512) ≡ true = (λ j. list_any (has_bit (Zone (zone_is j)) (number_is j)) v.reserved) ∙ unused.reserved in
      chunk_reserved v (i / 512) i is_page own (chunk_word_here v.lanes i is_page.1)

-- ---- of a lane that works alone

module _ (o : Opening) (header : Header) (pool : PoolView) (start x : View) (steps : List Step) (works : WorksAlone o header pool start steps x) where
  -- each word of an object's block that it reserved
  pub block_word_reserved : (n : NewObject) → IsReservedFor x n → (i : ℕ) → IsWordOf (block_of n) i → is_reserved x i ≡ true
  block_word_reserved n (inl run) i word = run_word_reserved x n run (lies_whole o header pool start x steps works n run) i word
  block_word_reserved n (inr has) i word = chunk_word_reserved x n has i word

  s : StandsAlone o header pool x
  s = stood o header pool start x steps works

  none : heap_fault (slice_index o.words) o.lanes o.zones ≡ None
  none = opening_has_no_fault o header pool start x steps works

  in_some : (block : Block) → Contains (blocks (slice_index o.words) o.lanes o.zones) block → (i : ℕ) → IsIn block i → is_in_block (slice_index o.words) o.lanes i ≡ true
  in_some block there i inside =
      let w : ℕ → ℕ = slice_index o.words in
      let stands : Stands w o.lanes o.zones block = block_stands w o.lanes o.zones block there in
      ⊎_elim (λ (run : IsRunBlock w o.lanes stands.chunk block). in_run_block w o.lanes stands.chunk i block run inside)
      (λ (whole : IsChunkBlock w o.lanes stands.chunk block). in_chunk_block w o.lanes stands.chunk i block (good_chunk w o.lanes o.zones stands.chunk none stands.in_zones) whole inside)
      stands.is

  -- what it found lies in a block of the opening, with each of its words
  found_in_block : (i : ℕ) → IsUnderBlock x i → is_in_block (slice_index o.words) o.lanes i ≡ true
  found_in_block i under =
      let line : ℕ = under.lock.line in
      let size = s.goes.world.sound.size in
      let there = found_at_opening o header pool x s under.lock under.lines under.held under.found in
      let from = under.from in let to = under.to in
      in_some (block_at_line line under.lines) ((found_of_words o.words o.lanes o.zones line under.lines none (omega (arith, size))).0 there) i (record { from = omega (arith, from); to = omega (arith, to) })

  pub reserved_unfound : (i : ℕ) → IsUnderBlock x i → is_reserved x i ≡ true → ⊥
  reserved_unfound i under own = reserved_in_none o header pool x s i own (found_in_block i under)

  -- so does what it recorded
  recorded_in_block : (i : ℕ) → is_recorded x.log.records i ≡ true → is_in_block (slice_index o.words) o.lanes i ≡ true
  recorded_in_block i is =
      let writes = recorded_writes o (memory_of x) s.views s.log s.decided s.goes.world 0 i s.goes.in_lanes (ap (λ (u : View). is_recorded u.log.records i) s.here ∙ is) in
      s.goes.world.sound.in_blocks writes.0 i writes.1

  pub reserved_unrecorded : (i : ℕ) → is_reserved x i ≡ true → is_recorded x.log.records i ≡ false
  reserved_unrecorded i own = false_from_ne_true (is_recorded x.log.records i) (λ is. reserved_in_none o header pool x s i own (recorded_in_block i is))
