-- In a heap without a fault each word of a block is guarded by the block's line alone, and no word that tells of blocks is one.
use Rattle.std.proofs.Common.{◌≡◌, ◌⊎◌, ⊎_elim, inl, inr, ℕ, ◌+◌, ◌-◌, ◌*◌, ◌/◌, ◌%◌, ◌<◌, ◌≤◌, ◌&&◌, true, leb, ltb, length, slice_index, Some, None, sym, ◌∙◌, ap, subst, arith}
use Rattle.std.specs.List.{Contains}
use Rattle.std.proofs.lemmas.Bool.{and_from, and_parts, cases_lt, eqb-true, le-leb, leb-true, lt-ltb, ltb-true}
use Rattle.pm_layout.specs.declared.class.Class.TheVariants.{Lines}
use Rattle.pm_image.specs.declared.block.Block.{Block}
use Rattle.pm_image.specs.Blocks.{blocks, chunk_word, class_in, descriptor_word}
use Rattle.pm_image.specs.HeapFaults.{heap_fault}
use Rattle.pm_image.specs.LogFaults.{in_chunk}
use Rattle.pm_image.proofs.HeapWords.{in_pool}
use Rattle.pm_image.proofs.Rooms.{run_fits}
use Rattle.solo_view.specs.Blocks.{chunk_of, descriptor_word as lane_descriptor, is_chunk, zone_of, zone_page}
use Rattle.solo_view.specs.Held.{is_guarded}
use Rattle.solo_view.specs.Occupancy.{is_in_block}
use Rattle.solo_world.specs.Opening.{Guards, IsChunk, IsPoolChunk, IsSound, Opening, TellsOfBlocks, is_free_chunk}
use Rattle.solo_world.proofs.Chunks.{chunk_is}
use Rattle.solo_crash.specs.OpenCall.{block_at_line}
use Rattle.solo_crash.proofs.Apart.{IsBehindHeader, IsInZone, apart, good_chunk, in_its_zone, no_bitmap, rising}
use Rattle.solo_crash.proofs.Classes.{chunks_of_class, lines_of_class, run_by_byte, run_has_lines}
use Rattle.solo_crash.proofs.EmptyRuns.{free_is_zero}
use Rattle.solo_crash.proofs.FoundBlocks.{IsChunkOf, IsPageOf, chunk_of_page, found_of_words, page_of_chunk}
use Rattle.solo_crash.proofs.InBlocks.{IsIn, in_chunk_block, in_run_block}
use Rattle.solo_crash.proofs.LivingWords.{free_by_number}
use Rattle.solo_crash.proofs.Standing.{IsChunkBlock, IsRunBlock, Stands, block_stands}

-- a guarded word is in the block's words
record IsWordOf (line lines i : ℕ) : Type 0 where
  from : 8 * line ≤ i
  to : i < 8 * (line + lines)

module _ (o : Opening) (none : heap_fault (slice_index o.words) o.lanes o.zones ≡ None) (size : length o.words ≡ 512 + 1024 * o.lanes + 33280 * o.zones) where
  word_of : (line i : ℕ) → (g : Guards o line i) → IsWordOf line g.lines i
  word_of line i g =
      let first = and_parts (leb (8 * line) i && ltb i (8 * (line + g.lines))) (is_guarded (i - 8 * line)) g.inside in
      let both = and_parts (leb (8 * line) i) (ltb i (8 * (line + g.lines))) first.0 in
      record { from = leb-true (8 * line) i both.0; to = ltb-true i (8 * (line + g.lines)) both.1 }

  block_of : (line i : ℕ) → (g : Guards o line i) → Contains (blocks (slice_index o.words) o.lanes o.zones) (block_at_line line g.lines)
  block_of line i g = (found_of_words o.words o.lanes o.zones line g.lines none (omega arith)).0 g.block

  one_guard : (line other i : ℕ) → Guards o line i → Guards o other i → line ≡ other
  one_guard line other i g h =
      let here = word_of line i g in
      let there = word_of other i h in
      let from = here.from in
      let to = here.to in
      let other_from = there.from in
      let other_to = there.to in
      ⊎_elim
      (λ (same : block_at_line line g.lines ≡ block_at_line other h.lines). let place = ap (λ (b : Block). b.place) same in omega arith)
      (λ (either : (64 * line + 64 * g.lines ≤ 64 * other) ⊎ (64 * other + 64 * h.lines ≤ 64 * line)).
      ⊎_elim (λ (before : 64 * line + 64 * g.lines ≤ 64 * other). absurd (omega arith)) (λ (behind : 64 * other + 64 * h.lines ≤ 64 * line). absurd (omega arith)) either)
      (apart 0 (blocks (slice_index o.words) o.lanes o.zones) (block_at_line line g.lines) (block_at_line other h.lines) (rising (slice_index o.words) o.lanes o.zones none) (block_of line i g) (block_of other i h))

  behind_areas : (line i : ℕ) → Guards o line i → 512 + 1024 * o.lanes ≤ i
  behind_areas line i g =
      let stands = in_pool (slice_index o.words) o.lanes o.zones (block_at_line line g.lines) none (block_of line i g) in
      let begins = stands.begins in
      let from = (word_of line i g).from in
      omega arith

  within : (line i : ℕ) → Guards o line i → i < length o.words
  within line i g =
      let stands = in_pool (slice_index o.words) o.lanes o.zones (block_at_line line g.lines) none (block_of line i g) in
      let ends = stands.ends in
      let to = (word_of line i g).to in
      omega arith

  -- a block stands behind the descriptors of its zone
  no_descriptor : (line lines page i : ℕ) → Contains (blocks (slice_index o.words) o.lanes o.zones) (block_at_line line lines) → IsWordOf line lines i → IsChunk o.lanes page → i ≡ lane_descriptor o.lanes page → ⊥
  no_descriptor line lines page i there inside chunk is =
      let stands : Stands (slice_index o.words) o.lanes o.zones (block_at_line line lines) = block_stands (slice_index o.words) o.lanes o.zones (block_at_line line lines) there in
      let zone : IsInZone o.lanes stands.chunk (block_at_line line lines) =
      in_its_zone (slice_index o.words) o.lanes stands.chunk (block_at_line line lines) (good_chunk (slice_index o.words) o.lanes o.zones stands.chunk none stands.in_zones) stands.is in
      let begins = zone.begins in
      let ends = zone.ends in
      let from = inside.from in
      let to = inside.to in
      let some = chunk.1 in
      let few : chunk_of o.lanes page < 65 = omega arith in
      ⊎_elim (λ (before : zone_of o.lanes page < stands.chunk / 64). omega arith)
      (λ (not_before : stands.chunk / 64 ≤ zone_of o.lanes page).
      ⊎_elim (λ (behind : stands.chunk / 64 < zone_of o.lanes page). omega arith) (λ (same : zone_of o.lanes page ≤ stands.chunk / 64). omega arith) (cases_lt (stands.chunk / 64) (zone_of o.lanes page)))
      (cases_lt (zone_of o.lanes page) (stands.chunk / 64))

  -- a run's bitmap is in no block: neither behind a block's header line, nor in it
  no_run_bitmap : (line lines c i : ℕ) → Contains (blocks (slice_index o.words) o.lanes o.zones) (block_at_line line lines) → IsWordOf line lines i → i ≡ chunk_word o.lanes c
      → class_in (slice_index o.words (descriptor_word o.lanes c)) ≡ Some (Lines (slice_index o.words (descriptor_word o.lanes c) / 256)) → ⊥
  no_run_bitmap line lines c i there inside is run =
      let w : ℕ → ℕ = slice_index o.words in
      let stands : Stands w o.lanes o.zones (block_at_line line lines) = block_stands w o.lanes o.zones (block_at_line line lines) there in
      let good = good_chunk w o.lanes o.zones stands.chunk none stands.in_zones in
      let from = inside.from in
      let to = inside.to in
      ⊎_elim
      (λ (head : i < 8 * line + 8). ⊎_elim
      (λ (of_run : IsRunBlock w o.lanes stands.chunk (block_at_line line lines)).
      let before : ℕ = of_run.lines * of_run.index in
      let some : 1 ≤ of_run.lines = run_has_lines of_run.lines of_run.index of_run.inside in
      let fits : 1 + of_run.lines * of_run.index + of_run.lines ≤ 64 = run_fits of_run.lines of_run.index of_run.inside in
      let place : 8 * chunk_word o.lanes stands.chunk + 64 * (1 + of_run.lines * of_run.index) ≡ 64 * line = ap (λ (b : Block). b.place) of_run.is_block in
      omega arith)
      (λ (whole : IsChunkBlock w o.lanes stands.chunk (block_at_line line lines)).
      let place : 8 * chunk_word o.lanes stands.chunk ≡ 64 * line = ap (λ (b : Block). b.place) whole.is_block in
      let same : c ≡ stands.chunk = omega arith in
      let two = (chunks_of_class (w (descriptor_word o.lanes stands.chunk)) whole.chunks whole.is_first).0 in
      let one = (lines_of_class (w (descriptor_word o.lanes c)) (w (descriptor_word o.lanes c) / 256) run).0 in
      let equal : w (descriptor_word o.lanes c) ≡ w (descriptor_word o.lanes stands.chunk) = ap (λ (n : ℕ). w (descriptor_word o.lanes n)) same in
      omega arith)
      stands.is)
      (λ (behind : 8 * line + 8 ≤ i).
      no_bitmap w o.lanes stands.chunk c (w (descriptor_word o.lanes c) / 256) (block_at_line line lines) good stands.is run
      (subst (IsBehindHeader (block_at_line line lines)) is (record { from = omega arith; to = omega arith })))
      (cases_lt i (8 * line + 8))

  no_heads : (line i : ℕ) → Guards o line i → TellsOfBlocks o i → ⊥
  no_heads line i g (page, (chunk, inl descriptor)) = no_descriptor line g.lines page i (block_of line i g) (word_of line i g) chunk descriptor
  no_heads line i g (page, (chunk, inr bitmap)) =
      let w : ℕ → ℕ = slice_index o.words in
      let inside : i < length o.words = within line i g in
      let is : i ≡ 512 * page = bitmap.0 in
      let in_chunk : is_chunk o.lanes page ≡ true = and_from (leb (zone_page o.lanes 0) page) (leb 1 (chunk_of o.lanes page)) (le-leb (zone_page o.lanes 0) page chunk.0) (le-leb 1 (chunk_of o.lanes page) chunk.1) in
      let found : (c : ℕ) × IsChunkOf o.lanes o.zones page c = chunk_of_page o.lanes o.zones page (omega arith) in_chunk in
      let c : ℕ = found.0 in
      let of : IsPageOf o.lanes page c = page_of_chunk o.lanes page c found.1.page_is in
      let low : w (descriptor_word o.lanes c) % 256 ≡ 1 = ap (λ (n : ℕ). w n % 256) (sym of.descriptor) ∙ eqb-true (w (lane_descriptor o.lanes page) % 256) 1 bitmap.1 in
      let run = run_by_byte w o.lanes c (good_chunk w o.lanes o.zones c none found.1.in_zones) low in
      no_run_bitmap line g.lines c i (block_of line i g) (word_of line i g) (bitmap.0 ∙ of.bitmap) run

  -- a guarded word lies in its block, and so in one
  in_blocks : (line i : ℕ) → Guards o line i → is_in_block (slice_index o.words) o.lanes i ≡ true
  in_blocks line i g =
      let w : ℕ → ℕ = slice_index o.words in
      let block : Block = block_at_line line g.lines in
      let stands : Stands w o.lanes o.zones block = block_stands w o.lanes o.zones block (block_of line i g) in
      let from = (word_of line i g).from in
      let to = (word_of line i g).to in
      let inside : IsIn block i = record { from = omega arith; to = omega arith } in
      ⊎_elim (λ (run : IsRunBlock w o.lanes stands.chunk block). in_run_block w o.lanes stands.chunk i block run inside)
      (λ (whole : IsChunkBlock w o.lanes stands.chunk block). in_chunk_block w o.lanes stands.chunk i block (good_chunk w o.lanes o.zones stands.chunk none stands.in_zones) whole inside)
      stands.is

  -- a free chunk is described by 0
  undescribed : (page : ℕ) → IsPoolChunk o.lanes o.zones page → is_free_chunk (slice_index o.words) o.lanes page ≡ true → slice_index o.words (lane_descriptor o.lanes page) ≡ 0
  undescribed page chunk free =
      let high = chunk.1 in
      let found : (c : ℕ) × IsChunkOf o.lanes o.zones page c = chunk_of_page o.lanes o.zones page (omega (arith, high)) (chunk_is o.lanes page chunk.0) in
      let of : IsPageOf o.lanes page found.0 = page_of_chunk o.lanes page found.0 found.1.page_is in
      ap (slice_index o.words) of.descriptor
      ∙ free_is_zero (slice_index o.words) o.lanes o.zones found.0 none (free_by_number (slice_index o.words) o.lanes found.0 (ap (is_free_chunk (slice_index o.words) o.lanes) (sym found.1.page_is) ∙ free)) found.1.in_zones

  pub sound_of_heap : 1 ≤ o.lanes → o.lanes ≤ 32 → IsSound o
  sound_of_heap some most = record {
    some_lanes = some;
    most_lanes = most;
    size = size;
    one_guard = one_guard;
    behind_areas = behind_areas;
    within = within;
    in_blocks = in_blocks;
    undescribed = undescribed;
    apart = no_heads;
  }

  -- a guarded word is in a chunk
  pub guarded_in_chunk : (line i : ℕ) → Guards o line i → in_chunk o.lanes o.zones i ≡ true
  guarded_in_chunk line i g =
      let stands : Stands (slice_index o.words) o.lanes o.zones (block_at_line line g.lines) = block_stands (slice_index o.words) o.lanes o.zones (block_at_line line g.lines) (block_of line i g) in
      let zone : IsInZone o.lanes stands.chunk (block_at_line line g.lines) =
      in_its_zone (slice_index o.words) o.lanes stands.chunk (block_at_line line g.lines) (good_chunk (slice_index o.words) o.lanes o.zones stands.chunk none stands.in_zones) stands.is in
      let inside = word_of line i g in
      let begins = zone.begins in
      let ends = zone.ends in
      let from = inside.from in
      let to = inside.to in
      let in_zones = stands.in_zones in
      let first : ℕ = 512 + 1024 * o.lanes in
      let which : (i - first) / 33280 ≡ stands.chunk / 64 = omega arith in
      and_from (leb first i && ltb ((i - first) / 33280) o.zones) (leb 512 ((i - first) % 33280))
      (and_from (leb first i) (ltb ((i - first) / 33280) o.zones) (le-leb first i (omega arith)) (lt-ltb ((i - first) / 33280) o.zones (omega arith)))
      (le-leb 512 ((i - first) % 33280) (omega arith))
