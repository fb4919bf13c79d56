-- What a lane that works alone found under its locks lies apart from what it reserved: by words, and by whole blocks.
use Rattle.std.proofs.Common.{◌≡◌, ℕ, ◌+◌, ◌*◌, ◌/◌, ◌%◌, ◌<◌, ◌≤◌, true, false, not, ◌&&◌, IsTrue, is_some, All, Contains, List, None, Option, Some, slice_index, inl, inr, refl, sym, ap, ◌∙◌, subst, arith}
use Rattle.std.specs.List.{list_any}
use Rattle.std.specs.Option.{IfSome}
use Rattle.std.proofs.lemmas.Bool.{and_parts, false≢true}
use Rattle.std.proofs.lemmas.List.Elements.{All-contains}
use Rattle.std.proofs.lemmas.List.Folds.{Any-from_list_any}
use Rattle.pm_header.specs.declared.header.Header.{Header}
use Rattle.pm_layout.specs.Sizes.{class_of, lines_for}
use Rattle.pm_objects.specs.Pool.{block_lines}
use Rattle.pm_objects.specs.declared.pool.PoolView.{PoolView}
use Rattle.pm_image.specs.declared.block.Block.{Block}
use Rattle.pm_image.specs.Blocks.{blocks, chunk_word, descriptor_word}
use Rattle.pm_image.specs.Contents.{size_in}
use Rattle.pm_image.specs.HeapFaults.{heap_fault}
use Rattle.pm_image.proofs.Rooms.{lines_needed}
use Rattle.solo_view.specs.Blocks.{bitmap_word, block_at, is_run}
use Rattle.solo_view.specs.Blocks.{descriptor_word as lane_descriptor}
use Rattle.solo_view.specs.Held.{is_reserved, is_under, is_under_found}
use Rattle.solo_view.specs.Occupancy.{is_chunk_taken, is_in_block}
use Rattle.solo_view.specs.Rights.{is_written}
use Rattle.solo_view.specs.Steps.{Step}
use Rattle.solo_view.specs.View.{Lock, View}
use Rattle.solo_view.specs.Views.{reserves}
use Rattle.solo_world.specs.Fits.{LaneFits, LockFits}
use Rattle.solo_world.specs.History.{Flies, settled}
use Rattle.solo_world.specs.Opening.{Guards, IsPoolChunk, Opening, is_free_chunk}
use Rattle.solo_world.proofs.Reserved.{reserved_apart}
use Rattle.solo_crash.specs.Alone.{WorksAlone}
use Rattle.solo_crash.specs.CallBlocks.{NewObject, block_of}
use Rattle.solo_crash.specs.HeapChanges.{AreDisjoint, run_at}
use Rattle.solo_crash.specs.Lying.{Lies}
use Rattle.solo_crash.specs.NewObjects.{AreFreeChunks, IsFreeInRun, block_of_chunks, block_of_run}
use Rattle.solo_crash.specs.OpenCall.{block_at_line}
use Rattle.solo_crash.specs.Reserved.{IsReservedFor, IsReservedInChunks, IsReservedInRun, IsUnusedChunk}
use Rattle.solo_crash.proofs.AloneCourse.{StandsAlone, begins_clean, begins_holds}
use Rattle.solo_crash.proofs.AloneMemory.{memory_of}
use Rattle.solo_crash.proofs.Apart.{size_of_block}
use Rattle.solo_crash.proofs.BlockPlaces.{SameTaken, each_lies, free_chunks_apart, free_run_apart, lies_still}
use Rattle.solo_crash.proofs.BorneOut.{free_chunks, free_run}
use Rattle.solo_crash.proofs.CleanWords.{clean_words_hold}
use Rattle.solo_crash.proofs.FoundBlocks.{IsPageOf, found_of_words, page_of_chunk}
use Rattle.solo_crash.proofs.LivingWords.{free_by_page}
use Rattle.solo_crash.proofs.NewRuns.{page_at, page_in_pool}
use Rattle.solo_crash.proofs.SoundPools.{telling_word}
use Rattle.solo_epoch.proofs.StandingPools.{own_fits}

-- under each of these locks a block was found
abbrev pub AllFound : List Lock → Type 0
AllFound locks = All (λ (l : Lock). IsTrue (is_some l.block)) locks

-- an object's block has a line at least
pub block_has_lines : (n : NewObject) → 1 ≤ (block_of n).lines
block_has_lines n = let needed : lines_for n.size ≤ block_lines (class_of n.size) = lines_needed n.size in omega (arith, needed)

module _ (o : Opening) (header : Header) (pool : PoolView) (b : View) (s : StandsAlone o header pool b) where
  fits : LaneFits o (memory_of b) (settled o s.log s.decided) (Flies s.log s.decided 0) 0 b
  fits = own_fits o header pool b s

  -- a block that it found under a lock is one of the opening's
  pub found_at_opening : (l : Lock) (lines : ℕ) → Contains b.locks l → l.block ≡ Some lines → block_at o.lanes o.words l.line ≡ Some lines
  found_at_opening l lines there is =
      let found = (All-contains (LockFits o (memory_of b) 0) b.locks l fits.locks there).found in
      subst (λ (block : Option ℕ). IfSome block (λ n. block_at o.lanes o.words l.line ≡ Some n)) is found

  guarded : (i line : ℕ) (block : Option ℕ) → IsTrue (is_some block) → IfSome block (λ n. block_at o.lanes o.words line ≡ Some n) → is_under_found line block i ≡ true → Guards o line i
  guarded i line None some found under = absurd (false≢true some)
  guarded i line (Some lines) some found under = record { lines = lines; block = found; inside = under }

  -- a word under one of its locks lies in a block of the opening
  pub locked_in_block : AllFound b.locks → (i : ℕ) → list_any (is_under i) b.locks ≡ true → is_in_block (slice_index o.words) o.lanes i ≡ true
  locked_in_block all i under =
      let t = Any-from_list_any (is_under i) b.locks under in
      let l : Lock = t.1 in
      let there : Contains b.locks l = (t.0, t.2, t.3) in
      s.goes.world.sound.in_blocks l.line i
      (guarded i l.line l.block (All-contains (λ (m : Lock). IsTrue (is_some m.block)) b.locks l all there) (All-contains (LockFits o (memory_of b) 0) b.locks l fits.locks there).found t.4)

  -- so does one that it may write under a lock
  pub written_in_block : (i : ℕ) → is_written b i ≡ true → is_in_block (slice_index o.words) o.lanes i ≡ true
  written_in_block i own =
      let t = Any-from_list_any (λ (l : Lock). l.write && is_some l.block && is_under i l) b.locks own in
      let l : Lock = t.1 in
      let parts = and_parts (l.write && is_some l.block) (is_under i l) t.4 in
      let found = (All-contains (LockFits o (memory_of b) 0) b.locks l fits.locks (t.0, t.2, t.3)).found in
      s.goes.world.sound.in_blocks l.line i (guarded i l.line l.block (and_parts l.write (is_some l.block) parts.0).1 found parts.1)

  -- and what it reserved lies in none
  pub reserved_in_none : (i : ℕ) → is_reserved b i ≡ true → is_in_block (slice_index o.words) o.lanes i ≡ true → ⊥
  reserved_in_none i own = (reserved_apart o (memory_of b) b i fits.lane.lanes fits.blocks own).outside

  -- ---- whole blocks

  module _ (c : ℕ) (in_pool : c < 64 * o.zones) (taken : is_chunk_taken (slice_index o.words) o.lanes (c / 64) (c % 64) ≡ true) where
    abbrev page : ℕ
    page = page_at o.lanes c

    chunk : IsPoolChunk o.lanes o.zones page
    chunk = page_in_pool o.lanes o.zones c in_pool

    of : IsPageOf o.lanes page c
    of = page_of_chunk o.lanes page c refl

    was_taken : is_free_chunk (slice_index o.words) o.lanes page ≡ false
    was_taken = free_by_page (slice_index o.words) o.lanes c ∙ ap not taken

    descriptor_same : slice_index b.words (descriptor_word o.lanes c) ≡ slice_index o.words (descriptor_word o.lanes c)
    descriptor_same = ap (slice_index b.words) (sym of.descriptor) ∙ (telling_word o header pool b s page (lane_descriptor o.lanes page) chunk.0 was_taken (inl refl) ∙ ap (slice_index o.words) of.descriptor)

    bitmap_same : is_run (slice_index o.words (descriptor_word o.lanes c)) ≡ true → slice_index b.words (chunk_word o.lanes c) ≡ slice_index o.words (chunk_word o.lanes c)
    bitmap_same run =
        let was_run : is_run (slice_index o.words (lane_descriptor o.lanes page)) ≡ true = ap (λ i. is_run (slice_index o.words i)) of.descriptor ∙ run in
        ap (slice_index b.words) (sym of.bitmap) ∙ (telling_word o header pool b s page (bitmap_word page) chunk.0 was_taken (inr (refl, was_run)) ∙ ap (slice_index o.words) of.bitmap)

  pub taken_same : SameTaken (slice_index o.words) (slice_index b.words) o.lanes o.zones
  taken_same = record { descriptor = descriptor_same; bitmap = bitmap_same }

  pub reserved_run : (n : NewObject) → (run : IsReservedInRun b n) → IsFreeInRun (slice_index b.words) o.lanes o.zones run.chunk run.lines run.index
  reserved_run n run =
      let lanes = fits.lane.lanes in let zones = fits.lane.zones in let in_pool = run.in_pool in
      free_run o header pool b s run.chunk run.lines run.index (omega (arith, in_pool, zones)) run.low
      (ap (λ m. slice_index b.words (descriptor_word m run.chunk)) (sym lanes) ∙ run.described) (ap (λ m. reserves b (run_at m run.chunk) run.index) (sym lanes) ∙ run.reserved)

  pub reserved_chunks : (n : NewObject) → (has : IsReservedInChunks b n) → AreFreeChunks (slice_index b.words) o.lanes o.zones (64 * has.zone + has.first) has.count
  reserved_chunks n has =
      let lanes = fits.lane.lanes in let zones = fits.lane.zones in let in_pool = has.in_pool in
      free_chunks o header pool b s has.zone has.first has.count (omega (arith, in_pool, zones)) has.low has.fits (λ j near. subst (λ m. IsUnusedChunk m b has.zone (has.first + j)) lanes (has.unused j near))

  pub run_block_is : (n : NewObject) → (run : IsReservedInRun b n) → block_of n ≡ block_of_run o.lanes run.chunk run.lines run.index
  run_block_is n run = run.is_block ∙ ap (λ m. block_of_run m run.chunk run.lines run.index) fits.lane.lanes

  pub chunks_block_is : (n : NewObject) → (has : IsReservedInChunks b n) → block_of n ≡ block_of_chunks o.lanes (64 * has.zone + has.first) has.count
  chunks_block_is n has = has.is_block ∙ ap (λ m. block_of_chunks m (64 * has.zone + has.first) has.count) fits.lane.lanes

  pub some_count : (n : NewObject) → (has : IsReservedInChunks b n) → 1 ≤ has.count
  some_count n has = let lines : (block_of n).lines ≡ 64 * has.count = ap (λ (x : Block). x.lines) has.is_block in let some = block_has_lines n in omega (arith, lines, some)

  lies_apart : (n : NewObject) (x : Block) → IsReservedFor b n → Lies (slice_index b.words) o.lanes o.zones x → AreDisjoint (block_of n) x
  lies_apart n x (inl run) lies =
      subst (λ (y : Block). AreDisjoint y x) (sym (run_block_is n run)) (free_run_apart (slice_index b.words) o.lanes o.zones run.chunk run.lines run.index x (reserved_run n run) lies)
  lies_apart n x (inr has) lies =
      subst (λ (y : Block). AreDisjoint y x) (sym (chunks_block_is n has)) (free_chunks_apart (slice_index b.words) o.lanes o.zones (64 * has.zone + has.first) has.count x (some_count n has) (reserved_chunks n has) lies)

  module _ (none : heap_fault (slice_index o.words) o.lanes o.zones ≡ None) where
    found_block : (l : Lock) (lines : ℕ) → Contains b.locks l → l.block ≡ Some lines → Contains (blocks (slice_index o.words) o.lanes o.zones) (block_at_line l.line lines)
    found_block l lines there is = let size = s.goes.world.sound.size in (found_of_words o.words o.lanes o.zones l.line lines none (omega (arith, size))).0 (found_at_opening l lines there is)

    -- and so it lies by the lane's words
    pub found_lies : (l : Lock) (lines : ℕ) → Contains b.locks l → l.block ≡ Some lines → Lies (slice_index b.words) o.lanes o.zones (block_at_line l.line lines)
    found_lies l lines there is =
        lies_still (slice_index o.words) (slice_index b.words) o.lanes o.zones (block_at_line l.line lines) taken_same (each_lies (slice_index o.words) o.lanes o.zones none (block_at_line l.line lines) (found_block l lines there is))

    -- a block of the opening's words has a line at least, and none that it reserved overlaps it
    pub opening_has_lines : (x : Block) → Contains (blocks (slice_index o.words) o.lanes o.zones) x → 1 ≤ x.lines
    opening_has_lines x there =
        let size : ℕ = size_in (slice_index o.words) x in
        let lines_are : block_lines (class_of size) ≡ x.lines = (size_of_block (slice_index o.words) o.lanes o.zones x none there).lines in
        let needed : lines_for size ≤ block_lines (class_of size) = lines_needed size in
        omega (arith, lines_are, needed)

    pub opening_apart : (n : NewObject) → IsReservedFor b n → (x : Block) → Contains (blocks (slice_index o.words) o.lanes o.zones) x → AreDisjoint (block_of n) x
    opening_apart n reserved x there =
        lies_apart n x reserved (lies_still (slice_index o.words) (slice_index b.words) o.lanes o.zones x taken_same (each_lies (slice_index o.words) o.lanes o.zones none x there))

    pub found_has_lines : (l : Lock) (lines : ℕ) → Contains b.locks l → l.block ≡ Some lines → 1 ≤ lines
    found_has_lines l lines there is = opening_has_lines (block_at_line l.line lines) (found_block l lines there is)

    pub found_apart : (n : NewObject) → IsReservedFor b n → (l : Lock) (lines : ℕ) → Contains b.locks l → l.block ≡ Some lines → AreDisjoint (block_of n) (block_at_line l.line lines)
    found_apart n reserved l lines there is = opening_apart n reserved (block_at_line l.line lines) (found_block l lines there is)

-- the words at the opening have no fault
pub opening_has_no_fault : (o : Opening) (header : Header) (pool : PoolView) (start b : View) (steps : List Step) → WorksAlone o header pool start steps b → heap_fault (slice_index o.words) o.lanes o.zones ≡ None
opening_has_no_fault o header pool start b steps works =
    let held = begins_holds o header pool start works.begins in
    (clean_words_hold o header held.0 held.1 (begins_clean o header pool start works.begins)).no_fault
