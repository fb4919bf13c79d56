-- What a lane that is alone reserved overlaps no block of its words, and none of a pool that words hold which tell of blocks what the opening's do. So such a pool
-- may be the one before its call, where the lane's words and what it reserved bear out what that told.
use Rattle.std.proofs.Common.{◌≡◌, ◌≢◌, ◌⊎◌, inl, inr, eq-eqb, ℕ, ◌+◌, ◌*◌, ◌/◌, ◌%◌, ◌<◌, ◌≤◌, Bool, true, false, cond, eqb, not, All, Contains, List, length, slice_index, None, Some, refl, sym, ap, ◌∙◌, subst, arith}
use Rattle.std.specs.List.{list_any, range_with_len}
use Rattle.std.proofs.lemmas.Bool.{or_left}
use Rattle.std.proofs.lemmas.List.Elements.{All-contains, All-contains_itself, All-map, All-weaker}
use Rattle.pm_header.specs.declared.header.Header.{Header}
use Rattle.pm_layout.specs.Sizes.{class_of, lines_for}
use Rattle.pm_layout.specs.declared.class.Class.TheVariants.{Lines}
use Rattle.pm_objects.specs.Pool.{block_end, block_lines}
use Rattle.pm_objects.specs.declared.pool.PoolView.{PoolView}
use Rattle.pm_image.specs.declared.block.Block.{Block}
use Rattle.pm_image.specs.Blocks.{blocks, chunk_word, class_in, descriptor_word}
use Rattle.pm_image.specs.Contents.{bytes_in, object_in, objects_in, offset_in, size_in}
use Rattle.pm_image.specs.HeapFaults.{heap_fault}
use Rattle.pm_image.specs.Reads.{Reads}
use Rattle.pm_image.proofs.Pools.{GoodSize, length-bytes_in}
use Rattle.pm_image.proofs.Rooms.{lines_needed}
use Rattle.solo_model.specs.Answers.{IsBeside}
use Rattle.solo_view.specs.Blocks.{is_run, bitmap_word, zone_page}
use Rattle.solo_view.specs.Blocks.{descriptor_word as lane_descriptor}
use Rattle.solo_view.specs.Occupancy.{is_chunk_taken, reaches}
use Rattle.solo_view.specs.View.{View}
use Rattle.solo_view.specs.Views.{reserves}
use Rattle.solo_world.specs.Fits.{LaneFits}
use Rattle.solo_world.specs.History.{Entry, Flies, settled}
use Rattle.solo_world.specs.Memory.{Memory}
use Rattle.solo_world.specs.Memory.Location.{PoolWord}
use Rattle.solo_world.specs.Opening.{IsChunk, IsPoolChunk, Opening, is_free_chunk}
use Rattle.solo_world.specs.World.{Views, World}
use Rattle.solo_world.proofs.Living.{TellsOf}
use Rattle.solo_crash.specs.CallBlocks.{AgreesOnRoot, HasRoomFor, MayPrecede, NewObject, allocated_in, block_of, blocks_in}
use Rattle.solo_crash.specs.HeapChanges.{AreDisjoint, run_at}
use Rattle.solo_crash.specs.Held.{HoldsPool}
use Rattle.solo_crash.specs.Lying.{Lies}
use Rattle.solo_crash.specs.NewObjects.{block_of_chunks, block_of_run, IsChunkWord}
use Rattle.solo_crash.specs.OpenCall.{LeavesFree}
use Rattle.solo_crash.proofs.Classes.{lines_of_class}
use Rattle.solo_crash.proofs.Continued.{two_same}
use Rattle.solo_crash.proofs.UnreadBlocks.{free_in_chunk, free_unread, AreChunks, IsOneOfRun}
use Rattle.solo_crash.proofs.Apart.{size_of_block}
use Rattle.solo_crash.proofs.FoundBlocks.{IsPageOf, page_of_chunk}
use Rattle.solo_crash.proofs.LivingWords.{free_by_page, taken_same}
use Rattle.solo_crash.proofs.NewStay.{news_in}
use Rattle.solo_crash.proofs.NewRuns.{page_at, page_in_pool}
use Rattle.solo_crash.specs.OneLane.{TellsAsOpening}
use Rattle.solo_crash.specs.Reserved.{IsBorneOut, IsReservedFor, IsReservedInChunks, IsReservedInRun, IsUnusedChunk, LiesFree, root_in}
use Rattle.solo_crash.proofs.BlockPlaces.{SameTaken, each_lies, free_chunks_apart, free_run_apart, lies_still}
use Rattle.solo_crash.proofs.ReservedBlocks.{block_free, chunks_free, telling}

-- an object's block has a line at least
some_lines : (n : NewObject) → 1 ≤ (block_of n).lines
some_lines n = let needed : lines_for n.size ≤ block_lines (class_of n.size) = lines_needed n.size in omega (arith, needed)

-- the object of a block ends with it
block_ends : (w : ℕ → ℕ) (count : ℕ) (b : Block) → GoodSize w b → block_end (offset_in b, object_in w count b) ≡ b.place + 64 * b.lines
block_ends w count b good =
    let size : length (bytes_in w b) ≡ size_in w b = length-bytes_in w b in
    let lines : block_lines (class_of (length (bytes_in w b))) ≡ b.lines = ap (λ (n : ℕ). block_lines (class_of n)) size ∙ good.lines in
    omega (arith, lines)

beside_block : (w : ℕ → ℕ) (count : ℕ) (n : NewObject) (b : Block) → GoodSize w b → AreDisjoint (block_of n) b → IsBeside n.size n.off (offset_in b, object_in w count b)
beside_block w count n b good (inl before) = inl (omega (arith, before))
beside_block w count n b good (inr behind) = let ends = block_ends w count b good in inr (omega (arith, behind, ends))

module _ (o : Opening) (mem : Memory) (views : Views) (log : List Entry) (decided : ℕ → Bool) (k : ℕ) (world : World o mem views log decided) (inside : k < o.lanes)
    (sees : (i : ℕ) → mem (PoolWord i) ≡ slice_index (views k).words i) where
  abbrev v : View
  v = views k

  fits : LaneFits o mem (settled o log decided) (Flies log decided k) k v
  fits = world.each_lane k inside

  apart_in_run : (n : NewObject) (b : Block) → IsReservedInRun v n → Lies (slice_index v.words) o.lanes o.zones b → AreDisjoint (block_of n) b
  apart_in_run n b run lies =
      let lanes = fits.lane.lanes in let zones = fits.lane.zones in let in_pool = run.in_pool in
      let free = block_free o mem views log decided k world inside sees run.chunk run.lines run.index (omega (arith, in_pool, zones)) run.low
      (ap (λ m. slice_index v.words (descriptor_word m run.chunk)) (sym lanes) ∙ run.described) (ap (λ m. reserves v (run_at m run.chunk) run.index) (sym lanes) ∙ run.reserved) in
      subst (λ (x : Block). AreDisjoint x b) (sym (run.is_block ∙ ap (λ m. block_of_run m run.chunk run.lines run.index) lanes))
      (free_run_apart (slice_index v.words) o.lanes o.zones run.chunk run.lines run.index b free lies)

  apart_in_chunks : (n : NewObject) (b : Block) → IsReservedInChunks v n → Lies (slice_index v.words) o.lanes o.zones b → AreDisjoint (block_of n) b
  apart_in_chunks n b has lies =
      let lanes = fits.lane.lanes in let zones = fits.lane.zones in let in_pool = has.in_pool in
      let lines : (block_of n).lines ≡ 64 * has.count = ap (λ (x : Block). x.lines) has.is_block in
      let some = some_lines n in
      let free = chunks_free o mem views log decided k world inside sees has.zone has.first has.count (omega (arith, in_pool, zones)) has.low has.fits
      (λ j near. subst (λ m. IsUnusedChunk m v has.zone (has.first + j)) lanes (has.unused j near)) in
      subst (λ (x : Block). AreDisjoint x b) (sym (has.is_block ∙ ap (λ m. block_of_chunks m (64 * has.zone + has.first) has.count) lanes))
      (free_chunks_apart (slice_index v.words) o.lanes o.zones (64 * has.zone + has.first) has.count b (omega (arith, lines, some)) free lies)

  lies_apart : (n : NewObject) (b : Block) → IsReservedFor v n → Lies (slice_index v.words) o.lanes o.zones b → AreDisjoint (block_of n) b
  lies_apart n b (inl run) lies = apart_in_run n b run lies
  lies_apart n b (inr has) lies = apart_in_chunks n b has lies

  -- so what it reserved lies in room that its words have free
  pub reserved_free : (n : NewObject) → IsReservedFor v n → LiesFree v n
  reserved_free n reserved b lies =
      lies_apart n b reserved (two_same (λ (lanes zones : ℕ). Lies (slice_index v.words) lanes zones b) v.lanes o.lanes v.zones o.zones fits.lane.lanes fits.lane.zones lies)

  pub overlaps_none : heap_fault (slice_index v.words) o.lanes o.zones ≡ None → (n : NewObject) (b : Block) → IsReservedFor v n → Contains (blocks (slice_index v.words) o.lanes o.zones) b → AreDisjoint (block_of n) b
  overlaps_none none n b reserved there = lies_apart n b reserved (each_lies (slice_index v.words) o.lanes o.zones none b there)

  -- ---- words that tell of blocks what the opening's do describe taken chunks as these do

  module _ (w : ℕ → ℕ) (tells : TellsAsOpening o w) where
    tells_still : (page i : ℕ) → IsChunk o.lanes page → is_free_chunk (slice_index o.words) o.lanes page ≡ false → TellsOf o page i → slice_index v.words i ≡ slice_index o.words i
    tells_still page i = telling o mem views log decided k world inside sees page i

    module _ (c : ℕ) (in_pool : c < 64 * o.zones) (taken : is_chunk_taken w o.lanes (c / 64) (c % 64) ≡ true) where
      abbrev page : ℕ
      page = page_at o.lanes c

      chunk : IsPoolChunk o.lanes o.zones page
      chunk = page_in_pool o.lanes o.zones c in_pool

      of : IsPageOf o.lanes page c
      of = page_of_chunk o.lanes page c refl

      was_taken : is_free_chunk (slice_index o.words) o.lanes page ≡ false
      was_taken = free_by_page (slice_index o.words) o.lanes c ∙ ap not (sym (taken_same o w tells.blocks (c / 64) (c % 64) (omega arith)) ∙ taken)

      opening_descriptor : w (descriptor_word o.lanes c) ≡ slice_index o.words (lane_descriptor o.lanes page)
      opening_descriptor = ap w (sym of.descriptor) ∙ tells.blocks (lane_descriptor o.lanes page) (page, (chunk.0, inl refl))

      same_descriptor : slice_index v.words (descriptor_word o.lanes c) ≡ w (descriptor_word o.lanes c)
      same_descriptor = ap (slice_index v.words) (sym of.descriptor) ∙ (tells_still page (lane_descriptor o.lanes page) chunk.0 was_taken (inl refl) ∙ sym opening_descriptor)

      same_bitmap : is_run (w (descriptor_word o.lanes c)) ≡ true → slice_index v.words (chunk_word o.lanes c) ≡ w (chunk_word o.lanes c)
      same_bitmap run =
          let was_run : is_run (slice_index o.words (lane_descriptor o.lanes page)) ≡ true = ap is_run (sym opening_descriptor) ∙ run in
          ap (slice_index v.words) (sym of.bitmap)
          ∙ (tells_still page (bitmap_word page) chunk.0 was_taken (inr (refl, was_run)) ∙ (sym (tells.blocks (bitmap_word page) (page, (chunk.0, inr (refl, was_run)))) ∙ ap w of.bitmap))

    pub same_taken : SameTaken w (slice_index v.words) o.lanes o.zones
    same_taken = record { descriptor = same_descriptor; bitmap = same_bitmap }

    -- so the pool that they hold has room for what lies free
    module _ (header : Header) (pool : PoolView) (holds : HoldsPool w o.lanes o.zones header pool) where
      abbrev bs : List Block
      bs = blocks w o.lanes o.zones

      apart_each : (n : NewObject) → LiesFree v n → (b : Block) → Contains bs b → AreDisjoint (block_of n) b
      apart_each n free b there =
          free b
          (two_same (λ (lanes zones : ℕ). Lies (slice_index v.words) lanes zones b) o.lanes v.lanes o.zones v.zones (sym fits.lane.lanes) (sym fits.lane.zones)
          (lies_still w (slice_index v.words) o.lanes o.zones b same_taken (each_lies w o.lanes o.zones holds.no_fault b there)))

      beside_each : (n : NewObject) → LiesFree v n → (b : Block) → Contains bs b → IsBeside n.size n.off (offset_in b, object_in w (length bs) b)
      beside_each n free b there =
          beside_block w (length bs) n b (size_of_block w o.lanes o.zones b holds.no_fault there)
          (apart_each n free b there)

      beside_all : (n : NewObject) → LiesFree v n → All (IsBeside n.size n.off) pool.objects
      unfolding objects_in
      beside_all n free =
          subst (λ (p : PoolView). All (IsBeside n.size n.off) p.objects) (sym holds.is_pool)
          (All-map (IsBeside n.size n.off) (λ (b : Block). (offset_in b, object_in w (length bs) b)) bs
          (All-weaker (Contains bs) (λ (b : Block). IsBeside n.size n.off (offset_in b, object_in w (length bs) b)) (beside_each n free) bs (All-contains_itself bs)))

      room : (news : List NewObject) → All (LiesFree v) news → HasRoomFor pool news
      room news free = All-weaker (LiesFree v) (λ (n : NewObject). All (IsBeside n.size n.off) pool.objects) beside_all news free

      -- and it may be the one before the lane's call, whose words have the opening's root
      pub may_precede : slice_index v.words 64 ≡ slice_index o.words 64 → IsBorneOut v → MayPrecede pool v
      may_precede same_root borne_out =
          let root : pool.root ≡ root_in (slice_index v.words) = ap (λ (p : PoolView). p.root) holds.is_pool ∙ ap (λ n. cond (eqb n 0) None (Some n)) (tells.root ∙ sym same_root) in
          record { room = room (allocated_in v) borne_out.free; root = subst (AgreesOnRoot v) (sym root) borne_out.root }

      -- what it reserved is free by them: a chunk of it that they took would have a descriptor
      plain_chunk : (zone chunk lines : ℕ) → zone < o.zones → chunk < 64 → slice_index v.words (descriptor_word o.lanes (64 * zone + chunk)) ≡ 0 → class_in (w (descriptor_word o.lanes (64 * zone + chunk))) ≢ Some (Lines lines)
      plain_chunk zone chunk lines in_pool low none run =
          let c : ℕ = 64 * zone + chunk in
          let one : w (descriptor_word o.lanes c) % 256 ≡ 1 = (lines_of_class (w (descriptor_word o.lanes c)) lines run).0 in
          let word : 512 * zone_page o.lanes (c / 64) + c % 64 ≡ descriptor_word o.lanes c = omega arith in
          let is : is_run (w (512 * zone_page o.lanes (c / 64) + c % 64)) ≡ true = ap (λ (i : ℕ). is_run (w i)) word ∙ eq-eqb (w (descriptor_word o.lanes c) % 256) 1 one in
          let taken : is_chunk_taken w o.lanes (c / 64) (c % 64) ≡ true =
          or_left (is_run (w (512 * zone_page o.lanes (c / 64) + c % 64))) (list_any (reaches w o.lanes (c / 64) (c % 64)) (range_with_len 0 (c % 64 + 1))) is in
          let zero : w (descriptor_word o.lanes c) ≡ 0 = sym (same_descriptor c (omega (arith, in_pool, low)) taken) ∙ none in
          omega (arith, one, zero)

      place_of : (n : NewObject) → IsReservedFor v n → IsOneOfRun o.lanes o.zones (block_of n) ⊎ AreChunks w o.lanes o.zones (block_of n)
      place_of n (inl run) =
          let lanes = fits.lane.lanes in let zones = fits.lane.zones in let in_pool = run.in_pool in
          let free = block_free o mem views log decided k world inside sees run.chunk run.lines run.index (omega (arith, in_pool, zones)) run.low
          (ap (λ m. slice_index v.words (descriptor_word m run.chunk)) (sym lanes) ∙ run.described) (ap (λ m. reserves v (run_at m run.chunk) run.index) (sym lanes) ∙ run.reserved) in
          inl (record { chunk = run.chunk; lines = run.lines; index = run.index; in_zones = omega (arith, in_pool, zones); inside = free.inside; is = run.is_block ∙ ap (λ m. block_of_run m run.chunk run.lines run.index) lanes })
      place_of n (inr has) =
          let lanes = fits.lane.lanes in let zones = fits.lane.zones in let in_pool = has.in_pool in let whole = has.fits in
          let in_zones : has.zone < o.zones = omega (arith, in_pool, zones) in
          inr (record {
            zone = has.zone;
            first = has.first;
            count = has.count;
            in_zones = in_zones;
            low = has.low;
            fits = has.fits;
            is = has.is_block ∙ ap (λ m. block_of_chunks m (64 * has.zone + has.first) has.count) lanes;
            plain = λ j lines near.
                plain_chunk has.zone (has.first + j) lines in_zones (omega (arith, near, whole))
                (ap (λ m. slice_index v.words (descriptor_word m (64 * has.zone + (has.first + j)))) (sym lanes) ∙ (has.unused j near).undescribed);
          })

      pub leaves_free : IsBorneOut v → (n : NewObject) → Contains (news_in (blocks_in v)) n → LeavesFree v w n
      leaves_free borne_out n there =
          let lanes = fits.lane.lanes in let zones = fits.lane.zones in
          let reserved : IsReservedFor v n = All-contains (IsReservedFor v) (news_in (blocks_in v)) n borne_out.made there in
          record {
            in_chunks = λ i word. two_same (λ (a b : ℕ). IsChunkWord a b i) o.lanes v.lanes o.zones v.zones (sym lanes) (sym zones)
                (free_in_chunk w o.lanes o.zones (block_of n) (place_of n reserved) holds.no_fault (apart_each n (reserved_free n reserved)) i word);
            unread = λ i word. two_same (λ (a b : ℕ). ¬ Reads w a b i) o.lanes v.lanes o.zones v.zones (sym lanes) (sym zones)
                (free_unread w o.lanes o.zones (block_of n) (place_of n reserved) holds.no_fault (apart_each n (reserved_free n reserved)) i word);
          }
