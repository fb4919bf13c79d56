-- EVERY SURVIVING IMAGE MEANS THE REPLAY of the calls that it keeps, and its blocks are its objects'.
use Rattle.std.proofs.Common.{◌≡◌, ◌≢◌, ◌⊎◌, ⊎_elim, inl, inr, ℕ, ◌+◌, ◌-◌, ◌*◌, ◌/◌, ◌%◌, ◌<◌, ◌≤◌, nat_le, nat_lt, not, ne_eqb, ◌==◌, ◌&&◌, true, false, List, [], ◌∷◌, length, map, take, drop, None, refl, sym, ap, ◌∙◌, subst, arith}
use Rattle.std.specs.Prelude.{slice_index}
use Rattle.std.specs.Option.{option_or}
use Rattle.std.specs.List.{Contains}
use Rattle.std.proofs.lemmas.Bool.{and_from, both_ways, cases_Bool, cond-false, lt-ltb, false_from_ne_true, leb-true, and_parts, or_left}
use Rattle.std.proofs.lemmas.List.{ext_get_or, get_or-drop, get_or-take, length-drop, length-take}
use Rattle.pm_header.specs.declared.header.Header.{Header}
use Rattle.pm_header.specs.Pairs.{IsPairOf}
use Rattle.pm_layout.specs.Areas.{redo_entries, undo_slots, word_of_entry, word_of_generation, word_of_seal, line_of_slot}
use Rattle.pm_layout.specs.Chunks.{is_chunk_page, is_descriptor_word, is_in_zone, page_in_zone, page_of_zone, word_of_root, words_of}
use Rattle.pm_layout.specs.Sizes.{class_of}
use Rattle.pm_layout.specs.declared.shape.Shape.{Shape}
use Rattle.pm_objects.specs.Pool.{block_lines}
use Rattle.pm_objects.specs.declared.pool.PoolView.{PoolView}
use Rattle.pm_image.specs.declared.block.Block.{Block}
use Rattle.pm_image.specs.Blocks.{blocks}
use Rattle.pm_image.specs.Contents.{bytes_in, object_in, objects_in, offset_in}
use Rattle.pm_image.specs.HeapFaults.{heap_fault}
use Rattle.pm_image.specs.Logs.{recovered_at}
use Rattle.pm_image.specs.Means.{HasHeader, IsMeaning, page}
use Rattle.pm_image.proofs.FaultFree.{block_good}
use Rattle.pm_image.proofs.Members.{first_member, later_member}
use Rattle.pm_image.proofs.Pools.{good_size, length-bytes_in, meaning_is_pool}
use Rattle.pm_view.specs.Log.{Phase, Idle, Open, Drawn, Sealing, Applying, Clearing, Retiring, Voiding, is_early}
use Rattle.pm_view.specs.Parts.{OtherPart, is_entry_word, is_slot_word, part_of}
use Rattle.pm_world.specs.Lanes.{flies_at}
use Rattle.pm_world.specs.Logs.{AreaChange}
use Rattle.pm_world.specs.Memory.{Memory, PoolWord}
use Rattle.pm_world.specs.Crash.{Survives, is_decided_in, is_kept}
use Rattle.pm_world.specs.World.{Opening, Views, Past, World, is_header}
use Rattle.pm_world.proofs.CrashClashes.{no_log_fault}
use Rattle.pm_world.proofs.SurvivingWords.{whole_left, Taken, no_other}
use Rattle.pm_crash.specs.Held.{HoldsPool}
use Rattle.pm_crash.specs.Images.{block_for}
use Rattle.pm_crash.specs.Laws.{AnsweredAreKept, ImagesMeanReplays}
use Rattle.pm_crash.specs.Replayed.{HoldsReplay}
use Rattle.pm_crash.proofs.HeldAlike.{held_alike}
use Rattle.pm_crash.proofs.KeptImage.{image_heap}
use Rattle.pm_crash.proofs.Replaying.{history_holds}

-- ---- BLOCKS ARE OBJECTS' BLOCKS

-- the block of the object that stands in a block is that block
block_is : (w : ℕ → ℕ) (lanes zones count : ℕ) (block : Block) → heap_fault w lanes zones ≡ None → Contains (blocks w lanes zones) block
    → block_for (offset_in block, object_in w count block) ≡ block
block_is w lanes zones count block none there =
    let place : block.place + 64 - 64 ≡ block.place = omega arith in
    let lines : block_lines (class_of (length (bytes_in w block))) ≡ block.lines =
    ap (λ n. block_lines (class_of n)) (length-bytes_in w block) ∙ (good_size w block (block_good w lanes zones block none there)).lines in
    λ i. record { place = place i; lines = lines i }

blocks_are : (w : ℕ → ℕ) (lanes zones count : ℕ) (bs : List Block) → heap_fault w lanes zones ≡ None → ((block : Block) → Contains bs block → Contains (blocks w lanes zones) block)
    → map block_for (map (λ block. (offset_in block, object_in w count block)) bs) ≡ bs
blocks_are w lanes zones count [] none h = refl
blocks_are w lanes zones count (b ∷ bs) none h =
    let here = block_is w lanes zones count b none (h b (first_member b bs)) in
    let rest = blocks_are w lanes zones count bs none (λ c there. h c (later_member b bs c there)) in
    λ i. here i ∷ rest i

blocks_of_objects : (w : ℕ → ℕ) (lanes zones : ℕ) → heap_fault w lanes zones ≡ None → map block_for (objects_in w (blocks w lanes zones)) ≡ blocks w lanes zones
unfolding objects_in
blocks_of_objects w lanes zones none = blocks_are w lanes zones (length (blocks w lanes zones)) (blocks w lanes zones) none (λ block there. there)

-- ---- THE HEADER PAGE

-- a header word is no lane's
header_part : (sh : Shape) (k w : ℕ) → k < sh.lanes → w < 512 → w ≢ 64 → part_of sh k w ≡ OtherPart
header_part sh k w ink l ne = let no_zone : is_in_zone sh (w / 512) ≡ false = false_from_ne_true (is_in_zone sh (w / 512)) (λ t. let z = leb-true (page_of_zone sh 0) (w / 512) (and_parts (nat_le (page_of_zone sh 0) (w / 512)) (nat_lt (w / 512) (page_of_zone sh sh.zones)) t).0 in omega arith) in
    cond-false (w == word_of_generation sh k) _ _ (ne_eqb w (word_of_generation sh k) (λ q. omega arith)) ∙ (cond-false (w == word_of_seal sh k) _ _ (ne_eqb w (word_of_seal sh k) (λ q. omega arith))
    ∙ (cond-false (is_entry_word sh k w) _ _ (false_from_ne_true (is_entry_word sh k w) (λ t. let y = leb-true (word_of_entry sh k 0) w (and_parts (nat_le (word_of_entry sh k 0) w) (nat_lt w (word_of_entry sh k (redo_entries sh))) t).0 in omega arith))
    ∙ (cond-false (is_slot_word sh k w) _ _ (false_from_ne_true (is_slot_word sh k w) (λ t. let y = leb-true (8 * line_of_slot sh k 0) w (and_parts (nat_le (8 * line_of_slot sh k 0) w) (nat_lt w (8 * line_of_slot sh k (undo_slots sh))) t).0 in omega arith))
    ∙ (cond-false (w == word_of_root sh) _ _ (ne_eqb w (word_of_root sh) ne)
    ∙ (cond-false (is_descriptor_word sh w) _ _ (ap (λ t. t && (page_in_zone sh (w / 512) == 0) && nat_lt (w % 512) 64) no_zone)
    ∙ cond-false (is_chunk_page sh (w / 512)) _ _ (ap (λ t. t && nat_le 1 (page_in_zone sh (w / 512))) no_zone))))))

module _ (o : Opening) (mem : Memory) (views : Views) (g : Past) (x : World o mem views g) (image : List ℕ) (sv : Survives o mem views image) where
  -- a word of the header page but the root's survives as it was
  word_stays : (w : ℕ) → w < 512 → w ≢ 64 → slice_index image w ≡ slice_index o.words w
  word_stays w l ne =
      let s = x.size in
      let is : is_header o.shape w ≡ true = and_from (nat_lt w 512) (not (w == word_of_root o.shape)) (lt-ltb w 512 l) (ap not (ne_eqb w (word_of_root o.shape) ne)) in
      let same : slice_index image w ≡ mem (PoolWord w) = ⊎_elim (λ z. z) (λ (t : Taken o mem views g x image sv w). absurd (let i = t.of_lane in let m = x.most_lanes in
      no_other (views t.lane).log.phase (length (views t.lane).log.entries) (views t.lane).log.generation t.seen
      (subst (λ p. AreaChange (views t.lane).log.phase (length (views t.lane).log.entries) (views t.lane).log.generation p t.seen) (header_part o.shape t.lane w (omega arith) l ne) t.is))) (whole_left o mem views g x image sv w (omega arith)) in
      same ∙ x.header w is

  -- so many words of it from one on, before or after the root's
  words_stay : (from : ℕ) → from + 16 ≤ 512 → (64 < from) ⊎ (from + 16 ≤ 64) → take 16 (drop from (page image)) ≡ take 16 (drop from (page o.words))
  words_stay from most aside =
      let s = x.size in
      let t = sv.size in
      let long : (words : List ℕ) → length words ≡ words_of o.shape → length (take 16 (drop from (take 512 words))) ≡ 16 = λ words e.
      let a = length-take 512 words in let b = length-drop from (take 512 words) in let c = length-take 16 (drop from (take 512 words)) in omega (arith, a, b, c) in
      let at : (words : List ℕ) (i : ℕ) → i < 16 → slice_index (take 16 (drop from (take 512 words))) i ≡ slice_index words (from + i) = λ words i l.
      get_or-take 16 (drop from (take 512 words)) i 0 l ∙ (get_or-drop from (take 512 words) i 0 ∙ get_or-take 512 words (from + i) 0 (omega arith)) in
      ext_get_or 0 (take 16 (drop from (page image))) (take 16 (drop from (page o.words))) (long image (t ∙ s) ∙ sym (long o.words s))
      (λ i l. let low : i < 16 = omega (arith, long image (t ∙ s)) in
      at image i low ∙ (word_stays (from + i) (omega arith) (λ e. ⊎_elim (λ (q : 64 < from). omega arith) (λ (q : from + 16 ≤ 64). omega arith) aside) ∙ sym (at o.words i low)))

  header_stays : (header : Header) → HasHeader o.words o.shape.lanes o.shape.zones header → HasHeader image o.shape.lanes o.shape.zones header
  header_stays header has = record {
    has_shape = record { shape = has.has_shape.shape; size = has.has_shape.size ∙ ap (λ (n : ℕ). 8 * n) (sym sv.size) };
    header_in = record {
      version = has.header_in.version;
      main = subst (λ words. IsPairOf words header) (sym (words_stay 0 (omega arith) (inr (omega arith)))) has.header_in.main;
      copy = subst (λ words. IsPairOf words header) (sym (words_stay 256 (omega arith) (inl (omega arith)))) has.header_in.copy;
    };
  }

-- ---- THE LAW

pub images : ImagesMeanReplays
unfolding heap_fault
images o mem views g header pool image x fp classes facts opens sv torn =
    let held : HoldsReplay o g (is_kept o views g image) g.length header pool =
    history_holds o views g header pool fp facts opens (is_kept o views g image)
    (λ n l e. or_left (g.decided n) (is_decided_in image views o.lanes n) e) g.length (omega arith) in
    let heap = image_heap o mem views g x image sv torn classes held.holds.no_fault in
    let holds : HoldsPool (recovered_at image o.shape.lanes) o.shape.lanes o.shape.zones header held.last =
    held_alike _ (recovered_at image o.shape.lanes) o.shape.lanes o.shape.zones header held.last held.holds heap in
    let means : IsMeaning image held.last = record {
      lanes = o.shape.lanes;
      zones = o.shape.zones;
      header = header;
      has_header = header_stays o mem views g x image sv header opens.has_header;
      fits = opens.fits;
      no_fault = λ i. option_or (no_log_fault o mem views g x image sv torn i) (holds.no_fault i);
      is_pool = holds.is_pool;
    } in
    record {
      last = held.last;
      replay = held.replay;
      means = means;
      blocks = sym (ap (λ (p : PoolView). map block_for p.objects) holds.is_pool
          ∙ blocks_of_objects (recovered_at image o.shape.lanes) o.shape.lanes o.shape.zones holds.no_fault);
      apart = meaning_is_pool image held.last means;
    }

-- ---- ANSWERED CALLS

early_grounded : (ph : Phase) (n : ℕ) → is_early ph ≡ true → flies_at ph n → ⊥
early_grounded Idle n e f = f
early_grounded Open n e f = f
early_grounded (Drawn m) n e f = both_ways false refl e
early_grounded (Sealing m) n e f = both_ways false refl e
early_grounded (Applying todo) n e f = f
early_grounded Clearing n e f = f
early_grounded (Retiring m) n e f = both_ways false refl e
early_grounded Voiding n e f = f

pub answered : AnsweredAreKept
answered o mem views g image x n l early = ⊎_elim
    (λ (t : g.decided n ≡ true). or_left (g.decided n) (is_decided_in image views o.lanes n) t)
    (λ (t : g.decided n ≡ false). absurd (early_grounded (views (g.drew n).fixed.lane).log.phase n early (x.bits.flying n l t)))
    (cases_Bool (g.decided n))
