-- Within one world the same blocks lie by the words of each view of a lane that works alone: those of the opening. So what lies in room that the one view's words have
-- free does by the other's.
use Rattle.std.proofs.Common.{◌≡◌, ⊎_elim, ℕ, List, ◌+◌, ◌*◌, ◌/◌, ◌%◌, ◌<◌, true, false, cond, not, slice_index, refl, sym, ap, ◌∙◌, subst, arith, eq-eqb}
use Rattle.std.specs.Int.{bit_at}
use Rattle.std.proofs.lemmas.Bool.{cases_Bool, cond-false, cond-true, false≢true}
use Rattle.std.proofs.lemmas.Nat.Bits.{bit_at-zero}
use Rattle.pm_header.specs.declared.header.Header.{Header}
use Rattle.pm_objects.specs.declared.pool.PoolView.{PoolView}
use Rattle.pm_image.specs.declared.block.Block.{Block}
use Rattle.pm_image.specs.Blocks.{chunk_word, descriptor_word}
use Rattle.solo_view.specs.Blocks.{is_run}
use Rattle.solo_view.specs.Occupancy.{is_chunk_taken}
use Rattle.solo_view.specs.Steps.{Step}
use Rattle.solo_view.specs.View.{View}
use Rattle.solo_world.specs.Fits.{LaneFits}
use Rattle.solo_world.specs.Heap.{AreNewRuns}
use Rattle.solo_world.specs.History.{Flies, settled}
use Rattle.solo_world.specs.Opening.{Opening}
use Rattle.solo_crash.specs.Alone.{WorksAlone}
use Rattle.solo_crash.specs.CallBlocks.{NewObject}
use Rattle.solo_crash.specs.FreeWords.{IsEmptyRun}
use Rattle.solo_crash.specs.Lying.{InARun, Lies, OfChunks}
use Rattle.solo_crash.specs.Reserved.{IsReservedFor, LiesFree}
use Rattle.solo_crash.proofs.AloneCourse.{StandsAlone}
use Rattle.solo_crash.proofs.AloneMemory.{memory_of}
use Rattle.solo_crash.proofs.BlockPlaces.{lies_still, numbered_taken, SameTaken}
use Rattle.solo_crash.proofs.BorneOut.{lies_free, stood}
use Rattle.solo_crash.proofs.Continued.{two_same}
use Rattle.solo_crash.proofs.LivingWords.{free_by_page}
use Rattle.solo_crash.proofs.NewRuns.{none_by_number, page_at, page_in_pool}
use Rattle.solo_crash.proofs.RoomForReserved.{same_taken}

-- ---- by words that describe what was taken at the opening as that did, and by which what was free then has no block

module _ (o : Opening) (w : ℕ → ℕ) (same : SameTaken (slice_index o.words) w o.lanes o.zones) (new : AreNewRuns o w) where
  abbrev opening : ℕ → ℕ
  opening = slice_index o.words

  -- a chunk where a block lies was taken
  taken_there : (c : ℕ) → c < 64 * o.zones → (w (descriptor_word o.lanes c) ≡ 0 → ⊥) → (IsEmptyRun w o.lanes c → ⊥) → is_chunk_taken opening o.lanes (c / 64) (c % 64) ≡ true
  taken_there c in_pool described blocks = ⊎_elim
      (λ (taken : is_chunk_taken opening o.lanes (c / 64) (c % 64) ≡ true). taken)
      (λ (free : is_chunk_taken opening o.lanes (c / 64) (c % 64) ≡ false).
      absurd (⊎_elim described blocks (none_by_number w o.lanes c (new (page_at o.lanes c) (page_in_pool o.lanes o.zones c in_pool) (free_by_page opening o.lanes c ∙ ap not free)))))
      (cases_Bool (is_chunk_taken opening o.lanes (c / 64) (c % 64)))

  -- so each block that lies by the words lay at the opening
  lay_at_opening : (b : Block) → Lies w o.lanes o.zones b → Lies opening o.lanes o.zones b
  lay_at_opening b (InARun c lines index in_pool run set is) =
      let described = run.described in
      let taken = taken_there c in_pool (λ zero. omega (arith, described, zero))
      (λ empty. let none : bit_at (w (chunk_word o.lanes c)) index ≡ 0 = ap (λ (x : ℕ). bit_at x index) empty.no_block ∙ bit_at-zero index in omega (arith, none, set)) in
      let was : opening (descriptor_word o.lanes c) ≡ 1 + 256 * lines = sym (same.descriptor c in_pool taken) ∙ described in
      let run_there : is_run (opening (descriptor_word o.lanes c)) ≡ true = eq-eqb (opening (descriptor_word o.lanes c) % 256) 1 (omega (arith, was)) in
      InARun c lines index in_pool (record { inside = run.inside; described = was }) (ap (λ (x : ℕ). bit_at x index) (sym (same.bitmap c in_pool taken run_there)) ∙ set) is
  lay_at_opening b (OfChunks c chunks in_pool whole first is) =
      let fits = whole.fits in
      let taken = taken_there c in_pool (λ zero. omega (arith, first, zero)) (λ empty. let run = empty.is_run in omega (arith, first, run)) in
      let was : opening (descriptor_word o.lanes c) ≡ 2 + 256 * chunks = sym (same.descriptor c in_pool taken) ∙ first in
      OfChunks c chunks in_pool (record {
        some = whole.some;
        fits = whole.fits;
        no_run = λ k near run.
            whole.no_run k near (ap (λ (x : ℕ). x % 256) (same.descriptor (c + k) (omega (arith, in_pool, fits, near)) (numbered_taken opening o.lanes o.zones c chunks k was fits near)) ∙ run);
      }) was is

  -- the bitmap of a run is the opening's, or 0 where the chunk was free
  pub bitmap_by_opening : (c : ℕ) → c < 64 * o.zones → is_run (w (descriptor_word o.lanes c)) ≡ true
      → w (chunk_word o.lanes c) ≡ cond (is_chunk_taken opening o.lanes (c / 64) (c % 64)) (opening (chunk_word o.lanes c)) 0
  bitmap_by_opening c in_pool run = ⊎_elim
      (λ (taken : is_chunk_taken opening o.lanes (c / 64) (c % 64) ≡ true).
      same.bitmap c in_pool taken (ap is_run (sym (same.descriptor c in_pool taken)) ∙ run)
      ∙ sym (cond-true (is_chunk_taken opening o.lanes (c / 64) (c % 64)) (opening (chunk_word o.lanes c)) 0 taken))
      (λ (free : is_chunk_taken opening o.lanes (c / 64) (c % 64) ≡ false).
      ⊎_elim
      (λ (zero : w (descriptor_word o.lanes c) ≡ 0). absurd (false≢true (ap is_run (sym zero) ∙ run)))
      (λ (empty : IsEmptyRun w o.lanes c). empty.no_block)
      (none_by_number w o.lanes c (new (page_at o.lanes c) (page_in_pool o.lanes o.zones c in_pool) (free_by_page opening o.lanes c ∙ ap not free)))
      ∙ sym (cond-false (is_chunk_taken opening o.lanes (c / 64) (c % 64)) (opening (chunk_word o.lanes c)) 0 free))
      (cases_Bool (is_chunk_taken opening o.lanes (c / 64) (c % 64)))

-- ---- of a lane that works alone

module _ (o : Opening) (header : Header) (pool : PoolView) (v : View) (s : StandsAlone o header pool v) where
  sees : (i : ℕ) → slice_index v.words i ≡ slice_index (s.views 0).words i
  sees i = ap (λ (u : View). slice_index u.words i) (sym s.here)

  -- what was taken at the opening is described as then
  same_as_opening : SameTaken (slice_index o.words) (slice_index v.words) o.lanes o.zones
  same_as_opening = subst (λ (u : View). SameTaken (slice_index o.words) (slice_index u.words) o.lanes o.zones) s.here
      (same_taken o (memory_of v) s.views s.log s.decided 0 s.goes.world s.goes.in_lanes sees (slice_index o.words) (record { blocks = λ i tells. refl; root = refl }))

  own_fits : LaneFits o (memory_of v) (settled o s.log s.decided) (Flies s.log s.decided 0) 0 v
  own_fits = subst (LaneFits o (memory_of v) (settled o s.log s.decided) (Flies s.log s.decided 0) 0) s.here (s.goes.world.each_lane 0 s.goes.in_lanes)

  by_opening : (b : Block) → Lies (slice_index v.words) v.lanes v.zones b → Lies (slice_index o.words) o.lanes o.zones b
  by_opening b lies =
      lay_at_opening o (slice_index v.words) same_as_opening s.goes.world.new_runs b
      (two_same (λ (lanes zones : ℕ). Lies (slice_index v.words) lanes zones b) v.lanes o.lanes v.zones o.zones own_fits.lane.lanes own_fits.lane.zones lies)

  of_opening : (b : Block) → Lies (slice_index o.words) o.lanes o.zones b → Lies (slice_index v.words) v.lanes v.zones b
  of_opening b lies =
      two_same (λ (lanes zones : ℕ). Lies (slice_index v.words) lanes zones b) o.lanes v.lanes o.zones v.zones (sym own_fits.lane.lanes) (sym own_fits.lane.zones)
      (lies_still (slice_index o.words) (slice_index v.words) o.lanes o.zones b same_as_opening lies)

  bitmap_by_its_opening : (c : ℕ) → c < 64 * v.zones → is_run (slice_index v.words (descriptor_word v.lanes c)) ≡ true
      → slice_index v.words (chunk_word v.lanes c) ≡ cond (is_chunk_taken (slice_index o.words) o.lanes (c / 64) (c % 64)) (slice_index o.words (chunk_word o.lanes c)) 0
  bitmap_by_its_opening c =
      two_same
      (λ (lanes zones : ℕ). c < 64 * zones → is_run (slice_index v.words (descriptor_word lanes c)) ≡ true
      → slice_index v.words (chunk_word lanes c) ≡ cond (is_chunk_taken (slice_index o.words) o.lanes (c / 64) (c % 64)) (slice_index o.words (chunk_word o.lanes c)) 0) o.lanes v.lanes o.zones v.zones
      (sym own_fits.lane.lanes) (sym own_fits.lane.zones) (bitmap_by_opening o (slice_index v.words) same_as_opening s.goes.world.new_runs c)

module _ (o : Opening) (header : Header) (pool : PoolView) (start v w : View) (steps more : List Step) (works : WorksAlone o header pool start steps v) (on : WorksAlone o header pool start more w) where
  pub lies_within : (b : Block) → Lies (slice_index w.words) w.lanes w.zones b → Lies (slice_index v.words) v.lanes v.zones b
  lies_within b lies = of_opening o header pool v (stood o header pool start v steps works) b (by_opening o header pool w (stood o header pool start w more on) b lies)

  -- the bitmap of a chunk that is a run by both views' words is the same
  pub bitmaps_within : w.lanes ≡ v.lanes → w.zones ≡ v.zones → (c : ℕ) → c < 64 * v.zones → slice_index w.words (descriptor_word v.lanes c) ≡ slice_index v.words (descriptor_word v.lanes c)
      → is_run (slice_index v.words (descriptor_word v.lanes c)) ≡ true → slice_index w.words (chunk_word v.lanes c) ≡ slice_index v.words (chunk_word v.lanes c)
  bitmaps_within lanes zones c in_pool same run =
      let here = bitmap_by_its_opening o header pool v (stood o header pool start v steps works) c in_pool run in
      two_same
      (λ (l z : ℕ). c < 64 * z → is_run (slice_index w.words (descriptor_word l c)) ≡ true
      → slice_index w.words (chunk_word l c) ≡ cond (is_chunk_taken (slice_index o.words) o.lanes (c / 64) (c % 64)) (slice_index o.words (chunk_word o.lanes c)) 0) w.lanes v.lanes w.zones v.zones lanes zones
      (bitmap_by_its_opening o header pool w (stood o header pool start w more on) c) in_pool (ap is_run same ∙ run)
      ∙ sym here

  pub free_within : (n : NewObject) → LiesFree v n → LiesFree w n
  free_within n free b lies = free b (lies_within b lies)

pub reserved_lies_free : (o : Opening) (header : Header) (pool : PoolView) (start v : View) (steps : List Step) → WorksAlone o header pool start steps v → (n : NewObject) → IsReservedFor v n → LiesFree v n
reserved_lies_free o header pool start v steps works = lies_free o header pool v (stood o header pool start v steps works)
