-- The words that a lane alone may enter to allocate or free a block: a chunk's descriptor, and the bitmap of a run, by its words.
use Rattle.std.proofs.Common.{◌≡◌, ⊎_elim, inl, inr, ℕ, ◌+◌, ◌-◌, ◌*◌, ◌/◌, ◌%◌, ◌^◌, ◌<◌, ◌≤◌, ◌&&◌, ◌||◌, true, false, not, eqb, leb, length, slice_index, None, refl, sym, ap, ◌∙◌, subst, arith}
use Rattle.std.specs.Int.{bit_at}
use Rattle.std.proofs.lemmas.Bool.{and_parts, eq-eqb, false_from_ne_true, false≢true, leb-true, not-true, or_cases}
use Rattle.pm_header.specs.declared.header.Header.{Header}
use Rattle.pm_image.specs.Blocks.{chunk_word, descriptor_word}
use Rattle.pm_image.specs.HeapFaults.{heap_fault}
use Rattle.pm_layout.specs.Sizes.{blocks_of, descriptor_of}
use Rattle.pm_layout.specs.declared.class.Class.TheVariants.{Lines}
use Rattle.pm_objects.specs.declared.pool.PoolView.{PoolView}
use Rattle.pm_record.specs.declared.redo.Redo.{Redo}
use Rattle.solo_redo.specs.Entering.{EntersHeap}
use Rattle.solo_view.specs.Area.{is_in_area}
use Rattle.solo_view.specs.Blocks.{bitmap_word, chunk_of, is_chunk, is_run, zone_of}
use Rattle.solo_view.specs.Blocks.{descriptor_word as lane_descriptor}
use Rattle.solo_view.specs.Founds.{IsAlone}
use Rattle.solo_view.specs.Occupancy.{is_chunk_taken, is_in_block}
use Rattle.solo_view.specs.Rights.{is_written}
use Rattle.solo_view.specs.View.{View}
use Rattle.solo_world.specs.Fits.{LaneFits}
use Rattle.solo_world.specs.History.{Flies, settled}
use Rattle.solo_world.specs.Opening.{Opening}
use Rattle.solo_world.proofs.Exclusion.{writes_under}
use Rattle.solo_crash.proofs.AloneCourse.{StandsAlone}
use Rattle.solo_crash.proofs.AloneMemory.{memory_of}
use Rattle.solo_crash.proofs.CallWords.{behind_is_outside}
use Rattle.solo_crash.proofs.FoundBlocks.{IsPageOf, page_of_chunk}
use Rattle.solo_crash.proofs.NewRuns.{page_at, page_in_pool}
use Rattle.solo_crash.proofs.OneChange.{run_bitmap_fits}
use Rattle.solo_epoch.proofs.HeldApart.{taken_same}
use Rattle.solo_epoch.proofs.StandingPools.{own_fits}

-- a word of 64 bits that the lane has not locked for writing, of the pool outside of its area
pub record IsEnterable (v : View) (i : ℕ) : Type 0 where
  pub unlocked : is_written v i ≡ false
  pub outside : is_in_area v.lane i ≡ false
  pub inside : i < length v.words
  pub small : slice_index v.words i < 2 ^ 64

-- so the lane, alone, may enter an entry of it
pub may_be_entered : (v : View) (e : Redo) (i : ℕ) → IsAlone v → e.place ≡ 8 * i → e.value < 2 ^ 64 → IsEnterable v i → EntersHeap v e
may_be_entered v e i alone place value word =
    let same : e.place / 8 ≡ i = omega (arith, place) in
    record {
      entry = record { aligned = omega (arith, place); word = value };
      alone = alone;
      unlocked = ap (is_written v) same ∙ word.unlocked;
      outside = ap (is_in_area v.lane) same ∙ word.outside;
      inside = (let inside = word.inside in omega (arith, same, inside));
      small = inr (subst (λ k. slice_index v.words k < 2 ^ 64) (sym same) word.small);
    }

module _ (o : Opening) (header : Header) (pool : PoolView) (v : View) (s : StandsAlone o header pool v) where
  fits : LaneFits o (memory_of v) (settled o s.log s.decided) (Flies s.log s.decided 0) 0 v
  fits = own_fits o header pool v s

  long : length v.words ≡ 512 + 1024 * o.lanes + 33280 * o.zones
  long = fits.lane.size ∙ s.goes.world.sound.size

  out_of_area : (i : ℕ) → 512 + 1024 * o.lanes ≤ i → is_in_area v.lane i ≡ false
  out_of_area i behind = let lanes = s.goes.in_lanes in let lane = fits.lane.lane in behind_is_outside v.lane o.lanes i (omega (arith, lanes, lane)) behind

  module _ (c : ℕ) (in_pool : c < 64 * o.zones) where
    abbrev page : ℕ
    page = page_at o.lanes c

    of : IsPageOf o.lanes page c
    of = page_of_chunk o.lanes page c refl

    pub descriptor_entered : slice_index v.words (descriptor_word o.lanes c) < 2 ^ 64 → IsEnterable v (descriptor_word o.lanes c)
    descriptor_entered small = record {
      unlocked = false_from_ne_true (is_written v (descriptor_word o.lanes c)) (λ own.
          let under = writes_under o (memory_of v) 0 v (descriptor_word o.lanes c) fits.locks own in
          s.goes.world.sound.apart under.0 (descriptor_word o.lanes c) under.1 (page, ((page_in_pool o.lanes o.zones c in_pool).0, inl (sym of.descriptor))));
      outside = out_of_area (descriptor_word o.lanes c) (omega arith);
      inside = let size = long in omega (arith, size, in_pool);
      small = small;
    }

    -- the bitmap of a run is no word of a block of the opening's
    no_bitmap : (lines : ℕ) → slice_index v.words (descriptor_word o.lanes c) ≡ descriptor_of (Lines lines) → is_in_block (slice_index o.words) o.lanes (chunk_word o.lanes c) ≡ true → ⊥
    no_bitmap lines described inside =
        let i : ℕ = chunk_word o.lanes c in
        let p : ℕ = i / 512 in
        let here : p ≡ 2 + 2 * o.lanes + 65 * (c / 64) + c % 64 = omega arith in
        let first : i % 512 ≡ 0 = omega arith in
        let its : IsPageOf o.lanes p c = page_of_chunk o.lanes p c here in
        let d : ℕ = slice_index o.words (lane_descriptor o.lanes p) in
        let taken_here = is_chunk_taken (slice_index o.words) o.lanes (zone_of o.lanes p) (chunk_of o.lanes p - 1) in
        let at_block = leb 8 (i % 512) && eqb (bit_at (slice_index o.words (bitmap_word p)) ((i % 512 / 8 - 1) / (d / 256))) 1 in
        let whole = and_parts (is_chunk o.lanes p && taken_here) (not (is_run d) || at_block) inside in
        let taken : taken_here ≡ true = (and_parts (is_chunk o.lanes p) taken_here whole.0).1 in
        let zone : zone_of o.lanes p ≡ c / 64 = omega (arith, here) in
        let number : chunk_of o.lanes p - 1 ≡ c % 64 = omega (arith, here) in
        let was : is_chunk_taken (slice_index o.words) o.lanes (c / 64) (c % 64) ≡ true = (λ j. is_chunk_taken (slice_index o.words) o.lanes (sym zone j) (sym number j)) ∙ taken in
        let same : slice_index v.words (descriptor_word o.lanes c) ≡ slice_index o.words (descriptor_word o.lanes c) = (taken_same o header pool v s).descriptor c in_pool was in
        let is : d ≡ descriptor_of (Lines lines) = ap (slice_index o.words) its.descriptor ∙ (sym same ∙ described) in
        let run : is_run d ≡ true = eq-eqb (d % 256) 1 (omega (arith, is)) in
        ⊎_elim
        (λ (other : not (is_run d) ≡ true). false≢true (sym (not-true (is_run d) other) ∙ run))
        (λ (block : at_block ≡ true). let eight = leb-true 8 (i % 512) (and_parts (leb 8 (i % 512)) _ block).0 in omega (arith, eight, first))
        (or_cases (not (is_run d)) at_block whole.1)

    pub bitmap_entered : (lines index : ℕ) → heap_fault (slice_index v.words) o.lanes o.zones ≡ None → index < blocks_of lines → slice_index v.words (descriptor_word o.lanes c) ≡ descriptor_of (Lines lines) → IsEnterable v (chunk_word o.lanes c)
    bitmap_entered lines index none low described = record {
      unlocked = false_from_ne_true (is_written v (chunk_word o.lanes c)) (λ own.
          let under = writes_under o (memory_of v) 0 v (chunk_word o.lanes c) fits.locks own in
          no_bitmap lines described (s.goes.world.sound.in_blocks under.0 (chunk_word o.lanes c) under.1));
      outside = out_of_area (chunk_word o.lanes c) (omega arith);
      inside = let size = long in omega (arith, size, in_pool);
      small = run_bitmap_fits (slice_index v.words) o.lanes o.zones c lines index none in_pool low described;
    }
