-- What recovered words give to a world that opens. Where nothing of the heap is wrong, each
-- descriptor is one of the table and no bitmap has a bit past its run's blocks; a lane's log that
-- is clean, as recovery leaves it, is retired.
use Rattle.std.specs.Prelude.{slice_index, length}
use Rattle.std.specs.Int.{bit_at}
use Rattle.std.proofs.Common.{◌≡◌, ℕ, ◌+◌, ◌-◌, ◌*◌, ◌/◌, ◌%◌, ◌^◌, ◌<◌, ◌≤◌, nat_le, nat_lt}
use Rattle.std.proofs.Common.{Bool, true, false, cond, ◌==◌, ◌&&◌, Option, None, Some}
use Rattle.std.proofs.Common.{◌⊎◌, inl, inr, ⊎_elim, refl, sym, ap, ◌∙◌, arith}
use Rattle.std.proofs.lemmas.Bool.{eqb-true, ltb-true, leb-true, leb-false, and_parts, cases_lt}
use Rattle.std.proofs.lemmas.Nat.Bits.{bit_at_above}
use Rattle.pm_layout.specs.Chunks.{chunks_of, word_of_descriptor}
use Rattle.pm_layout.specs.Sizes.{blocks_of}
use Rattle.pm_layout.specs.declared.class.Class.{Class}
use Rattle.pm_layout.specs.declared.class.Class.TheVariants.{Lines, Chunks}
use Rattle.pm_record.specs.Undo.{undo_of}
use Rattle.pm_record.specs.declared.undo.Undo.{Undo}
use Rattle.pm_image.specs.Blocks.{descriptor_word, chunk_word, class_in, pool_words}
use Rattle.pm_image.specs.HeapFaults.{bad_chunk, bad_bitmap, is_bad_bitmap, heap_fault}
use Rattle.pm_image.specs.Logs.{generation_word, seal_word, slot_line, undo_slot}
use Rattle.pm_image.proofs.FaultFree.{chunk_good, described, bitmap_good}
use Rattle.pm_image.proofs.HeapWords.{chunks_fit}
use Rattle.pm_image.proofs.Members.{range_member}
use Rattle.pm_image.proofs.Ordered.{further_zeros}
use Rattle.pm_view.specs.Places.{InRun, word_of}
use Rattle.pm_world.specs.Opens.{IsRetired, Opens, descriptor, idle_views}
use Rattle.pm_world.specs.World.{Opening}
use Rattle.pm_world.proofs.ImageLogs.{slice_eight}
use Rattle.pm_world.proofs.OpenSizes.{open_fits}
use Rattle.pm_world.proofs.OpenTaken.{opens_taken}
use Rattle.pm_world.proofs.OpenWords.{InTable, IsRunIn, IsHugeIn}

-- ---- what a descriptor makes of its chunk: nothing, a run of some class, or the first of some
-- chunks
abbrev MakesRun : ℕ → Option Class → Type 0
MakesRun d class =
    (d % 256 ≡ 1) × (0 < blocks_of (d / 256)) × (class ≡ Some (Lines (d / 256)))

abbrev MakesHuge : ℕ → Option Class → Type 0
MakesHuge d class = (d % 256 ≡ 2) × (1 ≤ d / 256) × (class ≡ Some (Chunks (d / 256)))

abbrev Makes : ℕ → Option Class → Type 0
Makes d class = (class ≡ None) ⊎ (MakesRun d class ⊎ MakesHuge d class)

abbrev tests_run : ℕ → Bool
tests_run d = d % 256 == 1 && nat_lt 0 (blocks_of (d / 256))

abbrev tests_huge : ℕ → Bool
tests_huge d = d % 256 == 2 && (nat_le 1 (d / 256) && nat_le (d / 256) 64)

makes : (d : ℕ) → Makes d (class_in d)
unfolding class_in
makes d = go (tests_run d) (tests_huge d) refl refl
  where
    go : (r h : Bool) → tests_run d ≡ r → tests_huge d ≡ h
        → Makes d (cond r (Some (Lines (d / 256))) (cond h (Some (Chunks (d / 256))) None))
    go true h run huge =
        let y = and_parts (d % 256 == 1) (nat_lt 0 (blocks_of (d / 256))) run in
        inr (inl (eqb-true (d % 256) 1 y.0, ltb-true 0 (blocks_of (d / 256)) y.1, refl))
    go false true run huge =
        let y = and_parts (d % 256 == 2) (nat_le 1 (d / 256) && nat_le (d / 256) 64) huge in
        let z = and_parts (nat_le 1 (d / 256)) (nat_le (d / 256) 64) y.1 in
        inr (inr (eqb-true (d % 256) 2 y.0, leb-true 1 (d / 256) z.0, refl))
    go false false run huge = inl refl

-- the bitmap of a run that passes its test has no bit past the run's blocks
bitmap_below : (w : ℕ → ℕ) (lanes c lines : ℕ) → bad_bitmap w lanes c ≡ false
    → class_in (w (descriptor_word lanes c)) ≡ Some (Lines lines)
    → w (chunk_word lanes c) < 2 ^ blocks_of lines
unfolding bad_bitmap
bitmap_below w lanes c lines good is =
    leb-false (2 ^ blocks_of lines) (w (chunk_word lanes c))
    (ap (λ class. is_bad_bitmap class (w (chunk_word lanes c))) (sym is) ∙ good)

-- ---- the heap
module _ (o : Opening)
    (none : heap_fault (slice_index o.words) o.shape.lanes o.shape.zones ≡ None) where
  abbrev bitmap_word : ℕ → ℕ
  bitmap_word c = slice_index o.words (word_of o.shape (InRun c 0))

  good : (c : ℕ) → c < chunks_of o.shape → bad_chunk (slice_index o.words) o.shape.lanes c ≡ false
  good c l =
      chunk_good (slice_index o.words) o.shape.lanes o.shape.zones c none
      (range_member (64 * o.shape.zones) c l)

  same : (c : ℕ) → slice_index o.words (descriptor_word o.shape.lanes c) ≡ descriptor o c
  same c =
      let q : descriptor_word o.shape.lanes c ≡ word_of_descriptor o.shape c = omega arith in
      ap (slice_index o.words) q

  bitmap : (c : ℕ) → bitmap_word c ≡ slice_index o.words (chunk_word o.shape.lanes c)
  bitmap c =
      let q : word_of o.shape (InRun c 0) ≡ chunk_word o.shape.lanes c = omega arith in
      ap (slice_index o.words) q

  run_is : (c : ℕ) → c < chunks_of o.shape
      → MakesRun (descriptor o c) (class_in (descriptor o c)) → IsRunIn o c
  run_is c l y =
      let n : ℕ = blocks_of (descriptor o c / 256) in
      let whole = bitmap_good (slice_index o.words) o.shape.lanes o.shape.zones c none
      (range_member (64 * o.shape.zones) c l) in
      let below = bitmap_below (slice_index o.words) o.shape.lanes c (descriptor o c / 256) whole
      (ap class_in (same c) ∙ y.2) in (
        y.0,
        y.1,
        λ i e. ⊎_elim (λ (a : i < n). a)
            (λ (a : n ≤ i).
            let q = eqb-true (bit_at (bitmap_word c) i) 1 e in
            let z : bit_at (bitmap_word c) i ≡ 0 = ap (λ m. bit_at m i) (bitmap c)
            ∙ bit_at_above (slice_index o.words (chunk_word o.shape.lanes c)) n i below a in
            absurd (omega arith)) (cases_lt i n),
      )

  huge_is : (c : ℕ) → c < chunks_of o.shape
      → MakesHuge (descriptor o c) (class_in (descriptor o c)) → IsHugeIn o c
  huge_is c l y =
      let n : ℕ = descriptor o c / 256 in
      let class = ap class_in (same c) ∙ y.2 in (
        y.0,
        y.1,
        chunks_fit (slice_index o.words) o.shape.lanes c n (good c l) class,
        λ d a b.
            let q : d ≡ c + 1 + (d - c - 1) = omega arith in
            sym (same d) ∙ ap (λ m. slice_index o.words (descriptor_word o.shape.lanes m)) q
            ∙ further_zeros (slice_index o.words) o.shape.lanes c n (good c l) class (d - c - 1)
            (omega arith),
      )

  -- each descriptor is one of the table
  pub in_table : (c : ℕ) → c < chunks_of o.shape → InTable o c
  in_table c l =
      let d : ℕ = descriptor o c in
      let stored : ℕ = slice_index o.words (descriptor_word o.shape.lanes c) in
      ⊎_elim
      (λ (e : class_in d ≡ None).
      let none_there = ap class_in (same c) ∙ e in
      inl (sym (same c) ∙ eqb-true stored 0
      (described (slice_index o.words) o.shape.lanes c None (good c l) none_there)))
      (λ (t : MakesRun d (class_in d) ⊎ MakesHuge d (class_in d)). ⊎_elim
      (λ (y : MakesRun d (class_in d)). inr (inl (run_is c l y)))
      (λ (y : MakesHuge d (class_in d)). inr (inr (huge_is c l y))) t)
      (makes d)

-- A WORLD OPENS where nothing of the heap is wrong
pub opens : Opens
opens o mem fixed generation x none occ =
    opens_taken o mem fixed generation x (in_table o none) occ
    (open_fits o (idle_views fixed generation) x.small (in_table o none) none)

-- ---- logs: one that is not sealed, of a generation that counts, whose slots with a true sum are
-- of earlier ones, is retired at its generation
pub retired : (o : Opening) (lane : ℕ) → length o.words ≡ pool_words o.shape.lanes o.shape.zones
    → lane < o.shape.lanes → seal_word o.words lane ≡ 0 → 1 ≤ generation_word o.words lane
    → generation_word o.words lane ≤ 2 ^ 62
    → ((slot : ℕ) (u : Undo) → slot < 64 → undo_of (undo_slot o.words lane slot) ≡ Some u
    → u.generation < generation_word o.words lane)
    → IsRetired o lane (generation_word o.words lane)
retired o lane size inside unsealed first last stale =
    let q : 513 + 1024 * lane ≡ 512 + 1024 * lane + 1 = omega arith in
    record {
      stored = refl;
      first = first;
      last = last;
      unsealed = ap (slice_index o.words) q ∙ unsealed;
      stale = λ j u l e. stale j u l
          (ap undo_of (slice_eight o.words (8 * slot_line lane j) (omega arith)) ∙ e);
    }
