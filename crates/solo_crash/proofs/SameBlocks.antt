-- A sound pool stays sound with other words, where what tells of chunks that were taken is the same, and no chunk that was free has a block.
use Rattle.std.proofs.Common.{◌≡◌, ⊎_elim, inl, inr, ℕ, ◌+◌, ◌-◌, ◌*◌, ◌/◌, ◌%◌, ◌<◌, ◌≤◌, Bool, true, false, not, cond, eqb, leb, ltb, ◌&&◌, ◌||◌, List, length, slice_index, Some, None, refl, sym, ap, ◌∙◌, subst, arith, eq-eqb}
use Rattle.std.specs.Int.{bit_at}
use Rattle.std.proofs.lemmas.Bool.{and_from, and_parts, and_right, cases_Bool, cases_lt, false≢true, not-true, not_from_false, or_left}
use Rattle.std.proofs.lemmas.List.{get_or_past}
use Rattle.std.proofs.lemmas.Nat.Bits.{bit_at-zero}
use Rattle.pm_layout.specs.Sizes.{blocks_of}
use Rattle.solo_view.specs.declared.occ.Occ.{Occ}
use Rattle.solo_view.specs.declared.occ.Occ.TheVariants.{Run, Zone}
use Rattle.solo_view.specs.Blocks.{bitmap_word, block_at, chunk_of, descriptor_word, has_block, is_chunk, is_huge, is_run, zone_of, zone_page}
use Rattle.solo_view.specs.Occupancy.{is_block_taken, is_chunk_taken, is_in_block, is_taken, reaches}
use Rattle.solo_world.specs.Heap.{AreNewRuns, HasNoBlock, IsEmptyRun, IsOcc, heap_words}
use Rattle.solo_world.specs.Memory.{Memory}
use Rattle.solo_world.specs.Memory.Location.{PoolWord}
use Rattle.solo_world.specs.Opening.{Guards, IsChunk, IsPoolChunk, IsSound, Opening, TellsOfBlocks, is_free_chunk}
use Rattle.solo_world.proofs.Chunks.{block_same, chunk_here, chunk_is}
use Rattle.solo_world.proofs.HeapWords.{free_bitmap, free_descriptor, free_no_run, no_huge, taken_bitmap, taken_descriptor, taken_still}
use Rattle.solo_world.proofs.Living.{TellsOf}
use Rattle.solo_crash.proofs.FreeWords.{in_taken_chunk}
use Rattle.solo_crash.proofs.LivingWords.{any_same}

-- no block begins at a line of a chunk that has none
none_found : (in_chunk run whole : Bool) (x y : ℕ) → run ≡ false → whole ≡ false → cond (not in_chunk) None (cond run (Some x) (cond whole (Some y) None)) ≡ None
none_found true run whole x y no_run no_whole = (λ j. cond (no_run j) (Some x) (cond (no_whole j) (Some y) None))
none_found false run whole x y no_run no_whole = refl

none_begins : (words : List ℕ) (lanes line : ℕ) → HasNoBlock (slice_index words) lanes (line / 64) → block_at lanes words line ≡ None
none_begins words lanes line none =
    let page : ℕ = line / 64 in
    let d : ℕ = slice_index words (descriptor_word lanes page) in
    let m : ℕ = slice_index words (bitmap_word page) in
    let bit : ℕ = (line % 64 - 1) / (d / 256) in
    let no_run : (is_run d && has_block m (d / 256) (line % 64)) ≡ false = ⊎_elim
    (λ (zero : d ≡ 0). (λ j. is_run (zero j) && has_block m (d / 256) (line % 64)))
    (λ (run : IsEmptyRun (slice_index words) lanes page).
    and_right (is_run d) (has_block m (d / 256) (line % 64))
    (and_right (leb 1 (line % 64) && eqb ((line % 64 - 1) % (d / 256)) 0) (eqb (bit_at m bit) 1) (ap (λ (n : ℕ). eqb (bit_at n bit) 1) run.no_block ∙ ap (λ (n : ℕ). eqb n 1) (bit_at-zero bit))))
    none in
    let no_whole : (is_huge d && eqb (line % 64) 0) ≡ false = (λ j. no_huge (slice_index words) lanes page none j && eqb (line % 64) 0) in
    none_found (is_chunk lanes page) (is_run d && has_block m (d / 256) (line % 64)) (is_huge d && eqb (line % 64) 0) (d / 256) (64 * (d / 256)) no_run no_whole

-- what a bitmap says of a block counts for a run alone
no_run_taken : (run few set other : Bool) → run ≡ false → (not run || few || set) ≡ (not run || few || other)
no_run_taken true few set other is = absurd (false≢true (sym is))
no_run_taken false few set other is = refl

-- ---- the words that tell of blocks now, where the memory has these words

module _ (o : Opening) (mem : Memory) (words : List ℕ) (here : (i : ℕ) → mem (PoolWord i) ≡ slice_index words i) (new : AreNewRuns o (slice_index words))
    (kept : (page i : ℕ) → IsChunk o.lanes page → is_free_chunk (slice_index o.words) o.lanes page ≡ false → TellsOf o page i → slice_index words i ≡ slice_index o.words i) where
  abbrev s : ℕ → ℕ
  s = slice_index o.words

  abbrev t : ℕ → ℕ
  t = slice_index words

  abbrev heap : ℕ → ℕ
  heap = heap_words o mem

  descriptor_now : (page : ℕ) → IsChunk o.lanes page → heap (descriptor_word o.lanes page) ≡ t (descriptor_word o.lanes page)
  descriptor_now page chunk = ⊎_elim
      (λ (free : is_free_chunk s o.lanes page ≡ true). free_descriptor o mem page chunk free ∙ here (descriptor_word o.lanes page))
      (λ (taken : is_free_chunk s o.lanes page ≡ false). taken_descriptor o mem page chunk taken ∙ sym (kept page (descriptor_word o.lanes page) chunk taken (inl refl)))
      (cases_Bool (is_free_chunk s o.lanes page))

  bitmap_now : (page : ℕ) → IsPoolChunk o.lanes o.zones page → is_run (t (descriptor_word o.lanes page)) ≡ true → heap (bitmap_word page) ≡ t (bitmap_word page)
  bitmap_now page chunk run = ⊎_elim
      (λ (free : is_free_chunk s o.lanes page ≡ true).
      free_bitmap o mem page chunk.0 free
      ∙ ⊎_elim (λ (zero : t (descriptor_word o.lanes page) ≡ 0). absurd (false≢true (sym (ap is_run zero) ∙ run))) (λ (empty : IsEmptyRun t o.lanes page). sym empty.no_block) (new page chunk free))
      (λ (taken : is_free_chunk s o.lanes page ≡ false).
      taken_bitmap o mem page chunk.0 taken
      ∙ sym (kept page (bitmap_word page) chunk.0 taken (inr (refl, ap is_run (sym (kept page (descriptor_word o.lanes page) chunk.0 taken (inl refl))) ∙ run))))
      (cases_Bool (is_free_chunk s o.lanes page))

  -- the descriptors of a zone, by their numbers
  numbered_now : (zone k : ℕ) → k < 64 → heap (512 * zone_page o.lanes zone + k) ≡ t (512 * zone_page o.lanes zone + k)
  numbered_now zone k low =
      let page : ℕ = zone_page o.lanes zone + 1 + k in
      let at : descriptor_word o.lanes page ≡ 512 * zone_page o.lanes zone + k = omega arith in
      ap heap (sym at) ∙ descriptor_now page (omega arith, omega arith) ∙ ap t at

  chunk_now : (zone chunk : ℕ) → chunk < 64 → is_chunk_taken heap o.lanes zone chunk ≡ is_chunk_taken t o.lanes zone chunk
  chunk_now zone chunk low =
      let reach : (k : ℕ) → 0 ≤ k → k < 0 + (chunk + 1) → reaches heap o.lanes zone chunk k ≡ reaches t o.lanes zone chunk k =
      λ k from to. ap (λ d. is_huge d && ltb chunk (k + d / 256)) (numbered_now zone k (omega arith)) in
      λ j. is_run (numbered_now zone chunk low j) || any_same (reaches heap o.lanes zone chunk) (reaches t o.lanes zone chunk) 0 (chunk + 1) reach j

  block_now : (page block : ℕ) → IsPoolChunk o.lanes o.zones page → is_block_taken heap o.lanes page block ≡ is_block_taken t o.lanes page block
  block_now page block chunk =
      let d : ℕ = t (descriptor_word o.lanes page) in
      ap (λ (n : ℕ). not (is_run n) || leb (blocks_of (n / 256)) block || eqb (bit_at (heap (bitmap_word page)) block) 1) (descriptor_now page chunk.0)
      ∙ ⊎_elim
      (λ (run : is_run d ≡ true). ap (λ (m : ℕ). not (is_run d) || leb (blocks_of (d / 256)) block || eqb (bit_at m block) 1) (bitmap_now page chunk run))
      (λ (none : is_run d ≡ false). no_run_taken (is_run d) (leb (blocks_of (d / 256)) block) (eqb (bit_at (heap (bitmap_word page)) block) 1) (eqb (bit_at (t (bitmap_word page)) block) 1) none)
      (cases_Bool (is_run d))

  -- say the same as these words of what is taken
  pub taken_now : (at : Occ) (bit : ℕ) → IsOcc o.lanes o.zones at → bit < 64 → is_taken heap o.lanes at bit ≡ is_taken t o.lanes at bit
  taken_now (Run place) bit of low = block_now (place / 4096) bit (of.1, of.2)
  taken_now (Zone zone) bit of low = chunk_now zone bit low

  -- a chunk that was taken is
  chunk_still : (page : ℕ) → IsPoolChunk o.lanes o.zones page → is_free_chunk s o.lanes page ≡ false → is_chunk_taken t o.lanes (zone_of o.lanes page) (chunk_of o.lanes page - 1) ≡ true
  chunk_still page chunk taken =
      let low = chunk.0.0 in let some = chunk.0.1 in let high = chunk.1 in
      let zone : ℕ = zone_of o.lanes page in
      let number : ℕ = chunk_of o.lanes page - 1 in
      let few : number < 64 = omega arith in
      let in_pool : zone < o.zones = omega (arith, low, some, high) in
      let runs : AreNewRuns o (λ i. mem (PoolWord i)) = subst (AreNewRuns o) (λ j i. sym (here i) j) new in
      sym (chunk_now zone number few) ∙ taken_still o mem runs zone number in_pool few (was_taken (is_chunk_taken s o.lanes zone number) taken)
    where
      was_taken : (is : Bool) → not is ≡ false → is ≡ true
      was_taken true e = refl
      was_taken false e = absurd (false≢true (sym e))

-- ---- the same blocks begin at the same lines

-- a memory of these words
abbrev plain_memory : List ℕ → Memory
plain_memory words (PoolWord i) = slice_index words i
plain_memory words other = 0

module _ (o : Opening) (words : List ℕ) (size : length words ≡ length o.words) (sound : IsSound o) (new : AreNewRuns o (slice_index words))
    (kept : (page i : ℕ) → IsChunk o.lanes page → is_free_chunk (slice_index o.words) o.lanes page ≡ false → TellsOf o page i → slice_index words i ≡ slice_index o.words i) where
  abbrev opening : ℕ → ℕ
  opening = slice_index o.words

  abbrev standing : ℕ → ℕ
  standing = slice_index words

  still_taken : (page : ℕ) → IsPoolChunk o.lanes o.zones page → is_free_chunk opening o.lanes page ≡ false → is_chunk_taken standing o.lanes (zone_of o.lanes page) (chunk_of o.lanes page - 1) ≡ true
  still_taken = chunk_still o (plain_memory words) words (λ i. refl) new kept

  by_chunk : (A : Type 0) (page : ℕ) → IsChunk o.lanes page → (is_free_chunk opening o.lanes page ≡ false → A) → (IsPoolChunk o.lanes o.zones page → is_free_chunk opening o.lanes page ≡ true → A)
      → (1 + 2 * o.lanes + 65 * o.zones ≤ page → A) → A
  by_chunk A page chunk taken free past = ⊎_elim
      (λ (is : is_free_chunk opening o.lanes page ≡ true). ⊎_elim (λ (inside : page < 1 + 2 * o.lanes + 65 * o.zones). free (chunk, inside) is) past (cases_lt page (1 + 2 * o.lanes + 65 * o.zones)))
      taken
      (cases_Bool (is_free_chunk opening o.lanes page))

  -- past the pool's end there are no words
  none_past : (i : ℕ) → length o.words ≤ i → standing i ≡ opening i
  none_past i past = let long = size in get_or_past words i 0 (omega (arith, long, past)) ∙ sym (get_or_past o.words i 0 past)

  pub same_blocks : (line : ℕ) → block_at o.lanes words line ≡ block_at o.lanes o.words line
  same_blocks line =
      let page : ℕ = line / 64 in
      ⊎_elim
      (λ (is : is_chunk o.lanes page ≡ true).
      let chunk : IsChunk o.lanes page = chunk_here o.lanes page is in
      by_chunk (block_at o.lanes words line ≡ block_at o.lanes o.words line) page chunk
      (λ taken. block_same o.lanes words o.words line (λ at. kept page (descriptor_word o.lanes page) at taken (inl refl)) (λ at run. kept page (bitmap_word page) at taken (inr (refl, run))))
      (λ in_pool free. none_begins words o.lanes line (new page in_pool free) ∙ sym (none_begins o.words o.lanes line (inl (sound.undescribed page in_pool free))))
      (λ past.
      let long = sound.size in
      let some = chunk.1 in
      block_same o.lanes words o.words line (λ at. none_past (descriptor_word o.lanes page) (omega (arith, long, past, some))) (λ at run. none_past (bitmap_word page) (omega (arith, long, past)))))
      (λ (none : is_chunk o.lanes page ≡ false).
      block_same o.lanes words o.words line (λ at. absurd (false≢true (sym none ∙ chunk_is o.lanes page at))) (λ at run. absurd (false≢true (sym none ∙ chunk_is o.lanes page at))))
      (cases_Bool (is_chunk o.lanes page))

  -- each word has the guards that it had
  guarded_before : (line i : ℕ) → Guards (record o { words = words }) line i → Guards o line i
  guarded_before line i guard = record { lines = guard.lines; block = sym (same_blocks line) ∙ guard.block; inside = guard.inside }

  -- a word in a block that was allocated is in one
  in_block_still : (i : ℕ) → i < length o.words → is_in_block opening o.lanes i ≡ true → is_in_block standing o.lanes i ≡ true
  in_block_still i inside e =
      let page : ℕ = i / 512 in
      let d : ℕ = opening (descriptor_word o.lanes page) in
      let d' : ℕ = standing (descriptor_word o.lanes page) in
      let block : ℕ = (i % 512 / 8 - 1) / (d / 256) in
      let last = and_parts (is_chunk o.lanes page && is_chunk_taken opening o.lanes (zone_of o.lanes page) (chunk_of o.lanes page - 1)) (not (is_run d) || leb 8 (i % 512) && eqb (bit_at (opening (bitmap_word page)) block) 1) e in
      let first = and_parts (is_chunk o.lanes page) (is_chunk_taken opening o.lanes (zone_of o.lanes page) (chunk_of o.lanes page - 1)) last.0 in
      let chunk : IsChunk o.lanes page = chunk_here o.lanes page first.0 in
      let long = sound.size in
      let was : is_free_chunk opening o.lanes page ≡ false = ap not first.1 in
      let same : d' ≡ d = kept page (descriptor_word o.lanes page) chunk was (inl refl) in
      let taken = still_taken page (chunk, omega (arith, inside, long)) was in
      let bit : (not (is_run d) || leb 8 (i % 512) && eqb (bit_at (standing (bitmap_word page)) block) 1) ≡ true = ⊎_elim
      (λ (run : is_run d ≡ true). ap (λ b. not (is_run d) || leb 8 (i % 512) && eqb (bit_at b block) 1) (kept page (bitmap_word page) chunk was (inr (refl, run))) ∙ last.1)
      (λ (none : is_run d ≡ false). or_left (not (is_run d)) (leb 8 (i % 512) && eqb (bit_at (standing (bitmap_word page)) block) 1) (not_from_false (is_run d) none))
      (cases_Bool (is_run d)) in
      and_from (is_chunk o.lanes page && is_chunk_taken standing o.lanes (zone_of o.lanes page) (chunk_of o.lanes page - 1)) (not (is_run d') || leb 8 (i % 512) && eqb (bit_at (standing (bitmap_word page)) ((i % 512 / 8 - 1) / (d' / 256))) 1)
      (and_from (is_chunk o.lanes page) (is_chunk_taken standing o.lanes (zone_of o.lanes page) (chunk_of o.lanes page - 1)) first.0 taken)
      (ap (λ n. not (is_run n) || leb 8 (i % 512) && eqb (bit_at (standing (bitmap_word page)) ((i % 512 / 8 - 1) / (n / 256))) 1) same ∙ bit)

  -- a chunk that is free is described by 0: what was free may be a run, but that is taken
  undescribed_now : (page : ℕ) → IsPoolChunk o.lanes o.zones page → is_free_chunk standing o.lanes page ≡ true → standing (descriptor_word o.lanes page) ≡ 0
  undescribed_now page chunk free = ⊎_elim
      (λ (was : is_free_chunk opening o.lanes page ≡ true). ⊎_elim
      (λ (zero : standing (descriptor_word o.lanes page) ≡ 0). zero)
      (λ (run : IsEmptyRun standing o.lanes page).
      let is = run.described in
      absurd (false≢true (sym (free_no_run standing o.lanes page chunk.0 free) ∙ eq-eqb (standing (descriptor_word o.lanes page) % 256) 1 (omega (arith, is)))))
      (new page chunk was))
      (λ (taken : is_free_chunk opening o.lanes page ≡ false). absurd (false≢true (sym (not-true (is_chunk_taken standing o.lanes (zone_of o.lanes page) (chunk_of o.lanes page - 1)) free) ∙ still_taken page chunk taken)))
      (cases_Bool (is_free_chunk opening o.lanes page))

  -- no guarded word tells of blocks: a bitmap of a new run is in no block
  apart_now : (line i : ℕ) → Guards o line i → TellsOfBlocks (record o { words = words }) i → ⊥
  apart_now line i guard (page, (chunk, inl descriptor)) = sound.apart line i guard (page, (chunk, inl descriptor))
  apart_now line i guard (page, (chunk, inr bitmap)) = ⊎_elim
      (λ (free : is_free_chunk opening o.lanes page ≡ true).
      let is = bitmap.0 in
      let there : i / 512 ≡ page = omega (arith, is) in
      let taken : is_chunk_taken opening o.lanes (zone_of o.lanes page) (chunk_of o.lanes page - 1) ≡ true =
      subst (λ p. is_chunk_taken opening o.lanes (zone_of o.lanes p) (chunk_of o.lanes p - 1) ≡ true) there (in_taken_chunk opening o.lanes i (sound.in_blocks line i guard)).1 in
      false≢true (sym (not-true (is_chunk_taken opening o.lanes (zone_of o.lanes page) (chunk_of o.lanes page - 1)) free) ∙ taken))
      (λ (taken : is_free_chunk opening o.lanes page ≡ false).
      sound.apart line i guard (page, (chunk, inr (bitmap.0, ap is_run (sym (kept page (descriptor_word o.lanes page) chunk taken (inl refl))) ∙ bitmap.1))))
      (cases_Bool (is_free_chunk opening o.lanes page))

  -- so the pool is sound
  pub sound_with : IsSound (record o { words = words })
  sound_with = record {
    some_lanes = sound.some_lanes;
    most_lanes = sound.most_lanes;
    size = size ∙ sound.size;
    one_guard = λ line other i guard same. sound.one_guard line other i (guarded_before line i guard) (guarded_before other i same);
    behind_areas = λ line i guard. sound.behind_areas line i (guarded_before line i guard);
    within = λ line i guard. subst (λ (n : ℕ). i < n) (sym size) (sound.within line i (guarded_before line i guard));
    in_blocks = λ line i guard. let before = guarded_before line i guard in in_block_still i (sound.within line i before) (sound.in_blocks line i before);
    undescribed = undescribed_now;
    apart = λ line i guard tells. apart_now line i (guarded_before line i guard) tells;
  }
