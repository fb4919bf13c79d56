-- What a lane that is alone reserved is free by the pool's words as they stand.
use Rattle.std.proofs.Common.{◌≡◌, ◌≢◌, ⊎_elim, ℕ, ◌+◌, ◌*◌, ◌<◌, ◌≤◌, true, false, Bool, Contains, List, None, Option, Some, length, slice_index, sym, ap, ◌∙◌, subst, arith, not, eq-eqb, ◌%◌, ◌-◌}
use Rattle.std.proofs.lemmas.Bool.{cases_lt, false_from_ne_true, false≢true, and_from}
use Rattle.std.specs.Option.{IfSome}
use Rattle.std.proofs.lemmas.List.{get_or_past}
use Rattle.std.proofs.lemmas.List.Elements.{All-contains}
use Rattle.pm_layout.specs.Sizes.{descriptor_of}
use Rattle.pm_layout.specs.declared.class.Class.TheVariants.{Lines}
use Rattle.pm_image.specs.Blocks.{descriptor_word}
use Rattle.pm_image.specs.HeapFaults.{heap_fault}
use Rattle.solo_view.specs.declared.occ.Occ.TheVariants.{Zone, Run}
use Rattle.solo_view.specs.Blocks.{block_at, is_run, zone_page, chunk_of, zone_of}
use Rattle.solo_view.specs.Blocks.{descriptor_word as lane_descriptor}
use Rattle.solo_view.specs.Occupancy.{is_taken}
use Rattle.solo_view.specs.View.{Lock, View}
use Rattle.solo_view.specs.Views.{reserves, has_bit, has_chunk, is_made}
use Rattle.solo_world.specs.Fits.{LockFits}
use Rattle.solo_world.specs.Heap.{AreNewRuns, heap_words, IsEmptyRun, IsOcc}
use Rattle.solo_world.specs.History.{Entry}
use Rattle.solo_world.specs.Memory.{Memory}
use Rattle.solo_world.specs.Memory.Location.{PoolWord}
use Rattle.solo_world.specs.Opening.{IsChunk, Opening, is_free_chunk}
use Rattle.solo_world.specs.World.{Views, World}
use Rattle.solo_view.specs.declared.occ.Occ.{Occ}
use Rattle.std.specs.List.{list_any}
use Rattle.solo_world.proofs.Reserved.{reserved_low, reserved_of_pool}
use Rattle.solo_world.proofs.Chunks.{opening_word}
use Rattle.solo_world.proofs.HeapWords.{taken_before, free_in, page_in, page_in_chunk, page_in_number, page_in_word, page_in_zone}
use Rattle.solo_world.proofs.Living.{TellsOf}
use Rattle.solo_crash.specs.HeapChanges.{MayBeFreed, run_at}
use Rattle.solo_crash.specs.NewObjects.{AreFreeChunks, IsFreeInRun}
use Rattle.solo_crash.proofs.FoundBlocks.{found_of_words}
use Rattle.solo_crash.proofs.MayChange.{free_chunks, free_in_run, may_be_freed}
use Rattle.solo_crash.proofs.SameBlocks.{same_blocks, taken_now}
use Rattle.solo_crash.specs.Reserved.{IsUnusedChunk}

module _ (o : Opening) (mem : Memory) (views : Views) (log : List Entry) (decided : ℕ → Bool) (k : ℕ) (world : World o mem views log decided) (inside : k < o.lanes)
    (sees : (i : ℕ) → mem (PoolWord i) ≡ slice_index (views k).words i) where
  abbrev v : View
  v = views k

  abbrev w : ℕ → ℕ
  w = slice_index v.words

  as_long : length v.words ≡ length o.words
  as_long = (world.each_lane k inside).lane.size

  -- what tells of a chunk that was taken is as at the opening
  pub telling : (page i : ℕ) → IsChunk o.lanes page → is_free_chunk (slice_index o.words) o.lanes page ≡ false → TellsOf o page i → w i ≡ slice_index o.words i
  telling page i chunk taken tells = ⊎_elim
      (λ (low : i < length o.words). sym (sees i) ∙ opening_word o mem views log decided world page i chunk taken tells low)
      (λ (past : length o.words ≤ i). let long = as_long in get_or_past v.words i 0 (omega (arith, long, past)) ∙ sym (get_or_past o.words i 0 past))
      (cases_lt i (length o.words))

  runs : AreNewRuns o w
  runs = subst (AreNewRuns o) (λ j i. sees i j) world.new_runs

  pub block_free : (c lines index : ℕ) → c < 64 * o.zones → index < 64 → w (descriptor_word o.lanes c) ≡ descriptor_of (Lines lines) → reserves v (run_at o.lanes c) index ≡ true → IsFreeInRun w o.lanes o.zones c lines index
  block_free c lines index in_zones low is_run_ reserved =
      free_in_run w o.lanes o.zones c lines index in_zones is_run_
      (sym (taken_now o mem v.words sees runs telling (run_at o.lanes c) index (omega arith, (omega arith, omega arith), omega (arith, in_zones)) low) ∙ (world.each_lane k inside).blocks.free (run_at o.lanes c) index reserved)

  chunk_free : (zone chunk : ℕ) → zone < o.zones → chunk < 64 → w (descriptor_word o.lanes (64 * zone + chunk)) ≡ 0 → reserves v (Zone zone) chunk ≡ true → is_taken w o.lanes (Zone zone) chunk ≡ false
  chunk_free zone chunk in_pool low none reserved =
      sym (taken_now o mem v.words sees runs telling (Zone zone) chunk in_pool low)
      ∙ false_from_ne_true (is_taken (heap_words o mem) o.lanes (Zone zone) chunk) (λ taken.
      let word : 512 * zone_page o.lanes zone + chunk ≡ descriptor_word o.lanes (64 * zone + chunk) = omega (arith, low) in
      let zero : heap_words o mem (512 * zone_page o.lanes zone + chunk) ≡ 0 = sym ((world.each_lane k inside).blocks.described (Zone zone) chunk reserved) ∙ (ap w word ∙ none) in
      ⊎_elim
      (λ before. false≢true (sym ((world.each_lane k inside).blocks.free (Zone zone) chunk reserved) ∙ before))
      (λ run. false≢true (sym (ap is_run zero) ∙ run))
      (taken_before o mem world.new_runs zone chunk in_pool low taken))

  pub chunks_free : (zone first count : ℕ) → zone < o.zones → first < 64 → first + count ≤ 64
      → ((j : ℕ) → j < count → IsUnusedChunk o.lanes v zone (first + j)) → AreFreeChunks w o.lanes o.zones (64 * zone + first) count
  chunks_free zone first count in_pool low fits each =
      free_chunks w o.lanes o.zones zone first count in_pool low fits
      (λ j near. let t = each j near in chunk_free zone (first + j) in_pool (omega (arith, near, fits)) t.undescribed t.reserved)

  -- a chunk that it reserved is described by 0, where it is no run
  undescribed : ((page : ℕ) → is_made v page ≡ false) → (zone chunk : ℕ) → zone < o.zones → chunk < 64 → reserves v (Zone zone) chunk ≡ true → w (descriptor_word o.lanes (64 * zone + chunk)) ≡ 0
  undescribed no_run zone chunk in_pool low reserved =
      let page : ℕ = page_in o.lanes zone chunk in
      let of_chunk : IsChunk o.lanes page = page_in_chunk o.lanes zone chunk low in
      let lanes = (world.each_lane k inside).lane.lanes in
      let was_free : is_free_chunk (slice_index o.words) o.lanes page ≡ true = free_in (slice_index o.words) o.lanes zone chunk low ∙ ap not ((world.each_lane k inside).blocks.free (Zone zone) chunk reserved) in
      let has : has_chunk v page ≡ true = (λ i. list_any (has_bit (Zone ((ap (λ n. zone_of n page) lanes ∙ page_in_zone o.lanes zone chunk low) i)) ((ap (λ n. chunk_of n page - 1) lanes ∙ page_in_number o.lanes zone chunk low) i)) v.reserved) ∙ reserved in
      let word : lane_descriptor o.lanes page ≡ descriptor_word o.lanes (64 * zone + chunk) = page_in_word o.lanes zone chunk low ∙ (let e : 512 * zone_page o.lanes zone + chunk ≡ descriptor_word o.lanes (64 * zone + chunk) = omega (arith, low) in e) in
      ap w (sym word) ∙ ⊎_elim
      (λ (zero : w (lane_descriptor o.lanes page) ≡ 0). zero)
      (λ (run : IsEmptyRun w o.lanes page).
      let described = run.described in
      let is : is_run (w (lane_descriptor v.lanes page)) ≡ true = ap (λ n. is_run (w (lane_descriptor n page))) lanes ∙ eq-eqb (w (lane_descriptor o.lanes page) % 256) 1 (omega (arith, described)) in
      absurd (false≢true (sym (no_run page) ∙ and_from (has_chunk v page) (is_run (w (lane_descriptor v.lanes page))) has is)))
      (runs page (of_chunk, omega (arith, in_pool, low)) was_free)

  -- so what it reserved is free by these words
  pub free_still : ((page : ℕ) → is_made v page ≡ false) → (at : Occ) (bit : ℕ) → reserves v at bit ≡ true → is_taken w o.lanes at bit ≡ false
  free_still no_run at bit reserved = by_occ at reserved (reserved_of_pool o (heap_words o mem) v at bit (world.each_lane k inside).blocks reserved) where
    low : bit < 64
    low = reserved_low o (heap_words o mem) v at bit (world.each_lane k inside).blocks reserved

    by_occ : (at : Occ) → reserves v at bit ≡ true → IsOcc o.lanes o.zones at → is_taken w o.lanes at bit ≡ false
    by_occ (Run place) has of = sym (taken_now o mem v.words sees runs telling (Run place) bit of low) ∙ (world.each_lane k inside).blocks.free (Run place) bit has
    by_occ (Zone zone) has of = chunk_free zone bit of low (undescribed no_run zone bit of low has) has

  -- the same blocks begin at the same lines as at the opening
  pub found_stands : (line : ℕ) → block_at o.lanes v.words line ≡ block_at o.lanes o.words line
  found_stands = same_blocks o v.words as_long world.sound runs telling

  pub found_freed : heap_fault w o.lanes o.zones ≡ None → (l : Lock) (lines : ℕ) → Contains v.locks l → l.block ≡ Some lines → w 64 ≢ 64 * l.line + 64 → MayBeFreed w o.lanes o.zones (record { place = 64 * l.line; lines = lines })
  found_freed none l lines there is not_root =
      let found = (All-contains (LockFits o mem k) v.locks l (world.each_lane k inside).locks there).found in
      let at : block_at o.lanes o.words l.line ≡ Some lines = subst (λ (block : Option ℕ). IfSome block (λ n. block_at o.lanes o.words l.line ≡ Some n)) is found in
      let stands : block_at o.lanes v.words l.line ≡ Some lines = found_stands l.line ∙ at in
      may_be_freed w o.lanes o.zones (record { place = 64 * l.line; lines = lines }) ((found_of_words v.words o.lanes o.zones l.line lines none (let long = as_long in let size = world.sound.size in omega (arith, long, size))).0 stands) not_root
