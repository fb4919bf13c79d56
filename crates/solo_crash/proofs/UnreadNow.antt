-- A word that a lane reserved and that tells of no block is read by no meaning of the words that tell of blocks now, also where it lies in a chunk that the
-- lane made a run.
use Rattle.std.proofs.Common.{◌≡◌, ⊎_elim, ℕ, ◌+◌, ◌-◌, ◌*◌, ◌/◌, ◌%◌, ◌<◌, ◌&&◌, ◌||◌, true, false, not, eqb, leb, slice_index, None, sym, ◌∙◌, ap, subst, arith, eq-eqb}
use Rattle.std.specs.Int.{bit_at}
use Rattle.std.proofs.lemmas.Bool.{and_from, and_parts, cases_Bool, eqb-true, false≢true, not-true, or_cases, or_parts}
use Rattle.std.proofs.lemmas.Nat.Bits.{bit_at-zero}
use Rattle.pm_layout.specs.Sizes.{blocks_of}
use Rattle.pm_image.specs.HeapFaults.{heap_fault}
use Rattle.pm_image.specs.Reads.{Reads}
use Rattle.solo_view.specs.declared.occ.Occ.TheVariants.{Run}
use Rattle.solo_view.specs.Blocks.{bitmap_word, chunk_of, descriptor_word, is_chunk, is_run, page_told, tells_nothing, zone_of, zone_page}
use Rattle.solo_view.specs.Held.{is_reserved}
use Rattle.solo_view.specs.Occupancy.{is_block_taken, is_chunk_taken, is_in_block}
use Rattle.solo_view.specs.View.{View}
use Rattle.solo_view.specs.Views.{chunk_bit, reserves, zone_at}
use Rattle.solo_world.specs.Heap.{AreNewRuns, BlocksFit, IsEmptyRun, heap_words}
use Rattle.solo_world.specs.Memory.{Memory}
use Rattle.solo_world.specs.Memory.Location.{PoolWord}
use Rattle.solo_world.specs.Opening.{IsChunk, Opening, is_free_chunk}
use Rattle.solo_world.proofs.Chunks.{chunk_here}
use Rattle.solo_world.proofs.HeapWords.{now_no_block, taken_before}
use Rattle.solo_world.proofs.Reserved.{chunk_word_here, reserved_apart, reserved_bit, reserved_described}
use Rattle.solo_crash.proofs.FreeWords.{in_taken_chunk, not_read}

module _ (o : Opening) (mem : Memory) (i : ℕ) (v : View) (of : v.lanes ≡ o.lanes) (new : AreNewRuns o (λ w. mem (PoolWord w))) (fits : BlocksFit o (heap_words o mem) v) (reserved : is_reserved v i ≡ true)
    (plain : tells_nothing v.lanes v.words i ≡ true) where
  abbrev heap : ℕ → ℕ
  heap = heap_words o mem

  abbrev page : ℕ
  page = i / 512

  abbrev d : ℕ
  d = heap (descriptor_word o.lanes page)

  parts : (is_chunk o.lanes page ≡ true) × (not (eqb (i % 512) 0 && is_run (slice_index v.words (descriptor_word o.lanes page))) ≡ true)
  parts = and_parts (is_chunk o.lanes page) (not (eqb (i % 512) 0 && is_run (slice_index v.words (descriptor_word o.lanes page)))) (ap (λ n. tells_nothing n v.words i) (sym of) ∙ plain)

  chunk : IsChunk o.lanes page
  chunk = chunk_here o.lanes page parts.0

  in_pool : page < 1 + 2 * o.lanes + 65 * o.zones
  in_pool = let high = (reserved_apart o mem v i of fits reserved).within in omega (arith, high)

  -- the lane has the descriptor as it is now
  seen_now : slice_index v.words (descriptor_word o.lanes page) ≡ d
  seen_now = reserved_described o mem v i of fits reserved chunk (λ n. slice_index v.words n ≡ heap n) fits.described

  no_first : i % 512 ≡ 0 → is_run d ≡ true → ⊥
  no_first first run =
      let both : (eqb (i % 512) 0 && is_run (slice_index v.words (descriptor_word o.lanes page))) ≡ true = and_from (eqb (i % 512) 0) (is_run (slice_index v.words (descriptor_word o.lanes page))) (eq-eqb (i % 512) 0 first) (ap is_run seen_now ∙ run) in
      false≢true (sym (not-true (eqb (i % 512) 0 && is_run (slice_index v.words (descriptor_word o.lanes page))) parts.1) ∙ both)

  abbrev block : ℕ
  block = (i % 512 / 8 - 1) / (d / 256)

  -- the word would be of an allocated block
  abbrev IsAllocated : Type 0
  IsAllocated = (not (is_run d) || leb 8 (i % 512) && eqb (bit_at (heap (bitmap_word page)) block) 1) ≡ true

  set_in_run : is_run d ≡ true → IsAllocated → bit_at (heap (bitmap_word page)) block ≡ 1
  set_in_run run is = ⊎_elim
      (λ (none : not (is_run d) ≡ true). absurd (false≢true (sym (not-true (is_run d) none) ∙ run)))
      (λ (both : (leb 8 (i % 512) && eqb (bit_at (heap (bitmap_word page)) block) 1) ≡ true). eqb-true (bit_at (heap (bitmap_word page)) block) 1 (and_parts (leb 8 (i % 512)) (eqb (bit_at (heap (bitmap_word page)) block) 1) both).1)
      (or_cases (not (is_run d)) (leb 8 (i % 512) && eqb (bit_at (heap (bitmap_word page)) block) 1) is)

  -- in a chunk that was free there is no block
  none_in_free : is_free_chunk (slice_index o.words) o.lanes page ≡ true → is_chunk_taken heap o.lanes (zone_of o.lanes page) (chunk_of o.lanes page - 1) ≡ true → IsAllocated → ⊥
  none_in_free free taken is =
      let low = chunk.0 in let some = chunk.1 in let high = in_pool in
      let zone : ℕ = zone_of o.lanes page in
      let number : ℕ = chunk_of o.lanes page - 1 in
      let at : descriptor_word o.lanes page ≡ 512 * zone_page o.lanes zone + number = omega (arith, some) in
      ⊎_elim
      (λ (zero : d ≡ 0). ⊎_elim
      (λ (was : is_chunk_taken (slice_index o.words) o.lanes zone number ≡ true). false≢true (sym (not-true (is_chunk_taken (slice_index o.words) o.lanes zone number) free) ∙ was))
      (λ (run : is_run (heap (512 * zone_page o.lanes zone + number)) ≡ true). false≢true (sym (ap is_run zero) ∙ (ap (λ n. is_run (heap n)) at ∙ run)))
      (taken_before o mem new zone number (omega (arith, low, some, high)) (omega arith) taken))
      (λ (run : IsEmptyRun heap o.lanes page).
      let described = run.described in
      let one : is_run d ≡ true = eq-eqb (d % 256) 1 (omega (arith, described)) in
      let none : bit_at (heap (bitmap_word page)) block ≡ 0 = ap (λ n. bit_at n block) run.no_block ∙ bit_at-zero block in
      let set = set_in_run one is in
      absurd (omega (arith, none, set)))
      (now_no_block o mem new page (chunk, in_pool) free)

  -- in one that was taken the lane reserved the run's block, which is free
  none_reserved : is_free_chunk (slice_index o.words) o.lanes page ≡ false → IsAllocated → ⊥
  none_reserved taken is =
      let told : page_told o.lanes i ≡ page = chunk_word_here o.lanes i chunk.1 in
      ⊎_elim
      (λ (one : reserves v (zone_at o.lanes (page_told o.lanes i)) (chunk_bit o.lanes (page_told o.lanes i)) ≡ true).
      let free : is_chunk_taken (slice_index o.words) o.lanes (zone_of o.lanes page) (chunk_of o.lanes page - 1) ≡ false =
      subst (λ p. is_chunk_taken (slice_index o.words) o.lanes (zone_of o.lanes p) (chunk_of o.lanes p - 1) ≡ false) told (fits.free (zone_at o.lanes (page_told o.lanes i)) (chunk_bit o.lanes (page_told o.lanes i)) one) in
      false≢true (sym taken ∙ ap not free))
      (λ (two : IsChunk o.lanes page × (reserves v (Run (4096 * page)) block ≡ true)).
      let there : (4096 * page) / 4096 ≡ page = omega arith in
      let clear : is_block_taken heap o.lanes page block ≡ false = subst (λ p. is_block_taken heap o.lanes p block ≡ false) there (fits.free (Run (4096 * page)) block two.1) in
      let bits = or_parts (not (is_run d) || leb (blocks_of (d / 256)) block) (eqb (bit_at (heap (bitmap_word page)) block) 1) clear in
      let run : not (is_run d) ≡ false = (or_parts (not (is_run d)) (leb (blocks_of (d / 256)) block) bits.0).0 in
      let one : is_run d ≡ true = ⊎_elim (λ (yes : is_run d ≡ true). yes) (λ (no : is_run d ≡ false). absurd (false≢true (sym run ∙ ap not no))) (cases_Bool (is_run d)) in
      false≢true (sym bits.1 ∙ eq-eqb (bit_at (heap (bitmap_word page)) block) 1 (set_in_run one is)))
      (reserved_bit o mem v i of fits reserved)

  outside_now : is_in_block heap o.lanes i ≡ true → ⊥
  outside_now inside =
      let t = in_taken_chunk heap o.lanes i inside in
      ⊎_elim
      (λ (free : is_free_chunk (slice_index o.words) o.lanes page ≡ true). none_in_free free t.1 t.2)
      (λ (taken : is_free_chunk (slice_index o.words) o.lanes page ≡ false). none_reserved taken t.2)
      (cases_Bool (is_free_chunk (slice_index o.words) o.lanes page))

  pub unread_now : heap_fault heap o.lanes o.zones ≡ None → Reads heap o.lanes o.zones i → ⊥
  unread_now none read =
      not_read heap o.lanes o.zones i none (record { behind = let low = chunk.0 in omega (arith, low); in_chunk = chunk.1; no_bitmap = no_first; outside = outside_now }) read
