-- What a lane that is alone reserved is free by the pool's words as they stand, where no chunk that it reserved is a run.
use Rattle.std.proofs.Common.{◌≡◌, ⊎_elim, ℕ, ◌+◌, ◌-◌, ◌*◌, ◌/◌, ◌%◌, ◌<◌, ◌&&◌, Bool, List, true, false, not, eqb, leb, ltb, slice_index, refl, sym, ap, ◌∙◌, subst, arith, eq-eqb, eqb-true}
use Rattle.std.specs.Int.{bit_at}
use Rattle.std.specs.List.{list_any}
use Rattle.std.proofs.lemmas.Bool.{and_from, and_parts, false_from_ne_true, false≢true, le-leb}
use Rattle.std.proofs.lemmas.List.Folds.{Any-from_list_any, list_any-from_Any}
use Rattle.pm_image.specs.Blocks.{descriptor_word}
use Rattle.solo_view.specs.declared.occ.Occ.{Occ}
use Rattle.solo_view.specs.declared.occ.Occ.TheVariants.{Run, Zone}
use Rattle.solo_view.specs.Blocks.{bitmap_word, chunk_of, covers, describes, is_chunk, is_run, page_told, zone_of, zone_page}
use Rattle.solo_view.specs.Blocks.{descriptor_word as lane_descriptor}
use Rattle.solo_view.specs.Occupancy.{is_chunk_taken, is_taken}
use Rattle.solo_view.specs.Held.{is_reserved}
use Rattle.solo_view.specs.View.{Taken, View}
use Rattle.solo_view.specs.Views.{chunk_bit, has_bit, has_chunk, is_made, reserves, zone_at}
use Rattle.solo_world.specs.Heap.{AreNewRuns, IsEmptyRun, IsOcc, heap_words}
use Rattle.solo_world.specs.History.{Entry}
use Rattle.solo_world.specs.Memory.{Memory}
use Rattle.solo_world.specs.Memory.Location.{PoolWord}
use Rattle.solo_world.specs.Opening.{IsChunk, Opening, is_free_chunk}
use Rattle.solo_world.specs.World.{Views, World}
use Rattle.solo_world.proofs.HeapWords.{free_in, page_in, page_in_chunk, page_in_number, page_in_word, page_in_zone}
use Rattle.solo_world.proofs.Reserved.{reserved_low, reserved_of_pool, told_here}
use Rattle.solo_crash.proofs.ReservedBlocks.{chunks_free, telling}
use Rattle.solo_crash.proofs.SameBlocks.{taken_now}
use Rattle.solo_epoch.specs.Epochs.{ReservesNoRun}
use Rattle.solo_epoch.proofs.LeftBlocks.{has_parts}

module _ (o : Opening) (mem : Memory) (views : Views) (log : List Entry) (decided : ℕ → Bool) (k : ℕ) (world : World o mem views log decided) (inside : k < o.lanes) (sees : (i : ℕ) → mem (PoolWord i) ≡ slice_index (views k).words i)
    (no_run : ReservesNoRun o.lanes (views k)) where
  abbrev v : View
  v = views k

  abbrev w : ℕ → ℕ
  w = slice_index v.words

  runs : AreNewRuns o w
  runs = subst (AreNewRuns o) (λ j i. sees i j) world.new_runs

  -- a chunk that it reserved is described by 0
  undescribed : (zone chunk : ℕ) → zone < o.zones → chunk < 64 → reserves v (Zone zone) chunk ≡ true → w (descriptor_word o.lanes (64 * zone + chunk)) ≡ 0
  undescribed zone chunk in_pool low reserved =
      let page : ℕ = page_in o.lanes zone chunk in
      let of_chunk : IsChunk o.lanes page = page_in_chunk o.lanes zone chunk low in
      let lanes = (world.each_lane k inside).lane.lanes in
      let was_free : is_free_chunk (slice_index o.words) o.lanes page ≡ true = free_in (slice_index o.words) o.lanes zone chunk low ∙ ap not ((world.each_lane k inside).blocks.free (Zone zone) chunk reserved) in
      let has : has_chunk v page ≡ true = (λ i. list_any (has_bit (Zone ((ap (λ n. zone_of n page) lanes ∙ page_in_zone o.lanes zone chunk low) i)) ((ap (λ n. chunk_of n page - 1) lanes ∙ page_in_number o.lanes zone chunk low) i)) v.reserved) ∙ reserved in
      let word : lane_descriptor o.lanes page ≡ descriptor_word o.lanes (64 * zone + chunk) = page_in_word o.lanes zone chunk low ∙ (let e : 512 * zone_page o.lanes zone + chunk ≡ descriptor_word o.lanes (64 * zone + chunk) = omega (arith, low) in e) in
      ap w (sym word) ∙ ⊎_elim
      (λ (zero : w (lane_descriptor o.lanes page) ≡ 0). zero)
      (λ (run : IsEmptyRun w o.lanes page).
      let described = run.described in
      let is : is_run (w (lane_descriptor v.lanes page)) ≡ true = ap (λ n. is_run (w (lane_descriptor n page))) lanes ∙ eq-eqb (w (lane_descriptor o.lanes page) % 256) 1 (omega (arith, described)) in
      absurd (false≢true (sym (no_run page of_chunk) ∙ and_from (has_chunk v page) (is_run (w (lane_descriptor v.lanes page))) has is)))
      (runs page (of_chunk, omega (arith, in_pool, low)) was_free)

  -- so it is free
  chunk_free : (zone chunk : ℕ) → zone < o.zones → chunk < 64 → reserves v (Zone zone) chunk ≡ true → is_taken w o.lanes (Zone zone) chunk ≡ false
  chunk_free zone chunk in_pool low reserved =
      let zero = undescribed zone chunk in_pool low reserved in
      let row = chunks_free o mem views log decided k world inside sees zone chunk 1 in_pool low (omega (arith, low))
      (λ j near. let same : chunk ≡ chunk + j = omega (arith, near) in record { reserved = ap (reserves v (Zone zone)) (sym same) ∙ reserved; undescribed = ap (λ c. w (descriptor_word o.lanes (64 * zone + c))) (sym same) ∙ zero }) in
      let zone_is : zone ≡ (64 * zone + chunk) / 64 = omega (arith, low) in
      let number_is : chunk ≡ (64 * zone + chunk) % 64 + 0 = omega (arith, low) in
      (λ j. is_chunk_taken w o.lanes (zone_is j) (number_is j)) ∙ row.are_free 0 (omega arith)

  pub free_by_words : (at : Occ) (bit : ℕ) → reserves v at bit ≡ true → is_taken w o.lanes at bit ≡ false
  free_by_words at bit reserved = by_occ at reserved (reserved_of_pool o (heap_words o mem) v at bit (world.each_lane k inside).blocks reserved) where
    low : bit < 64
    low = reserved_low o (heap_words o mem) v at bit (world.each_lane k inside).blocks reserved

    by_occ : (at : Occ) → reserves v at bit ≡ true → IsOcc o.lanes o.zones at → is_taken w o.lanes at bit ≡ false
    by_occ (Run place) has of = sym (taken_now o mem v.words sees runs (telling o mem views log decided k world inside sees) (Run place) bit of low) ∙ (world.each_lane k inside).blocks.free (Run place) bit has
    by_occ (Zone zone) has of = chunk_free zone bit of low has

-- none is, where the lane has reserved no bitmap of a run, by its words
pub no_run_reserved : (v : View) → ((i : ℕ) → is_reserved v i ≡ true → describes v.lanes i ≡ false → i % 512 ≡ 0 → is_run (slice_index v.words (lane_descriptor v.lanes (i / 512))) ≡ false) → ReservesNoRun v.lanes v
no_run_reserved v none page chunk = false_from_ne_true (is_made v page) (λ made.
    let some = chunk.1 in
    let zone : Occ = zone_at v.lanes page in
    let bit : ℕ = chunk_bit v.lanes page in
    let i : ℕ = bitmap_word page in
    let here : i / 512 ≡ page = omega arith in
    let both = and_parts (has_chunk v page) (is_run (slice_index v.words (lane_descriptor v.lanes page))) made in
    let t = Any-from_list_any (has_bit zone bit) v.reserved both.0 in
    let has = has_parts zone bit t.1 t.4 in
    let plain : describes v.lanes i ≡ false = false_from_ne_true (describes v.lanes i) (λ is.
    let head = and_parts (leb (zone_page v.lanes 0) (i / 512)) (eqb (chunk_of v.lanes (i / 512)) 0) (and_parts _ (ltb (i % 512) 64) is).0 in
    let zero = eqb-true (chunk_of v.lanes (i / 512)) 0 head.1 in
    let same = ap (chunk_of v.lanes) here in
    omega (arith, some, zero, same)) in
    let told : page_told v.lanes i ≡ page = told_here v.lanes i plain ∙ here in
    let covered : covers v.lanes v.words zone t.1.bits i ≡ true =
    subst (λ p. (is_chunk v.lanes p && eqb (zone_of v.lanes p) (zone_of v.lanes page) && eqb (bit_at t.1.bits (chunk_of v.lanes p - 1)) 1) ≡ true) (sym told)
    (and_from (is_chunk v.lanes page && eqb (zone_of v.lanes page) (zone_of v.lanes page)) (eqb (bit_at t.1.bits bit) 1)
    (and_from (is_chunk v.lanes page) (eqb (zone_of v.lanes page) (zone_of v.lanes page))
    (and_from (leb (zone_page v.lanes 0) page) (leb 1 (chunk_of v.lanes page)) (le-leb (zone_page v.lanes 0) page chunk.0) (le-leb 1 (chunk_of v.lanes page) some))
    (eq-eqb (zone_of v.lanes page) (zone_of v.lanes page) refl))
    (eq-eqb (bit_at t.1.bits bit) 1 has.1)) in
    let own : is_reserved v i ≡ true = list_any-from_Any (λ (b : Taken). covers v.lanes v.words b.at b.bits i) v.reserved (t.0, t.1, t.2, t.3, ap (λ at. covers v.lanes v.words at t.1.bits i) (sym has.0) ∙ covered) in
    false≢true (sym (none i own plain (omega arith)) ∙ (ap (λ p. is_run (slice_index v.words (lane_descriptor v.lanes p))) here ∙ both.1)))
