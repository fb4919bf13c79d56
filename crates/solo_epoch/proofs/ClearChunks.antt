-- A chunk whose bit is clear in the picture of a lane that is alone has nothing: no block, and nothing of the lane.
use Rattle.std.proofs.Common.{◌≡◌, ◌≢◌, ⊎_elim, ℕ, ◌+◌, ◌-◌, ◌*◌, ◌/◌, ◌%◌, ◌<◌, ◌≤◌, ◌||◌, Bool, true, false, not, eqb, Contains, List, ◌&&◌, slice_index, refl, sym, ap, ◌∙◌, subst, arith}
use Rattle.std.specs.Int.{bit_at}
use Rattle.std.specs.List.{list_any}
use Rattle.std.proofs.lemmas.Bool.{and_parts, cases_Bool, eq-eqb, eqb-true, false_from_ne_true, false≢true, not_from_true, or_parts, or_cases}
use Rattle.std.proofs.lemmas.List.Folds.{Any-from_list_any}
use Rattle.solo_view.specs.declared.change.Change.{Change}
use Rattle.solo_view.specs.declared.occ.Occ.{Occ}
use Rattle.solo_view.specs.declared.occ.Occ.TheVariants.{Run, Zone}
use Rattle.solo_view.specs.Blocks.{chunk_of, describes, descriptor_word, is_chunk, is_run, page_told, zone_of, zone_page}
use Rattle.solo_view.specs.Held.{is_reserved}
use Rattle.solo_view.specs.Occupancy.{is_chunk_taken, is_in_block, is_taken}
use Rattle.solo_view.specs.Rights.{is_written}
use Rattle.solo_view.specs.View.{View}
use Rattle.solo_view.specs.Views.{has_bit, has_chunk, occ_in, reserves, changes_heap}
use Rattle.solo_world.specs.Entries.{is_entered}
use Rattle.solo_world.specs.Fits.{LaneFits}
use Rattle.solo_world.specs.Heap.{IsEmptyRun, IsOcc, has_taken, heap_words}
use Rattle.solo_world.specs.History.{Entry, Flies, settled}
use Rattle.solo_world.specs.Memory.{Memory, occ_at}
use Rattle.solo_world.specs.Memory.Location.{PoolWord}
use Rattle.solo_world.specs.Opening.{IsChunk, IsPoolChunk, Opening, is_free_chunk}
use Rattle.solo_world.specs.Records.{is_logged, is_recorded}
use Rattle.solo_world.specs.World.{Views, World}
use Rattle.solo_view.specs.Area.{is_in_area}
use Rattle.solo_world.proofs.Pairs.{plain_word}
use Rattle.solo_world.proofs.Apart.{area_bounds}
use Rattle.solo_world.proofs.CrashLogs.{change_lies, logged_recorded}
use Rattle.solo_world.proofs.CrashWords.{fits_of, recorded_writes, written_under}
use Rattle.solo_world.proofs.Exclusion.{WritesUnder}
use Rattle.solo_world.proofs.HeapWords.{described, free_descriptor, free_in, no_run_taken, page_in_chunk, page_in_number, page_in_word, page_in_zone, taken_still}
use Rattle.solo_world.proofs.Living.{block_chunk}
use Rattle.solo_world.proofs.Reserved.{chunk_word_here, reserved_bit, told_here}
use Rattle.solo_world.proofs.Chunks.{chunk_here}
use Rattle.solo_fresh.specs.Made.{touches_chunk}
use Rattle.solo_fresh.specs.Making.{page_in, run_at}
use Rattle.solo_blocks.specs.NewRuns.{IsUnused}

module _ (o : Opening) (mem : Memory) (views : Views) (log : List Entry) (decided : ℕ → Bool) (k : ℕ) (world : World o mem views log decided) (inside : k < o.lanes)
    (sees : (i : ℕ) → mem (PoolWord i) ≡ slice_index (views k).words i) (pictures : (at : Occ) → mem (occ_at at) ≡ occ_in (views k) at)
    (plain : changes_heap (views k) ≡ false) (zone chunk : ℕ) (in_pool : zone < o.zones) (low : chunk < 64) (clear : bit_at (occ_in (views k) (Zone zone)) chunk ≢ 1) where
  abbrev v : View
  v = views k

  abbrev heap : ℕ → ℕ
  heap = heap_words o mem

  abbrev page : ℕ
  page = page_in o.lanes zone chunk

  fits : LaneFits o mem (settled o log decided) (Flies log decided k) k v
  fits = world.each_lane k inside

  lanes_is : v.lanes ≡ o.lanes
  lanes_is = fits.lane.lanes

  of_chunk : IsChunk o.lanes page
  of_chunk = page_in_chunk o.lanes zone chunk low

  of_pool : IsPoolChunk o.lanes o.zones page
  of_pool = (of_chunk, omega (arith, in_pool, low))

  not_set : bit_at (mem (occ_at (Zone zone))) chunk ≢ 1
  not_set set = clear (ap (λ x. bit_at x chunk) (sym (pictures (Zone zone))) ∙ set)

  not_taken : is_chunk_taken heap o.lanes zone chunk ≡ false
  not_taken = false_from_ne_true (is_chunk_taken heap o.lanes zone chunk) (λ taken. not_set (world.heap.taken (Zone zone) chunk in_pool low taken))

  not_had : reserves v (Zone zone) chunk ≡ false
  not_had =
      let has : has_taken v (Zone zone) chunk ≡ false = false_from_ne_true (has_taken v (Zone zone) chunk) (λ had. not_set (world.heap.held k (Zone zone) chunk inside in_pool low had)) in
      (or_parts (reserves v (Zone zone) chunk) false (or_parts (reserves v (Zone zone) chunk || false) (list_any (has_bit (Zone zone) chunk) v.freed) has).0).0

  was_free : is_free_chunk (slice_index o.words) o.lanes page ≡ true
  was_free =
      free_in (slice_index o.words) o.lanes zone chunk low
      ∙ ap not (false_from_ne_true (is_chunk_taken (slice_index o.words) o.lanes zone chunk) (λ taken. false≢true (sym not_taken ∙ taken_still o mem world.new_runs zone chunk in_pool low taken)))

  -- it is described by 0
  zero : mem (PoolWord (descriptor_word o.lanes page)) ≡ 0
  zero = ⊎_elim
      (λ (none : mem (PoolWord (descriptor_word o.lanes page)) ≡ 0). none)
      (λ (run : IsEmptyRun (λ i. mem (PoolWord i)) o.lanes page).
      let word : heap (512 * zone_page o.lanes zone + chunk) ≡ 256 * run.lines + 1 = ap heap (sym (page_in_word o.lanes zone chunk low)) ∙ (free_descriptor o mem page of_chunk was_free ∙ run.described) in
      absurd (false≢true (sym (or_parts (is_run (heap (512 * zone_page o.lanes zone + chunk))) _ not_taken).0 ∙ eq-eqb (heap (512 * zone_page o.lanes zone + chunk) % 256) 1 (omega (arith, word)))))
      (world.new_runs page of_pool was_free)

  place_is : 4096 * page / 4096 ≡ page
  place_is = omega arith

  no_run : (bit : ℕ) → is_taken heap o.lanes (run_at page) bit ≡ true
  no_run bit = no_run_taken heap o.lanes (4096 * page) bit
      (ap is_run (ap (λ p. heap (descriptor_word o.lanes p)) place_is ∙ (free_descriptor o mem page of_chunk was_free ∙ zero)))

  run_occ : IsOcc o.lanes o.zones (run_at page)
  run_occ = (omega arith, subst (IsChunk o.lanes) (sym place_is) of_chunk, subst (λ p. p < 1 + 2 * o.lanes + 65 * o.zones) (sym place_is) of_pool.1)

  closed : (bit : ℕ) → bit < 64 → bit_at (occ_in v (run_at page)) bit ≡ 1
  closed bit few = ap (λ x. bit_at x bit) (sym (pictures (run_at page))) ∙ world.heap.taken (run_at page) bit run_occ few (no_run bit)

  no_chunk : has_chunk v page ≡ false
  no_chunk =
      let of_zone : zone_of v.lanes page ≡ zone = ap (λ n. zone_of n page) lanes_is ∙ page_in_zone o.lanes zone chunk low in
      let number : chunk_of v.lanes page - 1 ≡ chunk = ap (λ n. chunk_of n page - 1) lanes_is ∙ page_in_number o.lanes zone chunk low in
      (λ j. reserves v (Zone (of_zone j)) (number j)) ∙ not_had

  no_block : (bit : ℕ) → reserves v (run_at page) bit ≡ false
  no_block bit = false_from_ne_true (reserves v (run_at page) bit) (λ had. false≢true (sym (fits.blocks.free (run_at page) bit had) ∙ no_run bit))

  -- ---- words of it

  -- none is in the lanes' areas
  in_areas : (w : ℕ) → w < 512 + 1024 * o.lanes → page_told o.lanes w ≡ page → ⊥
  in_areas w before told = ⊎_elim
      (λ (describing : describes o.lanes w ≡ true). let d = described o.lanes w describing in let behind = d.low in omega (arith, behind, before))
      (λ (plain : describes o.lanes w ≡ false). let here = told_here o.lanes w plain in omega (arith, here, told, before))
      (cases_Bool (describes o.lanes w))

  -- nor under a lock
  guarded : (w : ℕ) → WritesUnder o mem k w → page_told o.lanes w ≡ page → ⊥
  guarded w (line, guards, word) told =
      let in_block : is_in_block (slice_index o.words) o.lanes w ≡ true = world.sound.in_blocks line w guards in
      let chunk_is : is_chunk o.lanes (w / 512) ≡ true = block_chunk (slice_index o.words) o.lanes w in_block in
      let here : page_told o.lanes w ≡ w / 512 = chunk_word_here o.lanes w (chunk_here o.lanes (w / 512) chunk_is).1 in
      let at : w / 512 ≡ page = sym here ∙ told in
      let taken : is_chunk_taken (slice_index o.words) o.lanes (zone_of o.lanes (w / 512)) (chunk_of o.lanes (w / 512) - 1) ≡ true =
      (and_parts (is_chunk o.lanes (w / 512)) (is_chunk_taken (slice_index o.words) o.lanes (zone_of o.lanes (w / 512)) (chunk_of o.lanes (w / 512) - 1)) (and_parts (is_chunk o.lanes (w / 512) && is_chunk_taken (slice_index o.words) o.lanes (zone_of o.lanes (w / 512)) (chunk_of o.lanes (w / 512) - 1)) _ in_block).0).1 in
      false≢true (sym (not_from_true _ taken) ∙ (ap (is_free_chunk (slice_index o.words) o.lanes) at ∙ was_free))

  -- nor reserved
  reserved : (w : ℕ) → is_reserved v w ≡ true → page_told o.lanes w ≡ page → ⊥
  reserved w own told = ⊎_elim
      (λ had. false≢true (sym no_chunk ∙ ((λ j. reserves v (Zone (zone_of (lanes_is j) (sym told j))) (chunk_of (lanes_is j) (sym told j) - 1)) ∙ had)))
      (λ t.
      let here : page_told o.lanes w ≡ w / 512 = chunk_word_here o.lanes w t.0.1 in
      let at : page ≡ w / 512 = sym told ∙ here in
      let block : ℕ = (w % 512 / 8 - 1) / (heap_words o mem (descriptor_word o.lanes (w / 512)) / 256) in
      false≢true (sym (no_block block) ∙ (ap (λ p. reserves v (Run (4096 * p)) block) at ∙ t.1)))
      (reserved_bit o mem v w lanes_is fits.blocks own)

  changed : (c : Change) → Contains v.changes c → page_told o.lanes c.word ≡ page → ⊥
  changed c there told = ⊎_elim
      (λ area. let high = area.high in let lane = fits.lane.lane in in_areas c.word (omega (arith, high, lane, inside)) told)
      (λ other. ⊎_elim
      (λ logs. ⊎_elim
      (λ (logged : is_logged v c.word ≡ true). guarded c.word (recorded_writes o mem views log decided world k c.word inside (logged_recorded v c.word logged)) told)
      (λ redone. guarded c.word (written_under o mem views log decided world k c.word inside redone.1) told)
      logs)
      (λ own. reserved c.word own.0.reserved told)
      other)
      (change_lies v c v.log.phase refl (fits_of o mem views log decided world k c inside there)).of

  drained : touches_chunk o.lanes page v.changes ≡ false
  drained = false_from_ne_true (touches_chunk o.lanes page v.changes) (λ some.
      let t = Any-from_list_any (λ (c : Change). eqb (page_told o.lanes c.word) page) v.changes some in
      changed t.1 (t.0, t.2, t.3) (eqb-true (page_told o.lanes t.1.word) page t.4))

  unlogged : (w : ℕ) → w / 512 ≡ page → (is_recorded v.log.records w ≡ false) × (is_entered v.log.entries w ≡ false)
  unlogged w at =
      let told : page_told o.lanes w ≡ page = chunk_word_here o.lanes w (subst (λ p. 1 ≤ chunk_of o.lanes p) (sym at) of_chunk.1) ∙ at in (
        false_from_ne_true (is_recorded v.log.records w) (λ e. guarded w (recorded_writes o mem views log decided world k w inside e) told),
        false_from_ne_true (is_entered v.log.entries w) (λ e.
            ⊎_elim
            (λ (area : is_in_area v.lane w ≡ true). let high = (area_bounds v.lane w area).1 in let lane = fits.lane.lane in in_areas w (omega (arith, high, lane, inside)) told)
            (λ (own : is_written v w ≡ true). guarded w (written_under o mem views log decided world k w inside own) told)
            (or_cases (is_in_area v.lane w) (is_written v w) (plain_word v w plain e))),
      )

  pub is_unused : IsUnused v (page_in v.lanes zone chunk)
  is_unused = subst (λ n. IsUnused v (page_in n zone chunk)) (sym lanes_is) (record {
    undescribed = ap (λ n. slice_index v.words (descriptor_word n page)) lanes_is ∙ (sym (sees (descriptor_word o.lanes page)) ∙ zero);
    closed = closed;
    no_chunk = no_chunk;
    no_block = no_block;
    drained = subst (λ n. touches_chunk n page v.changes ≡ false) (sym lanes_is) drained;
    unlogged = unlogged;
  })
