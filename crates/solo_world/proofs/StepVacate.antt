-- Bits of an occupancy word that a lane gives back keep the world: blocks and chunks that it reserved, or blocks of a run that it made.
use Rattle.std.proofs.Common.{◌≡◌, ◌≢◌, ◌⊎◌, inl, inr, ⊎_elim, ℕ, ◌+◌, ◌<◌, Bool, true, false, not, eqb, ◌||◌, List, slice_index, refl, sym, ap, ◌∙◌, subst, arith, eq-eqb, ne_eqb, ◌*◌, ◌/◌, ◌^◌, ◌≤◌, leb, Contains, All}
use Rattle.std.specs.Int.{bit_at, bit_not, w64}
use Rattle.std.specs.List.{filter, list_any, range_with_len}
use Rattle.std.proofs.lemmas.Bool.{and_from, and_parts, cases_Bool, eqb-true, false_from_ne_true, false≢true, or_cases, or_left, or_right, cases_lt, le-leb, leb-true, or_from}
use Rattle.std.proofs.lemmas.List.Elements.{All-contains}
use Rattle.std.proofs.lemmas.Nat.Bits.{bit_at-zero}
use Rattle.solo_view.specs.declared.change.Change.{Change}
use Rattle.solo_view.specs.declared.occ.Occ.{Occ}
use Rattle.solo_view.specs.Area.{is_in_area}
use Rattle.solo_view.specs.Blocks.{covers, bitmap_word, descriptor_word, is_run, zone_of, zone_page}
use Rattle.solo_view.specs.Held.{is_held, is_reserved, is_under}
use Rattle.solo_view.specs.Occupancy.{is_taken, is_chunk_taken, reaches}
use Rattle.solo_view.specs.View.{View, Taken}
use Rattle.solo_view.specs.Views.{has_bit, occ_in, reserves, runs_with, vacated_word, without_taken, zones_with, chunk_bit, exchanged, has_chunk, is_made, zone_at}
use Rattle.solo_world.specs.Fits.{LaneFits}
use Rattle.solo_world.specs.Heap.{BlocksFit, Heap, IsOcc, SomeHasTaken, SomeHoldsZone, has_taken, holds_zone, IsFree, describing, has_run_chunk, heap_words}
use Rattle.solo_world.specs.History.{Entry, Flies, settled}
use Rattle.solo_world.specs.Laws.{with_view}
use Rattle.solo_world.specs.Lawful.{MayVacate, IsGivenWhole}
use Rattle.solo_world.specs.Memory.{Becomes, Memory, occ_at}
use Rattle.solo_world.specs.Memory.Location.{LockWord, PoolWord, ZoneLock}
use Rattle.solo_world.specs.Opening.{Opening, IsChunk}
use Rattle.solo_world.specs.World.{Views, World}
use Rattle.solo_world.proofs.Frame.{view_all, view_here, view_else}
use Rattle.solo_world.proofs.Locations.{lock_apart, one_occ, other_occ, plain_lock, plain_pool}
use Rattle.solo_world.proofs.Reheld.{reheld, reheld_fits, reholds}
use Rattle.solo_world.proofs.Reserved.{chunk_seen, chunk_was_free}
use Rattle.solo_world.proofs.StepGive.{contains-filter, filter-contains, filter-passed}
use Rattle.solo_world.proofs.Stored.{written_under}
use Rattle.solo_world.proofs.Vacated.{and_bits, and_bit, covered_still, low_bit, not_bit, not_both, vacated_after, vacated_all, vacated_before, vacated_gone, vacated_small}
use Rattle.solo_world.proofs.Worlds.{own}
use Rattle.pm_layout.specs.Sizes.{blocks_of}
use Rattle.solo_view.specs.declared.occ.Occ.TheVariants.{Run, Zone}
use Rattle.solo_world.proofs.Aside.{had_reserved}
use Rattle.solo_world.proofs.Exchanged.{IsNew, exchanged_after, exchanged_all, exchanged_before, exchanged_covers, exchanged_gone, exchanged_new, exchanged_small, run_no_zone}
use Rattle.solo_world.proofs.HeapWords.{free_bitmap, no_run_taken, page_in, page_in_chunk, page_in_number, page_in_word, page_in_zone, taken_before}
use Rattle.solo_world.proofs.StepOccupy.{is_one}

module _ (o : Opening) (old : Memory) (views : Views) (log : List Entry) (decided : ℕ → Bool) (world : World o old views log decided) (k : ℕ) (inside : k < o.lanes) (v : View) (is : views k ≡ v) where
  mine : LaneFits o old (settled o log decided) (Flies log decided k) k v
  mine = own o old views log decided world k inside v is

  abbrev heap : Heap o (heap_words o old) old views
  heap = world.heap

  -- what the lane has, by its number and by its view
  had : (at : Occ) (bit : ℕ) → has_taken v at bit ≡ true → has_taken (views k) at bit ≡ true
  had at bit e = ap (λ u. has_taken u at bit) is ∙ e

  holds : (zone : ℕ) → holds_zone v zone ≡ true → holds_zone (views k) zone ≡ true
  holds zone e = ap (λ u. holds_zone u zone) is ∙ e

  module _ (new : Memory) (at : Occ) (bits : ℕ) (moves : Becomes (occ_at at) (vacated_word bits (old (occ_at at))) old new) (may : MayVacate v at bits) where
    abbrev left : ℕ
    left = vacated_word bits (occ_in v at)

    -- what it has as it gives back
    abbrev had_then : List Taken
    had_then = exchanged v at

    -- the view but for what is known
    abbrev bare_view : View
    bare_view = record v { run_words = runs_with at left v.run_words; zone_words = zones_with at left v.zone_words; reserved = without_taken at bits had_then; freed = without_taken at bits v.freed }

    abbrev known_left : List ℕ
    known_left = filter (is_held bare_view) v.known

    abbrev given_view : View
    given_view = reheld v known_left (runs_with at left v.run_words) (zones_with at left v.zone_words) (without_taken at bits had_then) (without_taken at bits v.freed) v.zone_locks v.seen

    -- in a world it freed nothing
    own_here : (bit : ℕ) → bit_at bits bit ≡ 1 → list_any (has_bit at bit) (exchanged v at) ≡ true
    own_here bit set = ⊎_elim (λ (has : list_any (has_bit at bit) (exchanged v at) ≡ true). has)
        (λ (freed : list_any (has_bit at bit) v.freed ≡ true). absurd (false≢true (sym (ap (list_any (has_bit at bit)) mine.blocks.freed) ∙ freed))) (may.own bit set)

    of_pool' : IsOcc o.lanes o.zones at
    of_pool' = subst (λ n. IsOcc n o.zones at) mine.lane.lanes (subst (λ n. IsOcc v.lanes n at) mine.lane.zones may.there.of_pool)

    -- ---- a run that the lane made

    -- the lane had the chunk, which was free at the opening, and its descriptor is a run's now
    record IsMadeHere (place : ℕ) : Type 0 where
      pub made : is_made v (place / 4096) ≡ true
      pub chunk : IsChunk o.lanes (place / 4096)
      pub has : has_chunk v (place / 4096) ≡ true
      pub run : is_run (heap_words o old (descriptor_word o.lanes (place / 4096))) ≡ true
      pub seen : slice_index v.words (descriptor_word v.lanes (place / 4096)) ≡ heap_words o old (descriptor_word o.lanes (place / 4096))
      pub empty : heap_words o old (bitmap_word (place / 4096)) ≡ 0

    -- where it is not made, it is no run
    unmade_no_run : (page : ℕ) → IsChunk o.lanes page → has_chunk v page ≡ true → is_made v page ≡ false → is_run (heap_words o old (descriptor_word o.lanes page)) ≡ false
    unmade_no_run page chunk has unmade = ap is_run (sym (chunk_seen o old v mine.lane.lanes mine.blocks page chunk has)) ∙ false_from_ne_true (is_run (slice_index v.words (descriptor_word v.lanes page))) (λ run.
        false≢true (sym unmade ∙ and_from (has_chunk v page) (is_run (slice_index v.words (descriptor_word v.lanes page))) has run))

    made_here : (place : ℕ) → IsChunk o.lanes (place / 4096) → is_made v (place / 4096) ≡ true → IsMadeHere place
    made_here place chunk made =
        let t = and_parts (has_chunk v (place / 4096)) (is_run (slice_index v.words (descriptor_word v.lanes (place / 4096)))) made in
        let seen = chunk_seen o old v mine.lane.lanes mine.blocks (place / 4096) chunk t.0 in record {
          made = made;
          chunk = chunk;
          has = t.0;
          run = ap is_run (sym seen) ∙ t.1;
          seen = seen;
          empty = free_bitmap o old (place / 4096) chunk (chunk_was_free o old v mine.lane.lanes mine.blocks (place / 4096) t.0);
        }

    -- a block of the run is had with the chunk, and free
    new_free : (place bit : ℕ) → IsMadeHere place → bit < blocks_of (slice_index v.words (descriptor_word v.lanes (place / 4096)) / 256) → is_taken (heap_words o old) o.lanes (Run place) bit ≡ false
    new_free place bit here low =
        let d : ℕ = heap_words o old (descriptor_word o.lanes (place / 4096)) in
        let few : bit < blocks_of (d / 256) = subst (λ n. bit < blocks_of (n / 256)) here.seen low in
        let off = bit_at-zero bit in
        or_from (not (is_run d) || leb (blocks_of (d / 256)) bit) (eqb (bit_at (heap_words o old (bitmap_word (place / 4096))) bit) 1)
        (or_from (not (is_run d)) (leb (blocks_of (d / 256)) bit) (ap not here.run) (false_from_ne_true (leb (blocks_of (d / 256)) bit) (λ e. absurd (let high = leb-true (blocks_of (d / 256)) bit e in omega (arith, high, few)))))
        (ne_eqb (bit_at (heap_words o old (bitmap_word (place / 4096))) bit) 1 (λ one. absurd (let on : bit_at 0 bit ≡ 1 = ap (λ n. bit_at n bit) (sym here.empty) ∙ one in omega (arith, on, off))))

    -- and none behind its last
    new_taken : (place bit : ℕ) → IsMadeHere place → blocks_of (slice_index v.words (descriptor_word v.lanes (place / 4096)) / 256) ≤ bit → is_taken (heap_words o old) o.lanes (Run place) bit ≡ true
    new_taken place bit here high =
        let d : ℕ = heap_words o old (descriptor_word o.lanes (place / 4096)) in
        or_left (not (is_run d) || leb (blocks_of (d / 256)) bit) (eqb (bit_at (heap_words o old (bitmap_word (place / 4096))) bit) 1)
        (or_right (not (is_run d)) (leb (blocks_of (d / 256)) bit) (le-leb (blocks_of (d / 256)) bit (subst (λ n. blocks_of (n / 256) ≤ bit) here.seen high)))

    -- the chunk is taken now
    made_taken : (place : ℕ) → IsMadeHere place → is_taken (heap_words o old) o.lanes (zone_at o.lanes (place / 4096)) (chunk_bit o.lanes (place / 4096)) ≡ true
    made_taken place here =
        let page : ℕ = place / 4096 in
        let some = here.chunk.1 in
        let at_word : descriptor_word o.lanes page ≡ 512 * zone_page o.lanes (zone_of o.lanes page) + chunk_bit o.lanes page = omega (arith, some) in
        or_left (is_run (heap_words o old (512 * zone_page o.lanes (zone_of o.lanes page) + chunk_bit o.lanes page))) (list_any (reaches (heap_words o old) o.lanes (zone_of o.lanes page) (chunk_bit o.lanes page)) (range_with_len 0 (chunk_bit o.lanes page + 1)))
        (ap (λ w. is_run (heap_words o old w)) (sym at_word) ∙ here.run)

    -- ---- what the lane has as it gives back, by what it reserved

    abbrev NewAt : Occ → Occ → ℕ → Type 0
    NewAt (Run place) other bit = IsNew v place other bit
    NewAt (Zone zone) other bit = ⊥

    abbrev LostAt : Occ → Occ → ℕ → Type 0
    LostAt (Run place) other bit = (is_made v (place / 4096) ≡ true) × (other ≡ zone_at v.lanes (place / 4096)) × (bit ≡ chunk_bit v.lanes (place / 4096))
    LostAt (Zone zone) other bit = ⊥

    then_before : (x other : Occ) (bit : ℕ) → list_any (has_bit other bit) (exchanged v x) ≡ true → (reserves v other bit ≡ true) ⊎ NewAt x other bit
    then_before (Run place) other bit e = exchanged_before v place other bit e
    then_before (Zone zone) other bit e = inl e

    then_after : (x other : Occ) (bit : ℕ) → bit < 64 → reserves v other bit ≡ true → (list_any (has_bit other bit) (exchanged v x) ≡ true) ⊎ LostAt x other bit
    then_after (Run place) other bit low has = exchanged_after v place other bit low has
    then_after (Zone zone) other bit low has = inl has

    zone_number : {a b : ℕ} → Zone a ≡ Zone b → a ≡ b
    zone_number e = ap number_of e where
      number_of : Occ → ℕ
      number_of (Run place) = place
      number_of (Zone zone) = zone

    -- a run's place, by its zone and which chunk of it
    one_place : (p q : ℕ) → IsOcc o.lanes o.zones (Run p) → IsOcc o.lanes o.zones (Run q) → zone_of o.lanes (p / 4096) ≡ zone_of o.lanes (q / 4096) → chunk_bit o.lanes (p / 4096) ≡ chunk_bit o.lanes (q / 4096) → p ≡ q
    one_place p q of_p of_q zoned number =
        let aligned = of_p.0 in let also = of_q.0 in let low = of_p.1.0 in let low' = of_q.1.0 in let some = of_p.1.1 in let some' = of_q.1.1 in omega arith

    new_had : (x other : Occ) (bit : ℕ) → NewAt x other bit → has_taken v other bit ≡ true
    new_had (Zone zone) other bit new_one = absurd new_one
    new_had (Run place) other bit new_one = subst (λ y. has_taken v y bit ≡ true) (sym new_one.at)
        (or_left (reserves v (Run place) bit || has_chunk v (place / 4096)) (list_any (has_bit (Run place) bit) v.freed) (or_right (reserves v (Run place) bit) (has_chunk v (place / 4096)) (and_parts (has_chunk v (place / 4096)) _ new_one.made).0))

    -- what is new is free, and described as it is now
    new_is_free : (x other : Occ) (bit : ℕ) → IsOcc o.lanes o.zones x → NewAt x other bit → IsFree o (heap_words o old) other bit
    new_is_free (Zone zone) other bit of new_one = absurd new_one
    new_is_free (Run place) other bit of new_one = subst (λ y. IsFree o (heap_words o old) y bit) (sym new_one.at) (new_free place bit (made_here place of.1 new_one.made) new_one.low)

    new_described : (x other : Occ) (bit : ℕ) → IsOcc o.lanes o.zones x → NewAt x other bit → slice_index v.words (describing o.lanes other bit) ≡ heap_words o old (describing o.lanes other bit)
    new_described (Zone zone) other bit of new_one = absurd new_one
    new_described (Run place) other bit of new_one = subst (λ y. slice_index v.words (describing o.lanes y bit) ≡ heap_words o old (describing o.lanes y bit)) (sym new_one.at)
        (ap (λ n. slice_index v.words (descriptor_word n (place / 4096))) (sym mine.lane.lanes) ∙ (made_here place of.1 new_one.made).seen)

    -- no block that is given back is taken, as the words tell now
    given_free : (x : Occ) (bit : ℕ) → x ≡ at → bit_at bits bit ≡ 1 → is_taken (heap_words o old) o.lanes x bit ≡ true → ⊥
    given_free x bit same set taken = by_kind x (subst (IsOcc o.lanes o.zones) (sym same) of_pool') (subst (λ y. IsGivenWhole v y bits) (sym same) may.whole) taken (then_before x x bit (subst (λ y. list_any (has_bit y bit) (exchanged v y) ≡ true) (sym same) (own_here bit set))) where
      by_kind : (y : Occ) → IsOcc o.lanes o.zones y → IsGivenWhole v y bits → is_taken (heap_words o old) o.lanes y bit ≡ true → (reserves v y bit ≡ true) ⊎ NewAt y y bit → ⊥
      by_kind (Run place) of whole is_so (inl reserved) = false≢true (sym (mine.blocks.free (Run place) bit reserved) ∙ is_so)
      by_kind (Run place) of whole is_so (inr new_one) = false≢true (sym (new_is_free (Run place) (Run place) bit of new_one) ∙ is_so)
      by_kind (Zone zone) of whole is_so (inr none) = absurd none
      by_kind (Zone zone) of whole is_so (inl reserved) =
          let low : bit < 64 = low_bit bits bit may.small set in
          let page : ℕ = page_in o.lanes zone bit in
          let chunk = page_in_chunk o.lanes zone bit low in
          let zoned = page_in_zone o.lanes zone bit low in
          let number = page_in_number o.lanes zone bit low in
          let lanes = mine.lane.lanes in
          let has : has_chunk v page ≡ true = subst (λ n. reserves v (zone_at n page) (chunk_bit n page) ≡ true) (sym lanes) ((λ i. reserves v (Zone (zoned i)) (number i)) ∙ reserved) in
          let unmade : is_made v page ≡ false = whole page (subst (λ n. IsChunk n page) (sym lanes) chunk) (subst (λ n. zone_of n page ≡ zone) (sym lanes) zoned) (subst (λ n. bit_at bits (chunk_bit n page) ≡ 1) (sym lanes) (ap (bit_at bits) number ∙ set)) in
          let none : is_run (heap_words o old (descriptor_word o.lanes page)) ≡ false = unmade_no_run page chunk has unmade in
          ⊎_elim (λ (was : is_chunk_taken (slice_index o.words) o.lanes zone bit ≡ true). false≢true (sym (mine.blocks.free (Zone zone) bit reserved) ∙ was))
          (λ (run : is_run (heap_words o old (512 * zone_page o.lanes zone + bit)) ≡ true). false≢true (sym none ∙ (ap (λ w. is_run (heap_words o old w)) (page_in_word o.lanes zone bit low) ∙ run)))
          (taken_before o old world.new_runs zone bit of low is_so)

    -- ---- the occupancy words

    -- what is given back was this lane's, and no other's
    was_own : (bit : ℕ) → bit_at bits bit ≡ 1 → has_taken (views k) at bit ≡ true
    was_own bit set = had at bit (⊎_elim (λ (reserved : reserves v at bit ≡ true). had_reserved v at bit reserved) (λ (new_one : NewAt at at bit). new_had at at bit new_one) (then_before at at bit (own_here bit set)))

    -- a word in which a bit is set
    word_left : (other : Occ) (bit : ℕ) → IsOcc o.lanes o.zones other → bit < 64 → bit_at (new (occ_at other)) bit ≡ 1 → (bit_at (old (occ_at other)) bit ≡ 1) × (other ≡ at → bit_at bits bit ≢ 1)
    word_left other bit of low one =
        ⊎_elim (λ (same : other ≡ at).
        let both = and_bits (old (occ_at at)) (bit_not w64 bits) bit (ap (λ n. bit_at n bit) (sym moves.1) ∙ (ap (λ x. bit_at (new (occ_at x)) bit) (sym same) ∙ one)) in
        (ap (λ x. bit_at (old (occ_at x)) bit) same ∙ both.0, λ again. not_both bits bit may.small low both.1))
        (λ (differ : other ≢ at). (ap (λ n. bit_at n bit) (sym (moves.0 (occ_at other) (λ e. differ (one_occ o.lanes o.zones other at of of_pool' e)))) ∙ one, λ again. absurd (differ again)))
        (is_one other at)

    word_on : (other : Occ) (bit : ℕ) → IsOcc o.lanes o.zones other → bit < 64 → (other ≡ at → bit_at bits bit ≢ 1) → bit_at (old (occ_at other)) bit ≡ 1 → bit_at (new (occ_at other)) bit ≡ 1
    word_on other bit of low apart one =
        ⊎_elim (λ (same : other ≡ at). ap (λ x. bit_at (new (occ_at x)) bit) same ∙ (ap (λ n. bit_at n bit) moves.1
        ∙ and_bit (old (occ_at at)) (bit_not w64 bits) bit (ap (λ x. bit_at (old (occ_at x)) bit) (sym same) ∙ one) (not_bit bits bit may.small low (apart same))))
        (λ (differ : other ≢ at). ap (λ n. bit_at n bit) (moves.0 (occ_at other) (λ e. differ (one_occ o.lanes o.zones other at of of_pool' e))) ∙ one)
        (is_one other at)

    -- what the lane has it had before
    has_before : (other : Occ) (bit : ℕ) → has_taken given_view other bit ≡ true → has_taken v other bit ≡ true
    has_before other bit e = by_kind (or_cases (list_any (has_bit other bit) (without_taken at bits had_then) || has_run_chunk given_view other) (list_any (has_bit other bit) (without_taken at bits v.freed)) e) where
      chunk_before : (x : Occ) → has_run_chunk given_view x ≡ true → has_run_chunk v x ≡ true
      chunk_before (Zone zone) is_so = is_so
      chunk_before (Run place) is_so = zone_before at (zone_of v.lanes (place / 4096)) (chunk_bit v.lanes (place / 4096)) (vacated_before at bits may.small (zone_at v.lanes (place / 4096)) (chunk_bit v.lanes (place / 4096)) had_then is_so)
        where
          zone_before : (x : Occ) (zone n : ℕ) → list_any (has_bit (Zone zone) n) (exchanged v x) ≡ true → reserves v (Zone zone) n ≡ true
          zone_before (Zone z) zone n there = there
          zone_before (Run p) zone n there = ⊎_elim (λ (reserved : reserves v (Zone zone) n ≡ true). reserved) (λ (new_one : IsNew v p (Zone zone) n). absurd (run_no_zone p zone (sym new_one.at))) (exchanged_before v p (Zone zone) n there)

      by_kind : ((list_any (has_bit other bit) (without_taken at bits had_then) || has_run_chunk given_view other) ≡ true) ⊎ (list_any (has_bit other bit) (without_taken at bits v.freed) ≡ true) → has_taken v other bit ≡ true
      by_kind (inr freed) = or_right (reserves v other bit || has_run_chunk v other) (list_any (has_bit other bit) v.freed) (vacated_before at bits may.small other bit v.freed freed)
      by_kind (inl mine_or) = ⊎_elim
          (λ (reserved : list_any (has_bit other bit) (without_taken at bits had_then) ≡ true). ⊎_elim (λ (before : reserves v other bit ≡ true). had_reserved v other bit before) (λ (new_one : NewAt at other bit). new_had at other bit new_one)
          (then_before at other bit (vacated_before at bits may.small other bit had_then reserved)))
          (λ (chunk : has_run_chunk given_view other ≡ true). or_left (reserves v other bit || has_run_chunk v other) (list_any (has_bit other bit) v.freed) (or_right (reserves v other bit) (has_run_chunk v other) (chunk_before other chunk)))
          (or_cases (list_any (has_bit other bit) (without_taken at bits had_then)) (has_run_chunk given_view other) mine_or)

    -- what it had but for these bits it has, or that is taken as the words tell now
    has_on : (other : Occ) (bit : ℕ) → IsOcc o.lanes o.zones other → bit < 64 → (other ≡ at → bit_at bits bit ≢ 1) → has_taken v other bit ≡ true → (has_taken given_view other bit ≡ true) ⊎ (is_taken (heap_words o old) o.lanes other bit ≡ true)
    has_on other bit of low apart e = by_kind (or_cases (reserves v other bit || has_run_chunk v other) (list_any (has_bit other bit) v.freed) e) where
      keeps : list_any (has_bit other bit) had_then ≡ true → has_taken given_view other bit ≡ true
      keeps there = had_reserved given_view other bit (vacated_after at bits may.small other bit had_then low apart there)

      lost_taken : (x : Occ) → IsOcc o.lanes o.zones x → LostAt x other bit → is_taken (heap_words o old) o.lanes other bit ≡ true
      lost_taken (Zone zone) of_x lost = absurd lost
      lost_taken (Run place) of_x (made, same, number) =
          subst (λ y. is_taken (heap_words o old) o.lanes y bit ≡ true) (sym same) (subst (λ n. is_taken (heap_words o old) o.lanes (zone_at v.lanes (place / 4096)) n ≡ true) (sym number)
          (subst (λ n. is_taken (heap_words o old) o.lanes (zone_at n (place / 4096)) (chunk_bit n (place / 4096)) ≡ true) (sym mine.lane.lanes) (made_taken place (made_here place of_x.1 made))))

      by_kind : ((reserves v other bit || has_run_chunk v other) ≡ true) ⊎ (list_any (has_bit other bit) v.freed ≡ true) → (has_taken given_view other bit ≡ true) ⊎ (is_taken (heap_words o old) o.lanes other bit ≡ true)
      by_kind (inr freed) = absurd (false≢true (ap (list_any (has_bit other bit)) (sym mine.blocks.freed) ∙ freed))
      by_kind (inl mine_or) = ⊎_elim
          (λ (reserved : reserves v other bit ≡ true). ⊎_elim (λ (there : list_any (has_bit other bit) had_then ≡ true). inl (keeps there)) (λ (lost : LostAt at other bit). inr (lost_taken at of_pool' lost)) (then_after at other bit low reserved))
          (λ (chunk : has_run_chunk v other ≡ true). by_chunk other of apart chunk)
          (or_cases (reserves v other bit) (has_run_chunk v other) mine_or)
        where
          -- the chunk of a run is had still, or is the one that was made a run, or was given back
          by_chunk : (x : Occ) → IsOcc o.lanes o.zones x → (x ≡ at → bit_at bits bit ≢ 1) → has_run_chunk v x ≡ true → (has_taken given_view x bit ≡ true) ⊎ (is_taken (heap_words o old) o.lanes x bit ≡ true)
          by_chunk (Zone zone) of_x away has = absurd (false≢true has)
          by_chunk (Run place) of_x away has =
              let page : ℕ = place / 4096 in
              let n : ℕ = chunk_bit v.lanes page in
              let few : n < 64 = omega arith in
              ⊎_elim
              (λ (there : list_any (has_bit (zone_at v.lanes page) n) had_then ≡ true).
              ⊎_elim
              (λ (given : (zone_at v.lanes page ≡ at) × (bit_at bits n ≡ 1)). inr (no_run_taken (heap_words o old) o.lanes place bit (unmade_no_run page of_x.1 has (unmade at page given.0 given.1 of_x.1 may.whole))))
              (λ (left_so : zone_at v.lanes page ≡ at → bit_at bits n ≢ 1).
              inl (or_left (list_any (has_bit (Run place) bit) (without_taken at bits had_then) || has_run_chunk given_view (Run place)) (list_any (has_bit (Run place) bit) (without_taken at bits v.freed))
              (or_right (list_any (has_bit (Run place) bit) (without_taken at bits had_then)) (has_run_chunk given_view (Run place)) (vacated_after at bits may.small (zone_at v.lanes page) n had_then few left_so there))))
              (is_given (zone_at v.lanes page) n))
              (λ (lost : LostAt at (zone_at v.lanes page) n). by_made at refl of_pool' place of_x away lost)
              (then_after at (zone_at v.lanes page) n few has)
            where
              is_given : (y : Occ) (m : ℕ) → ((y ≡ at) × (bit_at bits m ≡ 1)) ⊎ (y ≡ at → bit_at bits m ≢ 1)
              is_given y m = ⊎_elim (λ (same : y ≡ at). ⊎_elim (λ (one : eqb (bit_at bits m) 1 ≡ true). inl (same, eqb-true (bit_at bits m) 1 one)) (λ (none : eqb (bit_at bits m) 1 ≡ false). inr (λ again one. false≢true (sym none ∙ eq-eqb (bit_at bits m) 1 one))) (cases_Bool (eqb (bit_at bits m) 1)))
                  (λ (differ : y ≢ at). inr (λ same one. differ same)) (is_one y at)

              unmade : (x : Occ) (page : ℕ) → zone_at v.lanes page ≡ x → bit_at bits (chunk_bit v.lanes page) ≡ 1 → IsChunk o.lanes page → IsGivenWhole v x bits → is_made v page ≡ false
              unmade (Run p) page same set chunk whole = absurd (run_no_zone p (zone_of v.lanes page) (sym same))
              unmade (Zone zone) page same set chunk whole = whole page (subst (λ n. IsChunk n page) (sym mine.lane.lanes) chunk) (zone_number same) set

              by_made : (x : Occ) → x ≡ at → IsOcc o.lanes o.zones x → (p : ℕ) → IsOcc o.lanes o.zones (Run p) → (Run p ≡ at → bit_at bits bit ≢ 1) → LostAt x (zone_at v.lanes (p / 4096)) (chunk_bit v.lanes (p / 4096))
                  → (has_taken given_view (Run p) bit ≡ true) ⊎ (is_taken (heap_words o old) o.lanes (Run p) bit ≡ true)
              by_made (Zone zone) same of_y p of_p away' lost = absurd lost
              by_made (Run q) same of_y p of_p away' (made, zoned, number) =
                  let one : p ≡ q = one_place p q of_p of_y (zone_number (subst (λ n. zone_at n (p / 4096) ≡ zone_at n (q / 4096)) mine.lane.lanes zoned)) (subst (λ n. chunk_bit n (p / 4096) ≡ chunk_bit n (q / 4096)) mine.lane.lanes number) in
                  let here : Run p ≡ at = ap Run one ∙ same in
                  let made_p : is_made v (p / 4096) ≡ true = ap (λ m. is_made v (m / 4096)) one ∙ made in
                  ⊎_elim
                  (λ (few_ : bit < blocks_of (slice_index v.words (descriptor_word v.lanes (p / 4096)) / 256)).
                  inl (had_reserved given_view (Run p) bit (vacated_after at bits may.small (Run p) bit had_then low away' (subst (λ y. list_any (has_bit (Run p) bit) (exchanged v y) ≡ true) here (exchanged_new v p bit made_p few_)))))
                  (λ (high : blocks_of (slice_index v.words (descriptor_word v.lanes (p / 4096)) / 256) ≤ bit). inr (new_taken p bit (made_here p of_p.1 made_p) high))
                  (cases_lt bit (blocks_of (slice_index v.words (descriptor_word v.lanes (p / 4096)) / 256)))

    -- none of the bits is had still
    gone : (bit : ℕ) → bit < 64 → bit_at bits bit ≡ 1 → has_taken given_view at bit ≡ true → ⊥
    gone bit low set e = by_kind (or_cases (list_any (has_bit at bit) (without_taken at bits had_then) || has_run_chunk given_view at) (list_any (has_bit at bit) (without_taken at bits v.freed)) e) where
      no_chunk : (x : Occ) → x ≡ at → IsOcc o.lanes o.zones x → has_run_chunk given_view x ≡ true → ⊥
      no_chunk (Zone zone) same of has = false≢true has
      no_chunk (Run place) same of has =
          let page : ℕ = place / 4096 in
          let there : list_any (has_bit (zone_at v.lanes page) (chunk_bit v.lanes page)) (exchanged v (Run place)) ≡ true = subst (λ y. list_any (has_bit (zone_at v.lanes page) (chunk_bit v.lanes page)) (exchanged v y) ≡ true) (sym same) (vacated_before at bits may.small (zone_at v.lanes page) (chunk_bit v.lanes page) had_then has) in
          let chunk : has_chunk v page ≡ true = ⊎_elim (λ (reserved : reserves v (zone_at v.lanes page) (chunk_bit v.lanes page) ≡ true). reserved) (λ (new_one : IsNew v place (zone_at v.lanes page) (chunk_bit v.lanes page)). absurd (run_no_zone place (zone_of v.lanes page) (sym new_one.at))) (exchanged_before v place (zone_at v.lanes page) (chunk_bit v.lanes page) there) in
          ⊎_elim (λ (made : is_made v page ≡ true). exchanged_gone v place made there)
          (λ (unmade : is_made v page ≡ false).
          ⊎_elim (λ (reserved : reserves v (Run place) bit ≡ true). false≢true (sym (mine.blocks.free (Run place) bit reserved) ∙ no_run_taken (heap_words o old) o.lanes place bit (unmade_no_run page of.1 chunk unmade)))
          (λ (new_one : IsNew v place (Run place) bit). false≢true (sym unmade ∙ new_one.made))
          (exchanged_before v place (Run place) bit (subst (λ y. list_any (has_bit y bit) (exchanged v y) ≡ true) (sym same) (own_here bit set))))
          (cases_Bool (is_made v page))

      by_kind : ((list_any (has_bit at bit) (without_taken at bits had_then) || has_run_chunk given_view at) ≡ true) ⊎ (list_any (has_bit at bit) (without_taken at bits v.freed) ≡ true) → ⊥
      by_kind (inr freed) = vacated_gone at bits may.small bit v.freed low set freed
      by_kind (inl mine_or) = ⊎_elim (λ (reserved : list_any (has_bit at bit) (without_taken at bits had_then) ≡ true). vacated_gone at bits may.small bit had_then low set reserved) (no_chunk at refl of_pool')
          (or_cases (list_any (has_bit at bit) (without_taken at bits had_then)) (has_run_chunk given_view at) mine_or)

    before_all : (j : ℕ) (other : Occ) (bit : ℕ) → has_taken (with_view views k given_view j) other bit ≡ true → has_taken (views j) other bit ≡ true
    before_all j other bit = view_all (λ i u. has_taken u other bit ≡ true → has_taken (views i) other bit ≡ true) views k given_view (λ e. had other bit (has_before other bit e)) j (λ differ e. e)

    -- a bit that some lane has now is none of those given back
    apart_from : (j : ℕ) (other : Occ) (bit : ℕ) → j < o.lanes → bit < 64 → has_taken (with_view views k given_view j) other bit ≡ true → other ≡ at → bit_at bits bit ≢ 1
    apart_from j other bit low small = view_all (λ i u. i < o.lanes → has_taken u other bit ≡ true → other ≡ at → bit_at bits bit ≢ 1) views k given_view
        (λ inside' e same set. gone bit small set (ap (λ x. has_taken given_view x bit) (sym same) ∙ e))
        j (λ differ low' e same set. differ (heap.apart j k at bit low' inside (ap (λ x. has_taken (views j) x bit) (sym same) ∙ e) (was_own bit set))) low

    -- some lane has it still, or it is taken as the words tell now
    someone : (other : Occ) (bit : ℕ) → IsOcc o.lanes o.zones other → bit < 64 → (other ≡ at → bit_at bits bit ≢ 1) → SomeHasTaken views o.lanes other bit → (is_taken (heap_words o old) o.lanes other bit ≡ true) ⊎ SomeHasTaken (with_view views k given_view) o.lanes other bit
    someone other bit of low apart (j, j_inside, has) =
        view_all (λ i u. i < o.lanes → has_taken (views i) other bit ≡ true → (is_taken (heap_words o old) o.lanes other bit ≡ true) ⊎ SomeHasTaken (with_view views k given_view) o.lanes other bit) views k given_view
        (λ inside' e. ⊎_elim (λ (there : has_taken given_view other bit ≡ true). inr (k, inside, ap (λ u. has_taken u other bit) (view_here views k given_view) ∙ there)) inl (has_on other bit of low apart (ap (λ u. has_taken u other bit) (sym is) ∙ e)))
        j (λ differ inside' e. inr (j, inside', ap (λ u. has_taken u other bit) (view_else views k given_view j differ) ∙ e)) j_inside has

    given_heap : Heap o (heap_words o old) new (with_view views k given_view)
    given_heap = record {
      set = λ other bit of low one. let t = word_left other bit of low one in
          ⊎_elim inl (λ (s : SomeHasTaken views o.lanes other bit). someone other bit of low t.1 s) (heap.set other bit of low t.0);
      taken = λ other bit of low is_so. word_on other bit of low (λ same set. given_free other bit same set is_so) (heap.taken other bit of low is_so);
      held = λ j other bit low of small has. word_on other bit of small (apart_from j other bit low small has) (heap.held j other bit low of small (before_all j other bit has));
      apart = λ i j other bit low high one two. heap.apart i j other bit low high (before_all i other bit one) (before_all j other bit two);
      locked = λ j zone low. view_all (λ i u. holds_zone u zone ≡ true → new (ZoneLock zone) ≡ i + 1) views k given_view
          (λ held. moves.0 (ZoneLock zone) (lock_apart zone at) ∙ heap.locked k zone inside (holds zone held)) j (λ differ held. moves.0 (ZoneLock zone) (lock_apart zone at) ∙ heap.locked j zone low held);
      unlocked = λ zone. ⊎_elim (λ (free : old (ZoneLock zone) ≡ 0). inl (moves.0 (ZoneLock zone) (lock_apart zone at) ∙ free))
          (λ (t : SomeHoldsZone views o.lanes old zone). inr (
            t.0,
            t.1,
            moves.0 (ZoneLock zone) (lock_apart zone at) ∙ t.2,
            view_all (λ i u. holds_zone (views i) zone ≡ true → holds_zone u zone ≡ true) views k given_view (λ e. ap (λ u. holds_zone u zone) (sym is) ∙ e) t.0 (λ differ e. e) t.3,
          )) (heap.unlocked zone);
    }

    then_all : (P : Occ → Type 0) (x : Occ) → P x → All (λ (t : Taken). P t.at) v.reserved → All (λ (t : Taken). P t.at) (exchanged v x)
    then_all P (Run place) here all = exchanged_all v place P here all
    then_all P (Zone zone) here all = all

    then_small : (x : Occ) → All (λ (t : Taken). t.bits < 2 ^ 64) (exchanged v x)
    then_small (Run place) = exchanged_small v place mine.blocks.small
    then_small (Zone zone) = mine.blocks.small

    given_blocks : BlocksFit o (heap_words o old) given_view
    given_blocks = record {
      of_pool = vacated_all at bits may.small (λ other. IsOcc o.lanes o.zones other) had_then (then_all (λ other. IsOcc o.lanes o.zones other) at of_pool' mine.blocks.of_pool);
      small = vacated_small at bits may.small had_then (then_small at);
      free = λ other bit e. ⊎_elim (λ (before : reserves v other bit ≡ true). mine.blocks.free other bit before) (new_is_free at other bit of_pool') (then_before at other bit (vacated_before at bits may.small other bit had_then e));
      described = λ other bit e. ⊎_elim (λ (before : reserves v other bit ≡ true). mine.blocks.described other bit before) (new_described at other bit of_pool') (then_before at other bit (vacated_before at bits may.small other bit had_then e));
      freed = ap (without_taken at bits) mine.blocks.freed;
    }

    then_covers : (x : Occ) (w : ℕ) → ((place : ℕ) → x ≡ Run place → is_made v (place / 4096) ≡ true → covers v.lanes v.words (zone_at v.lanes (place / 4096)) (2 ^ chunk_bit v.lanes (place / 4096)) w ≡ false)
        → is_reserved v w ≡ true → list_any (λ (t : Taken). covers v.lanes v.words t.at t.bits w) (exchanged v x) ≡ true
    then_covers (Run place) w apart own_word = exchanged_covers v place w (apart place refl) own_word
    then_covers (Zone zone) w apart own_word = own_word

    -- nothing undrained is of a chunk that was made a run
    made_drained : (c : Change) → Contains v.changes c → (place : ℕ) → at ≡ Run place → is_made v (place / 4096) ≡ true → covers v.lanes v.words (zone_at v.lanes (place / 4096)) (2 ^ chunk_bit v.lanes (place / 4096)) c.word ≡ false
    made_drained c there place same made = All-contains (λ (d : Change). covers v.lanes v.words (zone_at v.lanes (place / 4096)) (2 ^ chunk_bit v.lanes (place / 4096)) d.word ≡ false) v.changes c (subst (λ y. IsGivenWhole v y bits) same may.whole made) there

    pub gives_back : World o new (with_view views k given_view) log decided
    gives_back =
        reholds o old views log decided world k inside v is new known_left (runs_with at left v.run_words) (zones_with at left v.zone_words) (without_taken at bits had_then) (without_taken at bits v.freed) v.zone_locks v.seen
        (λ l plain. moves.0 l (other_occ at l plain))
        (reheld_fits v known_left (runs_with at left v.run_words) (zones_with at left v.zone_words) (without_taken at bits had_then) (without_taken at bits v.freed) v.zone_locks v.seen o old new (settled o log decided) (Flies log decided k) k
        (λ w. moves.0 (PoolWord w) (other_occ at (PoolWord w) (plain_pool w))) (λ line. moves.0 (LockWord line) (other_occ at (LockWord line) (plain_lock line)))
        (filter-contains (is_held bare_view) v.known) (λ w there. filter-passed (is_held bare_view) v.known w there)
        (λ w written known. contains-filter (is_held bare_view) v.known w known
        (or_left (is_in_area v.lane w || list_any (is_under w) v.locks) (is_reserved bare_view w) (or_right (is_in_area v.lane w) (list_any (is_under w) v.locks) (written_under v.locks w written))))
        (λ c there own_word. covered_still at bits may.small v.lanes v.words c.word had_then (All-contains (λ (d : Change). covers v.lanes v.words at bits d.word ≡ false) v.changes c may.drained there) (then_covers at c.word (made_drained c there) own_word))
        given_blocks mine)
        (λ can. can) given_heap
