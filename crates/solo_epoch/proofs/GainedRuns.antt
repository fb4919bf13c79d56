-- The first block of a run that a lane made of a free chunk for an object: what the lane had it has still, and of the block it had nothing.
use Rattle.std.proofs.Common.{◌≡◌, ◌≢◌, ◌⊎◌, ⊎_elim, inl, inr, ℕ, ◌+◌, ◌-◌, ◌*◌, ◌/◌, ◌%◌, ◌^◌, ◌<◌, ◌≤◌, Bool, true, false, cond, ◌||◌, Contains, List, [], ◌∷◌, ◌++◌, slice_index, refl, sym, ap, ◌∙◌, subst, arith}
use Rattle.std.specs.Int.{bit_at}
use Rattle.std.specs.List.{list_any, filter}
use Rattle.std.proofs.lemmas.Bool.{cases_Bool, cases_eq, false_from_ne_true, false≢true, or_cases, or_left, or_right}
use Rattle.std.proofs.lemmas.List.Folds.{list_any-append}
use Rattle.std.proofs.lemmas.Nat.Bits.{bit_at-pow_other}
use Rattle.pm_header.specs.declared.header.Header.{Header}
use Rattle.pm_image.specs.declared.block.Block.{Block}
use Rattle.pm_image.specs.Blocks.{chunk_word, descriptor_word}
use Rattle.pm_image.proofs.Members.{first_member, later_member, member_cases, no_member}
use Rattle.pm_layout.specs.Sizes.{block_place, blocks_of, descriptor_of}
use Rattle.pm_layout.specs.declared.class.Class.TheVariants.{Lines}
use Rattle.pm_layout.specs.declared.shape.Shape.{Shape}
use Rattle.solo_model.specs.Places.{CanHold}
use Rattle.pm_objects.specs.declared.pool.PoolView.{PoolView}
use Rattle.solo_view.specs.declared.occ.Occ.{Occ}
use Rattle.solo_view.specs.declared.occ.Occ.TheVariants.{Run, Zone}
use Rattle.solo_view.specs.Area.{is_in_area}
use Rattle.solo_view.specs.Blocks.{bitmap_word, chunk_of, covers, page_told}
use Rattle.solo_view.specs.Blocks.{descriptor_word as lane_descriptor}
use Rattle.solo_view.specs.Held.{is_held, is_reserved, is_under}
use Rattle.solo_view.specs.Constants.{IsSameLane}
use Rattle.solo_view.specs.Steps.{Step}
use Rattle.solo_view.specs.Steps.Step.{Vacate}
use Rattle.solo_view.specs.View.{Taken, View}
use Rattle.solo_view.specs.Views.{after, after_all, chunk_bit, has_bit, reserves, zone_at}
use Rattle.solo_view.proofs.SameLane.{same_lane-then}
use Rattle.solo_view.proofs.Sequences.{after_all-append}
use Rattle.solo_world.specs.Fits.{LaneFits}
use Rattle.solo_world.specs.History.{Flies, settled}
use Rattle.solo_world.specs.Opening.{IsChunk, Opening}
use Rattle.solo_world.specs.Sequences.{in_turn, one}
use Rattle.solo_world.proofs.Exchanged.{chunk_small, run_no_zone}
use Rattle.solo_world.proofs.HeapWords.{descriptor_tells, page_in_chunk}
use Rattle.solo_world.specs.Heap.{heap_words}
use Rattle.solo_world.proofs.Reserved.{chunk_word_here, reserved_again, reserved_bit, reserved_of_pool}
use Rattle.solo_world.proofs.Resting.{reserved_before, reserved_last}
use Rattle.solo_world.proofs.Vacated.{covered_still, vacated_after, vacated_before}
use Rattle.solo_chunks.specs.Chunks.{AreFree, HasGot, chunk_block, taken_chunks}
use Rattle.solo_fresh.proofs.MakingRuns.{chunk_reserved, covers_chunk}
use Rattle.solo_fresh.specs.Made.{CanMakeRun, IsRunMade, first_block, without_chunk}
use Rattle.solo_fresh.specs.Making.{behind_first, keeps_first, makes_run, page_in, run_descriptor, stores_persistent}
use Rattle.solo_fresh.specs.Making.{run_at as run_on}
use Rattle.solo_blocks.proofs.Onward.{descriptors_apart}
use Rattle.solo_blocks.proofs.Taking.{can as can_be_made, least_is_free}
use Rattle.solo_blocks.specs.NewRuns.{HasNewRun, IsUnused, with_run}
use Rattle.solo_alloc.specs.NewObjects.{CanMakeObject}
use Rattle.solo_crash.specs.CallBlocks.{NewObject, block_of}
use Rattle.solo_crash.specs.HeapChanges.{run_at}
use Rattle.solo_crash.specs.NewObjects.{block_of_run}
use Rattle.solo_crash.specs.Reserved.{IsReservedInRun, IsUnusedChunk}
use Rattle.solo_crash.proofs.AloneCourse.{StandsAlone}
use Rattle.solo_crash.proofs.AloneMemory.{memory_of}
use Rattle.solo_epoch.proofs.GainedRooms.{Gains, IsCallStill, search_still, search_words}
use Rattle.solo_epoch.proofs.HeldApart.{AllFound, locked_in_block, reserved_in_none}
use Rattle.solo_epoch.proofs.QuietSteps.{persistent_remembers}
use Rattle.solo_epoch.proofs.StandingPools.{own_fits}

-- what passes a filter is left
kept_word : (p : ℕ → Bool) (known : List ℕ) (i : ℕ) → p i ≡ true → Contains known i → Contains (filter p known) i
kept_word p [] i keeps there = absurd (no_member i there)
kept_word p (k ∷ known) i keeps there = at (p k) refl (member_cases k known i there) (kept_word p known i keeps) where
  at : (b : Bool) → p k ≡ b → (k ≡ i) ⊎ Contains known i → (Contains known i → Contains (filter p known) i) → Contains (cond b (k ∷ filter p known) (filter p known)) i
  at true is (inl here) rest = subst (λ j. Contains (j ∷ filter p known) i) (sym here) (first_member i (filter p known))
  at true is (inr later) rest = later_member k (filter p known) i (rest later)
  at false is (inl here) rest = absurd (false≢true (sym is ∙ (ap p here ∙ keeps)))
  at false is (inr later) rest = rest later

-- of the sequence that makes a run only the last step, by which all blocks but the first are given back, forgets words: those that the lane no longer holds
made_remembers : (w : View) (lanes page lines i : ℕ) → Contains w.known i → is_held (after_all w (makes_run lanes page lines w)) i ≡ true → Contains (after_all w (makes_run lanes page lines w)).known i
unfolding makes_run in_turn keeps_first one after_all
made_remembers w lanes page lines i there held =
    let first = stores_persistent (bitmap_word page) 0 in
    let second = stores_persistent (lane_descriptor lanes page) (run_descriptor lines) in
    let y : View = after_all w (first w) in
    let z : View = after_all y (second y) in
    let last : View = after z (Vacate (run_on page) (behind_first lines)) in
    let split : after_all w (first w ++ (second y ++ Vacate (run_on page) (behind_first lines) ∷ [])) ≡ last =
    after_all-append w (first w) (second y ++ Vacate (run_on page) (behind_first lines) ∷ []) ∙ after_all-append y (second y) (Vacate (run_on page) (behind_first lines) ∷ []) in
    let known : Contains z.known i = persistent_remembers y (lane_descriptor lanes page) (run_descriptor lines) i (persistent_remembers w (bitmap_word page) 0 i there) in
    subst (λ (u : View). Contains u.known i) (sym split) (kept_word (is_held last) z.known i (ap (λ (u : View). is_held u i) (sym split) ∙ held) known)

module _ (o : Opening) (header : Header) (pool : PoolView) (v : View) (s : StandsAlone o header pool v) (shape : Shape) (can : CanMakeObject v shape) (all : AllFound v.locks) (at : View → Type 0)
    (lines : ℕ) (block : Block) (class : 0 < blocks_of lines) (run : HasNewRun at v lines block) where
  abbrev zone : ℕ
  zone = run.zone

  abbrev chunk : ℕ
  chunk = run.chunk

  abbrev pub searched_to : View
  searched_to = run.made.view

  abbrev w : View
  w = searched_to

  abbrev page : ℕ
  page = page_in w.lanes zone chunk

  abbrev pub made_run : View
  made_run = with_run zone chunk lines w

  abbrev x : View
  x = made_run

  abbrev then : View → Type 0
  then z = at (with_run zone chunk lines z)

  made : IsRunMade w page lines x
  made = run.made.holds.0

  low : chunk < 64
  low = run.in_zone

  free : AreFree v 1 zone chunk
  free = least_is_free v zone chunk low run.least

  unused : IsUnused v (page_in v.lanes zone chunk)
  unused = can.run.unused zone chunk free.in_zones low (free.clear chunk (omega arith) (omega arith))

  -- the chunk, as it was got
  abbrev got : HasGot then v 1 (chunk_block v.lanes zone chunk 1)
  got = record {
    zone = zone;
    first = chunk;
    in_zones = free.in_zones;
    in_zone = free.in_zone;
    is_block = refl;
    searched = record {
      view = w;
      steps = run.made.steps;
      searches = run.made.searches;
      kept = run.made.kept;
      there = run.made.there;
      reserved = run.made.reserved;
      zones = run.made.zones;
      holds = tt;
    };
  }

  found : IsCallStill v w
  found = search_still v shape can all then _ _ run.made

  lanes_w : w.lanes ≡ v.lanes
  lanes_w = found.lanes

  words_w : w.words ≡ v.words
  words_w = search_words v shape can all then _ _ run.made

  can_make : CanMakeRun w page lines
  can_make = subst (λ n. CanMakeRun w (page_in n zone chunk) lines) (sym lanes_w) (can_be_made v shape can.run lines class then (chunk_block v.lanes zone chunk 1) got run.least)

  page_is : page ≡ page_in v.lanes zone chunk
  page_is = ap (λ n. page_in n zone chunk) lanes_w

  chunk_here : IsChunk w.lanes page
  chunk_here = page_in_chunk w.lanes zone chunk low

  chunk_not_had : reserves v (Zone zone) chunk ≡ false
  chunk_not_had = false_from_ne_true (reserves v (Zone zone) chunk) (λ had. free.clear chunk (omega arith) (omega arith) (can.pictured.taken (Zone zone) chunk had))

  lanes_x : x.lanes ≡ v.lanes
  lanes_x = ap (λ (z : View). z.lanes) made.same ∙ lanes_w

  zones_x : x.zones ≡ v.zones
  zones_x = ap (λ (z : View). z.zones) made.same ∙ found.zones

  -- no other word changed than the descriptor and the bitmap
  other_word : (i : ℕ) → i ≢ lane_descriptor w.lanes page → i ≢ bitmap_word page → slice_index x.words i ≡ slice_index v.words i
  other_word i apart beside = made.others i apart beside ∙ ap (λ (ws : List ℕ). slice_index ws i) words_w

  -- ---- what was reserved is so still

  bits_still : (other : Occ) (bit : ℕ) → bit < 64 → (other ≡ zone_at w.lanes page → bit_at (2 ^ chunk_bit w.lanes page) bit ≢ 1) → reserves v other bit ≡ true → reserves x other bit ≡ true
  bits_still other bit few apart own =
      let has = has_bit other bit in
      let before : reserves w other bit ≡ true = reserved_before w v.reserved (taken_chunks zone chunk 1 ∷ []) run.made.reserved other bit own in
      ap (list_any has) made.reserved
      ∙ (list_any-append has (without_chunk w page) (first_block page ∷ [])
      ∙ or_left (list_any has (without_chunk w page)) (list_any has (first_block page ∷ [])) (vacated_after (zone_at w.lanes page) (2 ^ chunk_bit w.lanes page) (chunk_small w.lanes page) other bit w.reserved few apart before))

  -- the word that describes a chunk is not the bitmap of another
  no_bitmap : (c : ℕ) → descriptor_word v.lanes c ≢ bitmap_word page
  no_bitmap c same = let lanes = lanes_w in let few = low in absurd (omega (arith, same, lanes, few))

  undescribed : slice_index v.words (lane_descriptor w.lanes page) ≡ 0
  undescribed = ap (λ n. slice_index v.words (lane_descriptor n (page_in n zone chunk))) lanes_w ∙ unused.undescribed

  runs_still : (c many index : ℕ) → c < 64 * v.zones → index < 64 → slice_index v.words (descriptor_word v.lanes c) ≡ descriptor_of (Lines many) → reserves v (run_at v.lanes c) index ≡ true
      → (slice_index x.words (descriptor_word v.lanes c) ≡ descriptor_of (Lines many)) × (reserves x (run_at v.lanes c) index ≡ true)
  runs_still c many index in_pool few is own = (
    other_word (descriptor_word v.lanes c)
        (λ same. let zero = undescribed in let here : slice_index v.words (lane_descriptor w.lanes page) ≡ descriptor_of (Lines many) = ap (slice_index v.words) (sym same) ∙ is in absurd (omega (arith, zero, here)))
        (no_bitmap c) ∙ is,
    bits_still (run_at v.lanes c) index few (λ same. absurd (run_no_zone _ _ same)) own,
  )

  chunks_still : (other k : ℕ) → other < v.zones → k < 64 → IsUnusedChunk v.lanes v other k → IsUnusedChunk v.lanes x other k
  chunks_still other k in_pool few t = record {
    reserved = bits_still (Zone other) k few
        (λ same set.
        let bit : k ≡ chunk_bit w.lanes page = ⊎_elim (λ (e : k ≡ chunk_bit w.lanes page). e) (λ (e : k ≢ chunk_bit w.lanes page). absurd (let clear = bit_at-pow_other (chunk_bit w.lanes page) k e in omega (arith, clear, set))) (cases_eq k (chunk_bit w.lanes page)) in
        let had : reserves v (zone_at w.lanes page) (chunk_bit w.lanes page) ≡ true = ap (reserves v (zone_at w.lanes page)) (sym bit) ∙ (ap (λ at. reserves v at k) (sym same) ∙ t.reserved) in
        absurd (false≢true (sym unused.no_chunk ∙ (ap (λ n. reserves v (zone_at n (page_in n zone chunk)) (chunk_bit n (page_in n zone chunk))) (sym lanes_w) ∙ had))))
        t.reserved;
    undescribed = other_word (descriptor_word v.lanes (64 * other + k))
        (λ same.
        let lanes = lanes_w in let small = low in
        let zone_too : other ≡ zone = omega (arith, same, lanes, small, few) in
        let chunk_too : k ≡ chunk = omega (arith, same, lanes, small, few) in
        absurd (false≢true (sym chunk_not_had ∙ ((λ j. reserves v (Zone (sym zone_too j)) (sym chunk_too j)) ∙ t.reserved))))
        (no_bitmap (64 * other + k)) ∙ t.undescribed;
  }

  -- ---- its block

  abbrev c : ℕ
  c = 64 * zone + chunk

  module _ (n : NewObject) (is : block_of n ≡ block) where
    own_first : IsReservedInRun x n
    own_first =
        let in_zones = free.in_zones in let zones = zones_x in let few = low in let lanes = lanes_w in
        let word : descriptor_word v.lanes c ≡ lane_descriptor w.lanes page = omega (arith, few, lanes) in
        let described = made.described in
        let at_page : 4096 * page ≡ 4096 * (2 + 2 * v.lanes + 65 * (c / 64) + c % 64) = omega (arith, few, lanes) in
        let place : 4096 * page_in v.lanes zone chunk + 64 ≡ block_place (8 * chunk_word v.lanes c) lines 0 = omega (arith, few) in
        record {
          chunk = c;
          lines = lines;
          index = 0;
          in_pool = omega (arith, in_zones, zones, few);
          low = omega arith;
          described = ap (λ m. slice_index x.words (descriptor_word m c)) lanes_x ∙ (ap (slice_index x.words) word ∙ (described ∙ (let e : run_descriptor lines ≡ descriptor_of (Lines lines) = omega arith in e)));
          reserved = ap (λ m. reserves x (run_at m c) 0) lanes_x ∙ (ap (λ p. reserves x (Run p) 0) (sym at_page) ∙ reserved_last x (without_chunk w page) (first_block page) made.reserved 0 refl);
          is_block = is ∙ (run.is_block ∙ (ap (λ p. let b : Block = record { place = p; lines = lines } in b) place ∙ ap (λ m. block_of_run m c lines 0) (sym lanes_x)));
        }

  pub new_held : CanHold v.lanes v.zones (Lines lines) (block.place + 64)
  new_held =
      let place = ap (λ (b : Block). b.place) run.is_block in
      record { zone = zone; chunk = chunk; zone_in_range = free.in_zones; chunk_in_range = low; begins = (0, class, omega (arith, place)) }

  -- ---- what the lane knew, it held, and so no word of the chunk

  module _ (sw : StandsAlone o header pool w) where
    fits : LaneFits o (memory_of v) (settled o s.log s.decided) (Flies s.log s.decided 0) 0 v
    fits = own_fits o header pool v s

    lanes_v : v.lanes ≡ o.lanes
    lanes_v = fits.lane.lanes

    unheld : (i : ℕ) → page_told w.lanes i ≡ page → is_in_area v.lane i ≡ false → is_held v i ≡ true → ⊥
    unheld i told out held = ⊎_elim
        (λ (core : (is_in_area v.lane i || list_any (is_under i) v.locks) ≡ true). ⊎_elim
        (λ (area : is_in_area v.lane i ≡ true). false≢true (sym out ∙ area))
        (λ (under : list_any (is_under i) v.locks ≡ true). reserved_in_none o header pool w sw i (chunk_reserved w page i chunk_here can_make.reserved told) (locked_in_block o header pool v s all i under))
        (or_cases (is_in_area v.lane i) (list_any (is_under i) v.locks) core))
        (λ (own : is_reserved v i ≡ true). by_bit (reserved_bit o (memory_of v) v i lanes_v fits.blocks own))
        (or_cases (is_in_area v.lane i || list_any (is_under i) v.locks) (is_reserved v i) held) where
          told_v : page_in v.lanes zone chunk ≡ page_told o.lanes i
          told_v = sym page_is ∙ (sym told ∙ ap (λ n. page_told n i) (lanes_w ∙ lanes_v))

          by_bit : ((reserves v (zone_at o.lanes (page_told o.lanes i)) (chunk_bit o.lanes (page_told o.lanes i)) ≡ true)
              ⊎ (IsChunk o.lanes (i / 512) × (reserves v (Run (4096 * (i / 512))) ((i % 512 / 8 - 1) / (heap_words o (memory_of v) (lane_descriptor o.lanes (i / 512)) / 256)) ≡ true))) → ⊥
          by_bit (inl had) = false≢true (sym unused.no_chunk ∙ ((λ j. reserves v (zone_at (lanes_v j) (told_v j)) (chunk_bit (lanes_v j) (told_v j))) ∙ had))
          by_bit (inr t) =
              let b : ℕ = (i % 512 / 8 - 1) / (heap_words o (memory_of v) (lane_descriptor o.lanes (i / 512)) / 256) in
              let at_page : page_in v.lanes zone chunk ≡ i / 512 = told_v ∙ chunk_word_here o.lanes i t.0.1 in
              false≢true (sym (unused.no_block b) ∙ (ap (λ p. reserves v (run_on p) b) at_page ∙ t.1))

    held_before : (i : ℕ) → Contains v.known i → is_held v i ≡ true
    held_before i there = fits.picture.held i there

    first_told : page_told w.lanes (bitmap_word page) ≡ page
    first_told =
        let here : bitmap_word page / 512 ≡ page = omega arith in
        chunk_word_here w.lanes (bitmap_word page) (subst (λ p. 1 ≤ chunk_of w.lanes p) (sym here) chunk_here.1) ∙ here

    words_still : (i : ℕ) → Contains v.known i → is_in_area v.lane i ≡ false → slice_index x.words i ≡ slice_index v.words i
    words_still i there out = other_word i
        (λ same. unheld i (ap (page_told w.lanes) same ∙ descriptor_tells w.lanes page chunk_here) out (held_before i there))
        (λ same. unheld i (ap (page_told w.lanes) same ∙ first_told) out (held_before i there))

    abbrev left : View
    left = record w { reserved = without_chunk w page }

    abbrev left_then : View
    left_then = record x { reserved = without_chunk w page }

    -- the descriptor of a run that it has blocks of is as it was
    run_described : (place bit : ℕ) → reserves left (Run place) bit ≡ true → slice_index left_then.words (lane_descriptor o.lanes (place / 4096)) ≡ slice_index left.words (lane_descriptor o.lanes (place / 4096))
    run_described place bit has =
        let fits_w = own_fits o header pool w sw in
        let before : reserves w (Run place) bit ≡ true = vacated_before (zone_at w.lanes page) (2 ^ chunk_bit w.lanes page) (chunk_small w.lanes page) (Run place) bit w.reserved has in
        let of = reserved_of_pool o (heap_words o (memory_of w)) w (Run place) bit fits_w.blocks before in
        let whole = of.0 in
        let other : place / 4096 ≢ page = λ same.
        let place_is : place ≡ 4096 * page = omega (arith, whole, same) in
        false≢true (sym (can_make.no_block bit) ∙ (ap (λ p. reserves w (Run p) bit) (sym place_is) ∙ before)) in
        let its : IsChunk w.lanes (place / 4096) = subst (λ n. IsChunk n (place / 4096)) (sym fits_w.lane.lanes) of.1 in
        ap (λ n. slice_index x.words (lane_descriptor n (place / 4096))) (sym fits_w.lane.lanes)
        ∙ (made.others (lane_descriptor w.lanes (place / 4096)) (descriptors_apart w.lanes page (place / 4096) chunk_here its other)
        (λ same. let from = its.0 in let any = its.1 in let some = chunk_here.1 in let behind = chunk_here.0 in absurd (omega (arith, from, any, some, behind, same)))
        ∙ ap (λ n. slice_index w.words (lane_descriptor n (place / 4096))) fits_w.lane.lanes)

    reserved_still : (i : ℕ) → page_told w.lanes i ≢ page → is_reserved v i ≡ true → is_reserved x i ≡ true
    reserved_still i beside own =
        let of_w = λ (t : Taken). covers w.lanes w.words t.at t.bits i in
        let of_x = λ (t : Taken). covers x.lanes x.words t.at t.bits i in
        let in_w : is_reserved w i ≡ true =
        ap (list_any of_w) run.made.reserved ∙ (list_any-append of_w v.reserved (taken_chunks zone chunk 1 ∷ [])
        ∙ or_left (list_any of_w v.reserved) (list_any of_w (taken_chunks zone chunk 1 ∷ [])) ((λ j. list_any (λ (t : Taken). covers (lanes_w j) (words_w j) t.at t.bits i) v.reserved) ∙ own)) in
        let apart : covers w.lanes w.words (zone_at w.lanes page) (2 ^ chunk_bit w.lanes page) i ≡ false =
        false_from_ne_true (covers w.lanes w.words (zone_at w.lanes page) (2 ^ chunk_bit w.lanes page) i) (λ e. beside (covers_chunk w.lanes page chunk_here w.words i e)) in
        let in_left : is_reserved left i ≡ true = covered_still (zone_at w.lanes page) (2 ^ chunk_bit w.lanes page) (chunk_small w.lanes page) w.lanes w.words i w.reserved apart in_w in
        let in_then : is_reserved left_then i ≡ true = reserved_again o left left_then i (own_fits o header pool w sw).lane.lanes (ap (λ (z : View). z.lanes) made.same) refl run_described in_left in
        ap (list_any of_x) made.reserved ∙ (list_any-append of_x (without_chunk w page) (first_block page ∷ []) ∙ or_left (list_any of_x (without_chunk w page)) (list_any of_x (first_block page ∷ [])) in_then)

    held_still : (i : ℕ) → is_held v i ≡ true → is_held x i ≡ true
    held_still i held =
        let lane : x.lane ≡ v.lane = ap (λ (z : View). z.lane) made.same ∙ found.lane in
        let locks : x.locks ≡ v.locks = ap (λ (z : View). z.locks) made.same ∙ found.locks in
        let area : Bool = is_in_area x.lane i in
        let under : Bool = list_any (is_under i) x.locks in
        ⊎_elim
        (λ (inside : is_in_area v.lane i ≡ true). or_left (area || under) (is_reserved x i) (or_left area under (ap (λ n. is_in_area n i) lane ∙ inside)))
        (λ (out : is_in_area v.lane i ≡ false). ⊎_elim
        (λ (core : (is_in_area v.lane i || list_any (is_under i) v.locks) ≡ true). or_left (area || under) (is_reserved x i) ((λ j. is_in_area (lane j) i || list_any (is_under i) (locks j)) ∙ core))
        (λ (own : is_reserved v i ≡ true). or_right (area || under) (is_reserved x i) (reserved_still i (λ told. unheld i told out held) own))
        (or_cases (is_in_area v.lane i || list_any (is_under i) v.locks) (is_reserved v i) held))
        (cases_Bool (is_in_area v.lane i))

    lane_made : IsSameLane w x
    lane_made = record {
      lanes = ap (λ (z : View). z.lanes) made.same;
      zones = ap (λ (z : View). z.zones) made.same;
      pool = ap (λ (z : View). z.pool) made.same;
      lane = ap (λ (z : View). z.lane) made.same;
      stop = ap (λ (z : View). z.stop) made.same;
      table = ap (λ (z : View). z.table) made.same;
      size = made.size;
    }

    pub new_gains : (n : NewObject) → block_of n ≡ block → Gains v x n
    unfolding own_first
    new_gains n is = record {
      still = record {
        lanes = lanes_x;
        zones = zones_x;
        pool = ap (λ (z : View). z.pool) made.same ∙ found.pool;
        lane = ap (λ (z : View). z.lane) made.same ∙ found.lane;
        entries = ap (λ (z : View). z.entries) made.same ∙ found.entries;
        call = ap (λ (z : View). z.call) made.same ∙ found.call;
        locks = ap (λ (z : View). z.locks) made.same ∙ found.locks;
        log = ap (λ (z : View). z.log) made.same ∙ found.log;
        known = λ i there. made_remembers w w.lanes page lines i (found.known i there) (held_still i (held_before i there));
        same_lane = same_lane-then v w x found.same_lane lane_made;
        number = ap (λ (z : View). z.number) made.same ∙ found.number;
        seen = λ s there. subst (λ (seen : List Step). Contains seen s) (sym (ap (λ (z : View). z.seen) made.same)) (found.seen s there);
      };
      keeps = record { runs = runs_still; chunks = chunks_still };
      own = inl (own_first n is);
      free =
          let few = low in
          let at_page : run_at v.lanes c ≡ run_on (page_in v.lanes zone chunk) = ap Run (omega (arith, few)) in
          ap (λ at. reserves v at 0) at_page ∙ unused.no_block 0;
      within = class;
      words = words_still;
      root = other_word 64 (λ same. let behind = chunk_here.0 in absurd (omega (arith, same, behind))) (λ same. absurd (omega (arith, same)));
    }
