-- A chunk that the lane reserved becomes a run without blocks: its descriptor is stored.
use Rattle.std.proofs.Common.{◌≡◌, ◌≢◌, ℕ, ◌+◌, ◌*◌, ◌<◌, ◌≤◌, ◌⊎◌, inr, Bool, true, List, length, slice_index, refl, sym, ap, ◌∙◌, subst, arith, inl, ◌/◌, ◌%◌, ⊎_elim, false, not, leb, eqb, ◌&&◌, ◌||◌, cond, All, get_or, eq-eqb, ne_eqb}
use Rattle.std.proofs.lemmas.Bool.{false≢true, and_from, and_parts, cases_eq, eqb-true, or_cases, or_left, or_right, cases_Bool}
use Rattle.std.proofs.lemmas.List.Elements.{All-push, All-weaker}
use Rattle.solo_view.specs.Area.{area_word, is_in_area}
use Rattle.solo_view.specs.Changes.{store_change}
use Rattle.solo_view.specs.Counts.{MayCount, HasRoom}
use Rattle.solo_view.specs.Held.{is_reserved}
use Rattle.solo_view.specs.Log.Phase.{Open}
use Rattle.solo_view.specs.Occupancy.{is_idle, describes_free, is_chunk_taken, is_taken, reaches}
use Rattle.solo_view.specs.View.{View}
use Rattle.solo_view.specs.Views.{changed, chunk_bit, has_bit, has_chunk, reserves, zone_at}
use Rattle.pm_image.specs.Logs.{slot_line}
use Rattle.solo_world.specs.Entries.{entry_word, is_redoing}
use Rattle.solo_world.specs.Fits.{OpenChange, LaneFits, LogFits, PhaseFits, ReservedChange, IsDescriptorSeen}
use Rattle.solo_world.specs.History.{Entry, Flies, settled}
use Rattle.solo_world.specs.Laws.{with_view}
use Rattle.solo_world.specs.Lawful.{generation_limit, MayDescribe}
use Rattle.solo_world.specs.Memory.{Memory, Becomes, occ_at}
use Rattle.solo_world.specs.Memory.Location.{PoolWord, ZoneWord}
use Rattle.solo_world.specs.Opening.{Opening, IsChunk, IsPoolChunk, is_free_chunk}
use Rattle.solo_world.specs.Records.{generation_of, slot_word, is_logged, records_generation}
use Rattle.solo_world.specs.World.{Views, World}
use Rattle.solo_world.proofs.Aside.{IsAside, reserved_aside, had_reserved}
use Rattle.solo_world.proofs.Pairs.{entries_again, in_log_before, none_redone}
use Rattle.solo_world.proofs.Recoursed.{logged_upto, open_again, used_again}
use Rattle.solo_world.proofs.Stored.{IsOwnWord, log_beside, other_word, stored_stays, this_word, world_after}
use Rattle.solo_world.proofs.StoreWord.{drained_more}
use Rattle.solo_world.proofs.Worlds.{own}
use Rattle.solo_view.specs.declared.change.Change.{Change}
use Rattle.std.specs.Int.{bit_at}
use Rattle.std.specs.List.{list_any, range_with_len}
use Rattle.std.proofs.lemmas.List.Folds.{Any-from_list_any}
use Rattle.pm_layout.specs.Sizes.{blocks_of}
use Rattle.solo_view.specs.declared.occ.Occ.{Occ}
use Rattle.solo_view.specs.declared.occ.Occ.TheVariants.{Run, Zone}
use Rattle.solo_view.specs.Blocks.{bitmap_word, descriptor_word, describes, is_chunk, is_run, tells_nothing, zone_of, zone_page}
use Rattle.solo_world.specs.Heap.{AreNewRuns, BlocksFit, Heap, IsFree, IsOcc, SomeHasTaken, describing, has_taken, heap_words, is_free_bitmap}
use Rattle.solo_world.proofs.Chunks.{chunk_here}
use Rattle.solo_world.proofs.Frame.{HeapFits, view_here}
use Rattle.solo_world.proofs.Heaps.{beside_same, heap_still}
use Rattle.solo_world.proofs.HeapWords.{describes_it, free_descriptor, no_run_taken, taken_before, taken_still}
use Rattle.solo_world.proofs.Locations.{other_pool, plain_pool}
use Rattle.solo_world.proofs.Reserved.{chunk_seen, chunk_was_free, descriptor_reserved, reserved_again, reserved_low, reserved_of_pool}

module _ (o : Opening) (old : Memory) (views : Views) (log : List Entry) (decided : ℕ → Bool) (world : World o old views log decided) (k : ℕ) (inside : k < o.lanes) (v : View) (is : views k ≡ v)
    (new : Memory) (w x : ℕ) (moves : Becomes (PoolWord w) x old new) (in_pool : w < length v.words) (may : MayCount v) (room : HasRoom v.changes) where
  module _ (d : MayDescribe v w x) where
    mine : LaneFits o old (settled o log decided) (Flies log decided k) k v
    mine = own o old views log decided world k inside v is

    abbrev page : ℕ
    page = d.page

    abbrev heap : ℕ → ℕ
    heap = heap_words o old

    abbrev heap' : ℕ → ℕ
    heap' = heap_words o new

    chunk : IsChunk o.lanes d.page
    chunk = subst (λ n. IsChunk n d.page) mine.lane.lanes d.chunk

    pub at_word : w ≡ descriptor_word o.lanes d.page
    at_word = d.at ∙ ap (λ n. descriptor_word n d.page) mine.lane.lanes

    free : is_free_chunk (slice_index o.words) o.lanes d.page ≡ true
    free = chunk_was_free o old v mine.lane.lanes mine.blocks d.page d.reserved

    -- the lane reserved the chunk's bit
    has_bit_here : reserves v (zone_at o.lanes d.page) (chunk_bit o.lanes d.page) ≡ true
    has_bit_here = ap (λ n. reserves v (zone_at n d.page) (chunk_bit n d.page)) (sym mine.lane.lanes) ∙ d.reserved

    in_zones : zone_of o.lanes d.page < o.zones
    in_zones = reserved_of_pool o heap v (zone_at o.lanes d.page) (chunk_bit o.lanes d.page) mine.blocks has_bit_here

    pool_chunk : IsPoolChunk o.lanes o.zones d.page
    pool_chunk = let low = chunk.0 in let some = chunk.1 in let few = in_zones in (chunk, omega (arith, low, some, few))

    -- the descriptor was 0, and is x
    was_zero : heap (descriptor_word o.lanes d.page) ≡ 0
    was_zero = sym (chunk_seen o old v mine.lane.lanes mine.blocks d.page chunk d.reserved) ∙ (ap (slice_index v.words) (sym d.at) ∙ d.undescribed)

    pub memory_zero : old (PoolWord (descriptor_word o.lanes d.page)) ≡ 0
    memory_zero = sym (free_descriptor o old d.page chunk free) ∙ was_zero

    is_now : heap' (descriptor_word o.lanes d.page) ≡ x
    is_now = free_descriptor o new d.page chunk free ∙ (ap (λ u. new (PoolWord u)) (sym at_word) ∙ moves.1)

    was_no_run : is_run (heap (descriptor_word o.lanes d.page)) ≡ false
    was_no_run = ap is_run was_zero

    now_run : is_run x ≡ true
    now_run = let is_x = d.is in eq-eqb (x % 256) 1 (omega (arith, is_x))

    -- other words tell what they told
    beside : (u : ℕ) → u ≢ w → heap' u ≡ heap u
    beside u differ = ap (λ y. cond (describes_free (slice_index o.words) o.lanes u) y (cond (is_free_bitmap o u) 0 (slice_index o.words u))) (moves.0 (PoolWord u) (other_pool u w differ))

    -- which are all descriptors of other chunks
    other_page : (p : ℕ) → IsChunk o.lanes p → p ≢ d.page → descriptor_word o.lanes p ≢ w
    other_page p other differ same = differ (let here = at_word in let low = other.0 in let some = other.1 in let low' = chunk.0 in let some' = chunk.1 in omega (arith, here, low, some, low', some', same))

    -- and all bitmaps
    no_bitmap_word : (p : ℕ) → IsChunk o.lanes p → bitmap_word p ≢ w
    no_bitmap_word p other same = let here = at_word in let some = other.1 in let some' = chunk.1 in absurd (omega (arith, here, some, some', same))

    -- a run's descriptor is another
    run_other : (p : ℕ) → IsChunk o.lanes p → is_run (heap (descriptor_word o.lanes p)) ≡ true → descriptor_word o.lanes p ≢ w
    run_other p other run same = false≢true (sym was_no_run ∙ (ap (λ u. is_run (heap u)) (sym (same ∙ at_word)) ∙ run))

    -- ---- the bitmap is 0

    memory_bitmap : old (PoolWord (bitmap_word d.page)) ≡ 0
    memory_bitmap = by_known (or_cases (is_in_area v.lane (bitmap_word d.page)) (list_any (λ other. eqb other (bitmap_word d.page)) v.known) d.known) ∙ d.no_block where
      by_known : (is_in_area v.lane (bitmap_word d.page) ≡ true) ⊎ (list_any (λ other. eqb other (bitmap_word d.page)) v.known ≡ true) → old (PoolWord (bitmap_word d.page)) ≡ slice_index v.words (bitmap_word d.page)
      by_known (inl area) = mine.picture.area (bitmap_word d.page) area
      by_known (inr listed) =
          let t = Any-from_list_any (λ other. eqb other (bitmap_word d.page)) v.known listed in
          mine.picture.known (bitmap_word d.page) (t.0, t.2, subst (λ y. get_or v.known t.0 y ≡ y) (eqb-true t.1 (bitmap_word d.page) t.4) t.3)

    runs_then : AreNewRuns o (λ u. new (PoolWord u))
    runs_then p in_pool_ was_free =
        ⊎_elim
        (λ (here : p ≡ d.page). inr (record {
          lines = d.lines;
          some_blocks = d.some_blocks;
          described = ap (λ q. new (PoolWord (descriptor_word o.lanes q))) here ∙ (ap (λ u. new (PoolWord u)) (sym at_word) ∙ (moves.1 ∙ d.is));
          no_block = ap (λ q. new (PoolWord (bitmap_word q))) here ∙ (moves.0 (PoolWord (bitmap_word d.page)) (other_pool (bitmap_word d.page) w (no_bitmap_word d.page chunk)) ∙ memory_bitmap);
        }))
        (λ (differ : p ≢ d.page).
        let same = moves.0 (PoolWord (descriptor_word o.lanes p)) (other_pool (descriptor_word o.lanes p) w (other_page p in_pool_.0 differ)) in
        ⊎_elim (λ (zero_word : old (PoolWord (descriptor_word o.lanes p)) ≡ 0). inl (same ∙ zero_word))
        (λ run. inr (record { lines = run.lines; some_blocks = run.some_blocks; described = same ∙ run.described; no_block = moves.0 (PoolWord (bitmap_word p)) (other_pool (bitmap_word p) w (no_bitmap_word p in_pool_.0)) ∙ run.no_block }))
        (world.new_runs p in_pool_ was_free))
        (cases_eq p d.page)

    -- ---- what lanes have of the heap

    -- what a lane reserved of a run is free still
    still_free : (u : View) → BlocksFit o heap u → (at : Occ) (bit : ℕ) → reserves u at bit ≡ true → IsFree o heap' at bit
    still_free u fits (Zone zone) bit has = fits.free (Zone zone) bit has
    still_free u fits (Run place) bit has =
        let p : ℕ = place / 4096 in
        let of = reserved_of_pool o heap u (Run place) bit fits has in
        let clear = fits.free (Run place) bit has in
        let run : is_run (heap (descriptor_word o.lanes p)) ≡ true = is_free_run place bit clear in
        let told = beside (descriptor_word o.lanes p) (run_other p of.1 run) in let bitmap = beside (bitmap_word p) (no_bitmap_word p of.1) in
        (λ i. not (is_run (told i)) || leb (blocks_of (told i / 256)) bit || eqb (bit_at (bitmap i) bit) 1) ∙ clear
      where
        is_free_run : (at_place b : ℕ) → is_taken heap o.lanes (Run at_place) b ≡ false → is_run (heap (descriptor_word o.lanes (at_place / 4096))) ≡ true
        is_free_run at_place b clear = ⊎_elim (λ (run : is_run (heap (descriptor_word o.lanes (at_place / 4096))) ≡ true). run)
            (λ (none : is_run (heap (descriptor_word o.lanes (at_place / 4096))) ≡ false). absurd (false≢true (sym clear ∙ no_run_taken heap o.lanes at_place b none))) (cases_Bool (is_run (heap (descriptor_word o.lanes (at_place / 4096)))))

    -- where a word that describes what a lane reserved is this one, it is of the chunk's bit
    describes_here : (u : View) → BlocksFit o heap u → (at : Occ) (bit : ℕ) → reserves u at bit ≡ true → describing o.lanes at bit ≡ w → has_taken u (zone_at o.lanes d.page) (chunk_bit o.lanes d.page) ≡ true
    describes_here u fits (Run place) bit has same =
        let of = reserved_of_pool o heap u (Run place) bit fits has in
        absurd (false≢true (sym (fits.free (Run place) bit has) ∙ no_run_taken heap o.lanes place bit (ap (λ z. is_run (heap z)) (same ∙ at_word) ∙ was_no_run)))
    describes_here u fits (Zone zone) bit has same =
        let low : bit < 64 = reserved_low o heap u (Zone zone) bit fits has in
        let here = at_word in let low' = chunk.0 in let some = chunk.1 in
        let zoned : zone ≡ zone_of o.lanes d.page = omega (arith, here, same, low, low', some) in
        let number : bit ≡ chunk_bit o.lanes d.page = omega (arith, here, same, low, low', some) in
        had_reserved u (zone_at o.lanes d.page) (chunk_bit o.lanes d.page) ((λ i. reserves u (Zone (sym zoned i)) (sym number i)) ∙ has)

    seen_then : (u : View) → ((p : ℕ) → IsChunk o.lanes p → IsDescriptorSeen o heap u (descriptor_word o.lanes p)) → (p : ℕ) → IsChunk o.lanes p → IsDescriptorSeen o heap' u (descriptor_word o.lanes p)
    seen_then u seen p other = ⊎_elim inl
        (λ (now : slice_index u.words (descriptor_word o.lanes p) ≡ heap (descriptor_word o.lanes p)).
        ⊎_elim (λ (here : p ≡ d.page). inl (now ∙ (ap (λ q. heap (descriptor_word o.lanes q)) here ∙ (was_zero ∙ (sym (world.sound.undescribed d.page pool_chunk free) ∙ ap (λ q. slice_index o.words (descriptor_word o.lanes q)) (sym here))))))
        (λ (differ : p ≢ d.page). inr (now ∙ sym (beside (descriptor_word o.lanes p) (other_page p other differ)))) (cases_eq p d.page))
        (seen p other)

    others_heap : (j : ℕ) → j < o.lanes → j ≢ k → HeapFits o heap' (views j)
    others_heap j low differ =
        let its = world.each_lane j low in record {
          descriptors = seen_then (views j) its.picture.descriptors;
          blocks = record {
            of_pool = its.blocks.of_pool;
            small = its.blocks.small;
            free = still_free (views j) its.blocks;
            described = λ at bit has. its.blocks.described at bit has ∙ sym (beside (describing o.lanes at bit) (λ same. differ (world.heap.apart j k (zone_at o.lanes d.page) (chunk_bit o.lanes d.page) low inside
                (describes_here (views j) its.blocks at bit has same) (ap (λ u. has_taken u (zone_at o.lanes d.page) (chunk_bit o.lanes d.page)) is ∙ had_reserved v (zone_at o.lanes d.page) (chunk_bit o.lanes d.page) has_bit_here))));
            freed = its.blocks.freed;
          };
        }

    right : IsOwnWord v w
    right = inr (inr (subst (λ u. is_reserved v u ≡ true) (sym d.at) (descriptor_reserved v d.page d.chunk d.reserved)))

    abbrev c : Change
    c = store_change w (slice_index v.words w) x

    abbrev v' : View
    v' = changed v w x c v.log

    here_word : slice_index v'.words w ≡ x
    here_word = this_word o old views log decided world k inside v is new w x moves in_pool may room

    others : (u : ℕ) → u ≢ w → slice_index v'.words u ≡ slice_index v.words u
    others = other_word o old views log decided world k inside v is new w x moves in_pool may room

    own_heap : HeapFits o heap' v'
    own_heap = record {
      descriptors = λ p other. ⊎_elim
          (λ (here : p ≡ d.page). let this : descriptor_word o.lanes p ≡ w = ap (descriptor_word o.lanes) here ∙ sym at_word in inr (ap (slice_index v'.words) this ∙ (here_word ∙ (sym is_now ∙ ap (λ q. heap' (descriptor_word o.lanes q)) (sym here)))))
          (λ (differ : p ≢ d.page). subst (λ y. (y ≡ slice_index o.words (descriptor_word o.lanes p)) ⊎ (y ≡ heap' (descriptor_word o.lanes p))) (sym (others (descriptor_word o.lanes p) (other_page p other differ))) (seen_then v mine.picture.descriptors p other))
          (cases_eq p d.page);
      blocks = record {
        of_pool = mine.blocks.of_pool;
        small = mine.blocks.small;
        free = still_free v mine.blocks;
        described = λ at bit has. ⊎_elim
            (λ (this : describing o.lanes at bit ≡ w). ap (slice_index v'.words) this ∙ (here_word ∙ (sym is_now ∙ ap heap' (sym at_word ∙ sym this))))
            (λ (differ : describing o.lanes at bit ≢ w). others (describing o.lanes at bit) differ ∙ (mine.blocks.described at bit has ∙ sym (beside (describing o.lanes at bit) differ)))
            (cases_eq (describing o.lanes at bit) w);
        freed = mine.blocks.freed;
      };
    }

    -- the run's descriptors that tell the lines of what it reserved are as they were
    still : (u : ℕ) → is_reserved v u ≡ true → is_reserved v' u ≡ true
    still u = reserved_again o v v' u mine.lane.lanes refl refl (λ place bit has. others (descriptor_word o.lanes (place / 4096)) (λ same.
        false≢true (sym (mine.blocks.free (Run place) bit has) ∙ no_run_taken heap o.lanes place bit (ap (λ z. is_run (heap z)) (same ∙ at_word) ∙ was_no_run))))

    -- an undrained change in what it reserved is one still: none is of the bitmap
    change_then : (n : Change) → n.word ≢ bitmap_word d.page → ReservedChange v n → ReservedChange v' n
    change_then n apart of = record {
      reserved = still n.word of.reserved;
      plain = ⊎_elim (λ (tells : tells_nothing v.lanes v.words n.word ≡ true). inl (by_page tells (cases_eq (descriptor_word v.lanes (n.word / 512)) w))) (λ found. inr found) of.plain;
    }
      where
        by_page : tells_nothing v.lanes v.words n.word ≡ true → (descriptor_word v.lanes (n.word / 512) ≡ w) ⊎ (descriptor_word v.lanes (n.word / 512) ≢ w) → tells_nothing v.lanes v'.words n.word ≡ true
        by_page tells (inr differ) = ap (λ y. is_chunk v.lanes (n.word / 512) && not (eqb (n.word % 512) 0 && is_run y)) (others (descriptor_word v.lanes (n.word / 512)) differ) ∙ tells
        by_page tells (inl same) =
            let t = and_parts (is_chunk v.lanes (n.word / 512)) (not (eqb (n.word % 512) 0 && is_run (slice_index v.words (descriptor_word v.lanes (n.word / 512))))) tells in
            let its = chunk_here v.lanes (n.word / 512) t.0 in
            let here : n.word / 512 ≡ d.page = let at = d.at in let low = its.0 in let some = its.1 in let low' = d.chunk.0 in let some' = d.chunk.1 in omega (arith, at, same, low, some, low', some') in
            let behind : eqb (n.word % 512) 0 ≡ false = ne_eqb (n.word % 512) 0 (λ first. apart (omega (arith, first, here))) in
            and_from (is_chunk v.lanes (n.word / 512)) (not (eqb (n.word % 512) 0 && is_run (slice_index v'.words (descriptor_word v.lanes (n.word / 512))))) t.0 (ap (λ b. not (b && is_run (slice_index v'.words (descriptor_word v.lanes (n.word / 512))))) behind)

    -- ---- the heap

    abbrev views' : Views
    views' = with_view views k v'

    has_then : Heap o heap new views'
    has_then = heap_still o heap old new views k v v' is world.heap (beside_same old new (PoolWord w) (plain_pool w) moves.0) (record { lanes = refl; reserved = refl; freed = refl; zones = refl })

    -- the lane has each block of the run that it makes
    has_run : (place bit : ℕ) → place / 4096 ≡ d.page → has_taken v' (Run place) bit ≡ true
    has_run place bit here =
        or_left (reserves v' (Run place) bit || has_chunk v' (place / 4096)) (list_any (has_bit (Run place) bit) v'.freed) (or_right (reserves v' (Run place) bit) (has_chunk v' (place / 4096)) (ap (has_chunk v') here ∙ d.reserved))

    has_lane : (at : Occ) (bit : ℕ) → has_taken v' at bit ≡ true → has_taken (views' k) at bit ≡ true
    has_lane at bit e = ap (λ u. has_taken u at bit) (view_here views k v') ∙ e

    taken_then : (at : Occ) (bit : ℕ) → IsOcc o.lanes o.zones at → bit < 64 → is_taken heap o.lanes at bit ≡ true → (is_taken heap' o.lanes at bit ≡ true) ⊎ SomeHasTaken views' o.lanes at bit
    taken_then (Run place) bit of low taken =
        ⊎_elim (λ (here : place / 4096 ≡ d.page). inr (k, inside, has_lane (Run place) bit (has_run place bit here)))
        (λ (differ : place / 4096 ≢ d.page). inl (same_run place bit of differ ∙ taken)) (cases_eq (place / 4096) d.page)
      where
        same_run : (at_place b : ℕ) → IsOcc o.lanes o.zones (Run at_place) → at_place / 4096 ≢ d.page → is_taken heap' o.lanes (Run at_place) b ≡ is_taken heap o.lanes (Run at_place) b
        same_run at_place b is_of differ =
            let told = beside (descriptor_word o.lanes (at_place / 4096)) (other_page (at_place / 4096) is_of.1 differ) in let bitmap = beside (bitmap_word (at_place / 4096)) (no_bitmap_word (at_place / 4096) is_of.1) in
            λ i. not (is_run (told i)) || leb (blocks_of (told i / 256)) b || eqb (bit_at (bitmap i) b) 1
    taken_then (Zone zone) bit of low taken =
        inl (⊎_elim (λ (was : is_chunk_taken (slice_index o.words) o.lanes zone bit ≡ true). taken_still o new runs_then zone bit of low was)
        (λ (run : is_run (heap (512 * zone_page o.lanes zone + bit)) ≡ true).
        let word : ℕ = 512 * zone_page o.lanes zone + bit in
        or_left (is_run (heap' word)) (list_any (reaches heap' o.lanes zone bit) (range_with_len 0 (bit + 1)))
        (ap is_run (beside word (λ same. false≢true (sym was_no_run ∙ (ap (λ u. is_run (heap u)) (sym (same ∙ at_word)) ∙ run)))) ∙ run))
        (taken_before o old world.new_runs zone bit of low taken))

    set_then : (at : Occ) (bit : ℕ) → IsOcc o.lanes o.zones at → bit < 64 → is_taken heap' o.lanes at bit ≡ true → bit_at (new (occ_at at)) bit ≡ 1
    set_then (Run place) bit of low taken =
        ⊎_elim (λ (here : place / 4096 ≡ d.page). has_then.held k (Run place) bit inside of low (has_lane (Run place) bit (has_run place bit here)))
        (λ (differ : place / 4096 ≢ d.page). has_then.taken (Run place) bit of low
        (let told = beside (descriptor_word o.lanes (place / 4096)) (other_page (place / 4096) of.1 differ) in let bitmap = beside (bitmap_word (place / 4096)) (no_bitmap_word (place / 4096) of.1) in
        (λ i. not (is_run (sym told i)) || leb (blocks_of (sym told i / 256)) bit || eqb (bit_at (sym bitmap i) bit) 1) ∙ taken)) (cases_eq (place / 4096) d.page)
    set_then (Zone zone) bit of low taken =
        ⊎_elim (λ (was : is_chunk_taken (slice_index o.words) o.lanes zone bit ≡ true). has_then.taken (Zone zone) bit of low (taken_still o old world.new_runs zone bit of low was))
        (λ (run : is_run (heap' (512 * zone_page o.lanes zone + bit)) ≡ true). by_word run (cases_eq (512 * zone_page o.lanes zone + bit) w))
        (taken_before o new runs_then zone bit of low taken)
      where
        by_word : is_run (heap' (512 * zone_page o.lanes zone + bit)) ≡ true → (512 * zone_page o.lanes zone + bit ≡ w) ⊎ (512 * zone_page o.lanes zone + bit ≢ w) → bit_at (new (ZoneWord zone)) bit ≡ 1
        by_word run (inr differ) = has_then.taken (Zone zone) bit of low
            (or_left (is_run (heap (512 * zone_page o.lanes zone + bit))) (list_any (reaches heap o.lanes zone bit) (range_with_len 0 (bit + 1))) (ap is_run (sym (beside (512 * zone_page o.lanes zone + bit) differ)) ∙ run))
        by_word run (inl same) =
            let here = at_word in let low' = chunk.0 in let some = chunk.1 in
            let zoned : zone ≡ zone_of o.lanes d.page = omega (arith, here, same, low, low', some) in
            let number : bit ≡ chunk_bit o.lanes d.page = omega (arith, here, same, low, low', some) in
            has_then.held k (Zone zone) bit inside of low (has_lane (Zone zone) bit ((λ i. has_taken v' (Zone (zoned i)) (number i)) ∙ had_reserved v' (zone_at o.lanes d.page) (chunk_bit o.lanes d.page) has_bit_here))

    heap_then : Heap o heap' new views'
    heap_then = record {
      set = λ at bit of low one. ⊎_elim (taken_then at bit of low) (λ (s : SomeHasTaken views' o.lanes at bit). inr s) (has_then.set at bit of low one);
      taken = set_then;
      held = has_then.held;
      apart = has_then.apart;
      locked = has_then.locked;
      unlocked = has_then.unlocked;
    }

    pub stores_descriptor : (slot pair : List ℕ) → v.log.phase ≡ Open slot pair → World o new (with_view views k (changed v w x (store_change w (slice_index v.words w) x) v.log)) log decided
    stores_descriptor slot pair e =
        let at_lane = mine.lane.lane in
        let aside : IsAside o views k w = reserved_aside o old views log decided world k w inside (ap (λ u. is_reserved u w) is ∙ subst (λ u. is_reserved v u ≡ true) (sym d.at) (descriptor_reserved v d.page d.chunk d.reserved)) in
        let behind = aside.apart.behind in
        let most = mine.log.most in
        let logged : (u : ℕ) → is_logged v u ≡ true → is_logged v' u ≡ true = λ u. logged_upto v v' 0 v.log.records
        (λ s low. drained_more v.lane s v.changes c (λ same. absurd (omega arith))) u in
        let apart : (s : ℕ) → s < 64 → (w < 8 * slot_line v.lane s) ⊎ (8 * slot_line v.lane s + 8 ≤ w) = λ s low. inr (omega arith) in
        let fits = subst (PhaseFits (Flies log decided k) v) e mine.phase in
        let generation : generation_of v' ≡ generation_of v = others (area_word v.lane) (λ same. absurd (omega arith)) in
        world_after o old views log decided world k inside v is new w x moves in_pool right may room c v.log others_heap (record { runs = runs_then; heap = heap_then })
        (stored_stays o old views log decided world k inside v is new w x moves in_pool right may room c v.log still own_heap
        (subst (LogFits (settled o log decided) v') (subst (λ p. records_generation p v ≡ records_generation p v') (sym e) (sym generation))
        (log_beside o old views log decided world k inside v is new w x moves in_pool may room c v.log.phase (records_generation v.log.phase v) apart (used_again v.log.phase v v' refl) mine.log))
        (entries_again v v' refl refl (λ u low high. others u (λ same. absurd (omega arith))) (λ u own_word. own_word) (λ i f at free. inr free) refl (others (area_word v.lane + 1) (λ same. absurd (omega arith))) mine.entries)
        (λ u again. absurd (false≢true (sym (none_redone v u (ap is_redoing e)) ∙ again)))
        (subst (PhaseFits (Flies log decided k) v') (sym e) (record {
          undrawn = fits.undrawn;
          short = fits.short;
          stands = λ i low. others (slot_word v.lane (length v.log.records) + i) (λ same. absurd (let short = fits.short in omega arith)) ∙ fits.stands i low;
          short_pair = fits.short_pair;
          in_pairs = fits.in_pairs;
          pair_stands = λ i low. let short = fits.short_pair in let few = mine.entries.most in
              others (entry_word v.lane (length v.log.entries) + i) (λ same. absurd (omega arith)) ∙ fits.pair_stands i low;
          changes = All-push (OpenChange v') v.changes c
              (All-weaker (λ (n : Change). OpenChange v n × (n.word ≢ bitmap_word d.page)) (OpenChange v') (λ n of. open_again v v' n refl logged (change_then n of.1) of.0) v.changes
              (All-both v.changes fits.changes d.drained))
              (record { whole = refl; of = inr (inr (inr (record { reserved = still w (subst (λ u. is_reserved v u ≡ true) (sym d.at) (descriptor_reserved v d.page d.chunk d.reserved)); plain = inr (subst (λ u. describes v.lanes u ≡ true) (sym d.at) (describes_it v.lanes d.page d.chunk), d.undescribed) }))) });
        }))
        (subst (λ g. 1 ≤ g) (sym generation) mine.first_generation) (subst (λ g. g ≤ generation_limit) (sym generation) mine.last_generation))
        (λ n flying. flying)
        (λ u living un. (
          (λ this. false≢true (sym living.living ∙ subst (λ z. is_idle (slice_index o.words) o.lanes z ≡ true) (sym this) aside.apart.idle)),
          in_log_before v v' u (logged u) (λ redone. redone) un,
        ))
      where
        All-both : (changes : List Change) → All (OpenChange v) changes → All (λ (n : Change). n.word ≢ bitmap_word d.page) changes → All (λ (n : Change). OpenChange v n × (n.word ≢ bitmap_word d.page)) changes
        All-both changes open_ apart n m low = (open_ n m low, apart n m low)
