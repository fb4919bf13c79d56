-- Bits of an occupancy word that a lane gets keep the world: what they are of was free, and no other lane has it.
use Rattle.std.proofs.Common.{◌≡◌, ◌≢◌, ◌⊎◌, inl, inr, ⊎_elim, ℕ, ◌+◌, ◌<◌, Bool, true, false, not, eqb, ◌||◌, bit_and, bit_or, List, [], ◌∷◌, ◌++◌, slice_index, refl, sym, ap, ◌∙◌, subst, arith, eq-eqb, ◌-◌, ◌/◌, ◌%◌, ◌^◌}
use Rattle.std.specs.Int.{bit_at}
use Rattle.std.specs.List.{list_any}
use Rattle.std.proofs.lemmas.Bool.{and_from, and_parts, cases_Bool, eqb-true, false_from_ne_true, false≢true, or_cases, or_left, or_right}
use Rattle.std.proofs.lemmas.List.Elements.{All-append, All-cons, All-nil}
use Rattle.std.proofs.lemmas.List.Folds.{list_any-append}
use Rattle.std.proofs.lemmas.Nat.Bits.{bit_at-zero}
use Rattle.solo_view.specs.declared.occ.Occ.{Occ}
use Rattle.solo_view.specs.Blocks.{chunk_of, descriptor_word, is_run, zone_of}
use Rattle.solo_view.specs.Held.{is_reserved}
use Rattle.solo_view.specs.Occupancy.{is_taken, is_chunk_taken}
use Rattle.solo_view.specs.Steps.Step.{Occupy}
use Rattle.solo_view.specs.View.{View, Taken}
use Rattle.solo_view.specs.Views.{has_bit, is_same_occ, occ_in, reserves, runs_with, zones_with, chunk_bit, has_chunk, zone_at}
use Rattle.solo_world.specs.Fits.{LaneFits}
use Rattle.solo_world.specs.Heap.{BlocksFit, Heap, IsOcc, SomeHasTaken, SomeHoldsZone, has_taken, holds_zone, IsFree, describing, has_run_chunk, heap_words}
use Rattle.solo_world.specs.History.{Entry, Flies, settled}
use Rattle.solo_world.specs.Laws.{with_view}
use Rattle.solo_world.specs.Lawful.{MayOccupy, IsSeenRun}
use Rattle.solo_world.specs.Memory.{Becomes, Memory, occ_at}
use Rattle.solo_world.specs.Memory.Location.{LockWord, PoolWord, ZoneLock}
use Rattle.solo_world.specs.Opening.{Opening, IsChunk, IsPoolChunk, is_free_chunk}
use Rattle.solo_world.specs.World.{Views, World}
use Rattle.solo_world.proofs.Frame.{view_all, view_here}
use Rattle.solo_world.proofs.Locations.{lock_apart, one_occ, other_occ, plain_lock, plain_pool}
use Rattle.solo_world.proofs.Reheld.{reheld, reheld_fits, reholds}
use Rattle.solo_world.proofs.Reserved.{held_by_parts, occ_same, same_occ, reserved_of_pool}
use Rattle.solo_world.proofs.StepTake.{list_any-left, low_before}
use Rattle.solo_world.proofs.Vacated.{and_bit, low_bit, or_bit_left, or_bit_right, or_bits}
use Rattle.solo_world.proofs.Worlds.{own}
use Rattle.solo_view.specs.declared.occ.Occ.TheVariants.{Run, Zone}
use Rattle.solo_world.proofs.Aside.{had_reserved}
use Rattle.solo_world.proofs.HeapWords.{free_in, free_no_run, now_no_block, page_in, page_in_chunk, page_in_word, taken_descriptor, taken_still, no_run_taken}

pub is_one : (at other : Occ) → (at ≡ other) ⊎ (at ≢ other)
is_one at other =
    ⊎_elim (λ (same : is_same_occ at other ≡ true). inl (occ_same at other same))
    (λ (none : is_same_occ at other ≡ false). inr (λ same. false≢true (sym none ∙ (ap (λ x. is_same_occ x other) same ∙ same_occ other))))
    (cases_Bool (is_same_occ at other))

module _ (o : Opening) (old : Memory) (views : Views) (log : List Entry) (decided : ℕ → Bool) (world : World o old views log decided) (k : ℕ) (inside : k < o.lanes) (v : View) (is : views k ≡ v) where
  mine : LaneFits o old (settled o log decided) (Flies log decided k) k v
  mine = own o old views log decided world k inside v is

  abbrev heap : Heap o (heap_words o old) old views
  heap = world.heap

  -- what the lane has, by its number and by its view
  had : (at : Occ) (bit : ℕ) → has_taken v at bit ≡ true → has_taken (views k) at bit ≡ true
  had at bit e = ap (λ u. has_taken u at bit) is ∙ e

  holds : (zone : ℕ) → holds_zone v zone ≡ true → holds_zone (views k) zone ≡ true
  holds zone e = ap (λ u. holds_zone u zone) is ∙ e

  module _ (new : Memory) (at : Occ) (bits : ℕ) (moves : Becomes (occ_at at) (bit_or (old (occ_at at)) bits) old new) (clear : bit_and (old (occ_at at)) bits ≡ 0) (may : MayOccupy v at bits) where
    abbrev block : Taken
    block = record { at = at; bits = bits }

    abbrev word : ℕ
    word = bit_or (occ_in v at) bits

    abbrev got_view : View
    got_view = reheld v v.known (runs_with at word v.run_words) (zones_with at word v.zone_words) (v.reserved ++ block ∷ []) v.freed v.zone_locks (v.seen ++ Occupy at bits true ∷ [])

    of_pool : IsOcc o.lanes o.zones at
    of_pool = subst (λ n. IsOcc n o.zones at) mine.lane.lanes (subst (λ n. IsOcc v.lanes n at) mine.lane.zones may.there.of_pool)

    -- a bit that is got was not set
    unset : (bit : ℕ) → bit_at bits bit ≡ 1 → bit_at (old (occ_at at)) bit ≡ 1 → ⊥
    unset bit set one = absurd (let both = and_bit (old (occ_at at)) bits bit one set in let none = bit_at-zero bit in let same : bit_at (bit_and (old (occ_at at)) bits) bit ≡ bit_at 0 bit = ap (λ n. bit_at n bit) clear in omega (arith, both, none, same))

    -- what the lane has then
    one_more : (other : Occ) (bit : ℕ) → list_any (has_bit other bit) (v.reserved ++ block ∷ []) ≡ true → (reserves v other bit ≡ true) ⊎ ((other ≡ at) × (bit_at bits bit ≡ 1))
    one_more other bit e =
        ⊎_elim inl (λ (last : list_any (has_bit other bit) (block ∷ []) ≡ true).
        ⊎_elim (λ (here : has_bit other bit block ≡ true). let parts = and_both other bit here in inr (occ_same other at parts.0, eqb-true (bit_at bits bit) 1 parts.1)) (λ (none : false ≡ true). absurd (false≢true none))
        (or_cases (has_bit other bit block) false last))
        (or_cases (reserves v other bit) (list_any (has_bit other bit) (block ∷ [])) (sym (list_any-append (has_bit other bit) v.reserved (block ∷ [])) ∙ e))
      where
        and_both : (x : Occ) (i : ℕ) → has_bit x i block ≡ true → (is_same_occ x at ≡ true) × (eqb (bit_at bits i) 1 ≡ true)
        and_both x i here = and_parts (is_same_occ x at) (eqb (bit_at bits i) 1) here

    -- it got the chunk of a run
    abbrev GetsChunk : Occ → Type 0
    GetsChunk (Run place) = (zone_at v.lanes (place / 4096) ≡ at) × (bit_at bits (chunk_bit v.lanes (place / 4096)) ≡ 1)
    GetsChunk (Zone zone) = ⊥

    abbrev Gets : Occ → ℕ → Type 0
    Gets other bit = ((other ≡ at) × (bit_at bits bit ≡ 1)) ⊎ GetsChunk other

    chunk_more : (other : Occ) → has_run_chunk got_view other ≡ true → (has_run_chunk v other ≡ true) ⊎ GetsChunk other
    chunk_more (Run place) e = one_more (zone_at v.lanes (place / 4096)) (chunk_bit v.lanes (place / 4096)) e
    chunk_more (Zone zone) e = absurd (false≢true e)

    got_more : (other : Occ) (bit : ℕ) → has_taken got_view other bit ≡ true → (has_taken v other bit ≡ true) ⊎ Gets other bit
    got_more other bit e =
        ⊎_elim (λ (mine_now : (list_any (has_bit other bit) (v.reserved ++ block ∷ []) || has_run_chunk got_view other) ≡ true).
        ⊎_elim (λ (reserved : list_any (has_bit other bit) (v.reserved ++ block ∷ []) ≡ true).
        ⊎_elim (λ (before : reserves v other bit ≡ true). inl (had_reserved v other bit before)) (λ (exact : (other ≡ at) × (bit_at bits bit ≡ 1)). inr (inl exact)) (one_more other bit reserved))
        (λ (chunk : has_run_chunk got_view other ≡ true).
        ⊎_elim (λ (before : has_run_chunk v other ≡ true). inl (or_left (reserves v other bit || has_run_chunk v other) (list_any (has_bit other bit) v.freed) (or_right (reserves v other bit) (has_run_chunk v other) before)))
        (λ (got : GetsChunk other). inr (inr got)) (chunk_more other chunk))
        (or_cases (list_any (has_bit other bit) (v.reserved ++ block ∷ [])) (has_run_chunk got_view other) mine_now))
        (λ (freed : list_any (has_bit other bit) v.freed ≡ true). inl (or_right (reserves v other bit || has_run_chunk v other) (list_any (has_bit other bit) v.freed) freed))
        (or_cases (list_any (has_bit other bit) (v.reserved ++ block ∷ []) || has_run_chunk got_view other) (list_any (has_bit other bit) v.freed) e)

    chunk_still : (other : Occ) → has_run_chunk v other ≡ true → has_run_chunk got_view other ≡ true
    chunk_still (Run place) e = list_any-left (has_bit (zone_at v.lanes (place / 4096)) (chunk_bit v.lanes (place / 4096))) v.reserved (block ∷ []) e
    chunk_still (Zone zone) e = e

    had_still : (other : Occ) (bit : ℕ) → has_taken v other bit ≡ true → has_taken got_view other bit ≡ true
    had_still other bit e =
        held_by_parts (reserves v other bit || has_run_chunk v other) (list_any (has_bit other bit) (v.reserved ++ block ∷ []) || has_run_chunk got_view other) (list_any (has_bit other bit) v.freed) (list_any (has_bit other bit) v.freed)
        (held_by_parts (reserves v other bit) (list_any (has_bit other bit) (v.reserved ++ block ∷ [])) (has_run_chunk v other) (has_run_chunk got_view other) (list_any-left (has_bit other bit) v.reserved (block ∷ [])) (chunk_still other))
        (λ freed. freed) e

    got_here : (bit : ℕ) → bit_at bits bit ≡ 1 → has_taken got_view at bit ≡ true
    got_here bit set = had_reserved got_view at bit
        (list_any-append (has_bit at bit) v.reserved (block ∷ []) ∙ or_right (reserves v at bit) (list_any (has_bit at bit) (block ∷ []))
        (or_left (has_bit at bit block) false (and_from (is_same_occ at at) (eqb (bit_at bits bit) 1) (same_occ at) (eq-eqb (bit_at bits bit) 1 set))))

    -- what is got was not taken, as the words tell now
    not_taken : (bit : ℕ) → bit_at bits bit ≡ 1 → is_taken (heap_words o old) o.lanes at bit ≡ false
    not_taken bit set = false_from_ne_true (is_taken (heap_words o old) o.lanes at bit) (λ taken. unset bit set (heap.taken at bit of_pool (low_bit bits bit may.small set) taken))

    -- a chunk that is got is no run
    chunk_no_run : (page : ℕ) → IsChunk o.lanes page → zone_at v.lanes page ≡ at → bit_at bits (chunk_bit v.lanes page) ≡ 1 → is_run (heap_words o old (descriptor_word o.lanes page)) ≡ false
    chunk_no_run page chunk same set =
        let some = chunk.1 in
        let lanes = mine.lane.lanes in
        let clear : is_chunk_taken (heap_words o old) o.lanes (zone_of o.lanes page) (chunk_of o.lanes page - 1) ≡ false =
        subst (λ n. is_taken (heap_words o old) o.lanes (zone_at n page) (chunk_bit n page) ≡ false) lanes (subst (λ x. is_taken (heap_words o old) o.lanes x (chunk_bit v.lanes page) ≡ false) (sym same) (not_taken (chunk_bit v.lanes page) set)) in
        free_no_run (heap_words o old) o.lanes page chunk (ap not clear)

    got_no_run : (place : ℕ) → IsOcc o.lanes o.zones (Run place) → GetsChunk (Run place) → is_run (heap_words o old (descriptor_word o.lanes (place / 4096))) ≡ false
    got_no_run place of got = chunk_no_run (place / 4096) of.1 got.0 got.1

    -- some lane has it still
    someone : (other : Occ) (bit : ℕ) → SomeHasTaken views o.lanes other bit → SomeHasTaken (with_view views k got_view) o.lanes other bit
    someone other bit (j, low, has) =
        (j, low, view_all (λ i u. has_taken (views i) other bit ≡ true → has_taken u other bit ≡ true) views k got_view (λ e. had_still other bit (ap (λ u. has_taken u other bit) (sym is) ∙ e)) j (λ differ e. e) has)

    -- a word in which a bit is set
    word_then : (other : Occ) (bit : ℕ) → IsOcc o.lanes o.zones other → bit_at (new (occ_at other)) bit ≡ 1 → (bit_at (old (occ_at other)) bit ≡ 1) ⊎ ((other ≡ at) × (bit_at bits bit ≡ 1))
    word_then other bit of one =
        ⊎_elim (λ (same : other ≡ at).
        ⊎_elim (λ (before : bit_at (old (occ_at at)) bit ≡ 1). inl (ap (λ x. bit_at (old (occ_at x)) bit) same ∙ before)) (λ (got : bit_at bits bit ≡ 1). inr (same, got))
        (or_bits (old (occ_at at)) bits bit (ap (λ n. bit_at n bit) (sym moves.1) ∙ (ap (λ x. bit_at (new (occ_at x)) bit) (sym same) ∙ one))))
        (λ (differ : other ≢ at). inl (ap (λ n. bit_at n bit) (sym (moves.0 (occ_at other) (λ e. differ (one_occ o.lanes o.zones other at of of_pool e)))) ∙ one))
        (is_one other at)

    -- a bit that was set is
    word_still : (other : Occ) (bit : ℕ) → IsOcc o.lanes o.zones other → bit_at (old (occ_at other)) bit ≡ 1 → bit_at (new (occ_at other)) bit ≡ 1
    word_still other bit of one =
        ⊎_elim (λ (same : other ≡ at). ap (λ x. bit_at (new (occ_at x)) bit) same ∙ (ap (λ n. bit_at n bit) moves.1 ∙ or_bit_left (old (occ_at at)) bits bit (ap (λ x. bit_at (old (occ_at x)) bit) (sym same) ∙ one)))
        (λ (differ : other ≢ at). ap (λ n. bit_at n bit) (moves.0 (occ_at other) (λ e. differ (one_occ o.lanes o.zones other at of of_pool e))) ∙ one)
        (is_one other at)

    word_got : (bit : ℕ) → bit_at bits bit ≡ 1 → bit_at (new (occ_at at)) bit ≡ 1
    word_got bit set = ap (λ n. bit_at n bit) moves.1 ∙ or_bit_right (old (occ_at at)) bits bit set

    -- a bit that another lane has is not one that is got
    not_others : (j : ℕ) (bit : ℕ) → j < o.lanes → has_taken (views j) at bit ≡ true → bit_at bits bit ≡ 1 → ⊥
    not_others j bit low has set = unset bit set (heap.held j at bit low of_pool (low_bit bits bit may.small set) has)

    -- a bit that is got is set, and so are those of a run that might be made of a chunk that is
    gets_word : (other : Occ) (bit : ℕ) → IsOcc o.lanes o.zones other → bit < 64 → Gets other bit → bit_at (new (occ_at other)) bit ≡ 1
    gets_word other bit of small (inl t) = ap (λ x. bit_at (new (occ_at x)) bit) t.0 ∙ word_got bit t.1
    gets_word (Run place) bit of small (inr t) = word_still (Run place) bit of (heap.taken (Run place) bit of small (no_run_taken (heap_words o old) o.lanes place bit (got_no_run place of t)))
    gets_word (Zone zone) bit of small (inr t) = absurd t

    -- no other lane has a block of a run in a chunk that is got
    not_others_chunk : (j : ℕ) (other : Occ) (bit : ℕ) → j < o.lanes → has_taken (views j) other bit ≡ true → GetsChunk other → ⊥
    not_others_chunk j (Zone zone) bit low has got = absurd got
    not_others_chunk j (Run place) bit low has got = by_kind (or_cases (reserves (views j) (Run place) bit || has_chunk (views j) (place / 4096)) (list_any (has_bit (Run place) bit) (views j).freed) has) where
      its : LaneFits o old (settled o log decided) (Flies log decided j) j (views j)
      its = world.each_lane j low

      by_kind : ((reserves (views j) (Run place) bit || has_chunk (views j) (place / 4096)) ≡ true) ⊎ (list_any (has_bit (Run place) bit) (views j).freed ≡ true) → ⊥
      by_kind (inr freed) = false≢true (ap (list_any (has_bit (Run place) bit)) (sym its.blocks.freed) ∙ freed)
      by_kind (inl mine_or) = ⊎_elim
          (λ (reserved : reserves (views j) (Run place) bit ≡ true).
          false≢true (sym (its.blocks.free (Run place) bit reserved) ∙ no_run_taken (heap_words o old) o.lanes place bit (got_no_run place (reserved_of_pool o (heap_words o old) (views j) (Run place) bit its.blocks reserved) got)))
          (λ (chunk : has_chunk (views j) (place / 4096) ≡ true).
          not_others j (chunk_bit v.lanes (place / 4096)) low
          (had_reserved (views j) at (chunk_bit v.lanes (place / 4096)) (subst (λ x. reserves (views j) x (chunk_bit v.lanes (place / 4096)) ≡ true) got.0 (subst (λ n. reserves (views j) (zone_at n (place / 4096)) (chunk_bit n (place / 4096)) ≡ true) (its.lane.lanes ∙ sym mine.lane.lanes) chunk))) got.1)
          (or_cases (reserves (views j) (Run place) bit) (has_chunk (views j) (place / 4096)) mine_or)

    got_heap : Heap o (heap_words o old) new (with_view views k got_view)
    got_heap = record {
      set = λ other bit of low one. ⊎_elim
          (λ (before : bit_at (old (occ_at other)) bit ≡ 1). ⊎_elim inl (λ (t : SomeHasTaken views o.lanes other bit). inr (someone other bit t)) (heap.set other bit of low before))
          (λ (t : (other ≡ at) × (bit_at bits bit ≡ 1)). inr (k, inside, subst (λ x. has_taken (with_view views k got_view k) x bit ≡ true) (sym t.0) (ap (λ u. has_taken u at bit) (view_here views k got_view) ∙ got_here bit t.1)))
          (word_then other bit of one);
      taken = λ other bit of low is_so. word_still other bit of (heap.taken other bit of low is_so);
      held = λ j other bit low of small. view_all (λ i u. has_taken u other bit ≡ true → bit_at (new (occ_at other)) bit ≡ 1) views k got_view
          (λ has. ⊎_elim (λ (before : has_taken v other bit ≡ true). word_still other bit of (heap.held k other bit inside of small (had other bit before)))
          (λ (got : Gets other bit). gets_word other bit of small got) (got_more other bit has))
          j (λ differ has. word_still other bit of (heap.held j other bit low of small has));
      apart = λ i j other bit low high. apart_now i j other bit low high;
      locked = λ j zone low. view_all (λ i u. holds_zone u zone ≡ true → new (ZoneLock zone) ≡ i + 1) views k got_view
          (λ held. moves.0 (ZoneLock zone) (lock_apart zone at) ∙ heap.locked k zone inside (holds zone held)) j (λ differ held. moves.0 (ZoneLock zone) (lock_apart zone at) ∙ heap.locked j zone low held);
      unlocked = λ zone. ⊎_elim (λ (free : old (ZoneLock zone) ≡ 0). inl (moves.0 (ZoneLock zone) (lock_apart zone at) ∙ free))
          (λ (t : SomeHoldsZone views o.lanes old zone). inr (
            t.0,
            t.1,
            moves.0 (ZoneLock zone) (lock_apart zone at) ∙ t.2,
            view_all (λ i u. holds_zone (views i) zone ≡ true → holds_zone u zone ≡ true) views k got_view (λ e. ap (λ u. holds_zone u zone) (sym is) ∙ e) t.0 (λ differ e. e) t.3,
          )) (heap.unlocked zone);
    }
      where
        -- lane k's bits and those of another lane
        mine_theirs : (j : ℕ) (other : Occ) (bit : ℕ) → j < o.lanes → has_taken got_view other bit ≡ true → has_taken (views j) other bit ≡ true → k ≡ j
        mine_theirs j other bit low own_bit their =
            ⊎_elim (λ (before : has_taken v other bit ≡ true). heap.apart k j other bit inside low (had other bit before) their)
            (λ (got : Gets other bit). absurd (⊎_elim (λ (t : (other ≡ at) × (bit_at bits bit ≡ 1)). not_others j bit low (ap (λ x. has_taken (views j) x bit) (sym t.0) ∙ their) t.1) (λ (t : GetsChunk other). not_others_chunk j other bit low their t) got)) (got_more other bit own_bit)

        apart_now : (i j : ℕ) (other : Occ) (bit : ℕ) → i < o.lanes → j < o.lanes → has_taken (with_view views k got_view i) other bit ≡ true → has_taken (with_view views k got_view j) other bit ≡ true → i ≡ j
        apart_now i j other bit low high =
            view_all (λ n u. has_taken u other bit ≡ true → has_taken (with_view views k got_view j) other bit ≡ true → n ≡ j) views k got_view
            (λ one. view_all (λ n u. has_taken u other bit ≡ true → k ≡ n) views k got_view (λ two. refl) j (λ differ two. mine_theirs j other bit high one two))
            i (λ apart one. view_all (λ n u. has_taken u other bit ≡ true → i ≡ n) views k got_view (λ two. sym (mine_theirs i other bit low two one)) j (λ differ two. heap.apart i j other bit low high one two))

    -- what is got is free, and the picture has its descriptor as it is now
    got_free : (x : Occ) → x ≡ at → (bit : ℕ) → bit_at bits bit ≡ 1 → IsFree o (heap_words o old) x bit
    got_free (Run place) same bit set = subst (λ x. is_taken (heap_words o old) o.lanes x bit ≡ false) (sym same) (not_taken bit set)
    got_free (Zone zone) same bit set = false_from_ne_true (is_taken (slice_index o.words) o.lanes (Zone zone) bit) (λ taken.
        false≢true (sym (subst (λ x. is_taken (heap_words o old) o.lanes x bit ≡ false) (sym same) (not_taken bit set)) ∙ taken_still o old world.new_runs zone bit (subst (IsOcc o.lanes o.zones) (sym same) of_pool) (low_bit bits bit may.small set) taken))

    by_seen : (page : ℕ) → IsChunk o.lanes page → (is_free_chunk (slice_index o.words) o.lanes page ≡ true → slice_index v.words (descriptor_word o.lanes page) ≡ slice_index o.words (descriptor_word o.lanes page) → slice_index v.words (descriptor_word o.lanes page) ≡ heap_words o old (descriptor_word o.lanes page))
        → slice_index v.words (descriptor_word o.lanes page) ≡ heap_words o old (descriptor_word o.lanes page)
    by_seen page chunk free = ⊎_elim
        (λ (was : slice_index v.words (descriptor_word o.lanes page) ≡ slice_index o.words (descriptor_word o.lanes page)). ⊎_elim (λ (is_free : is_free_chunk (slice_index o.words) o.lanes page ≡ true). free is_free was)
        (λ (taken : is_free_chunk (slice_index o.words) o.lanes page ≡ false). was ∙ sym (taken_descriptor o old page chunk taken)) (cases_Bool (is_free_chunk (slice_index o.words) o.lanes page)))
        (λ (now : slice_index v.words (descriptor_word o.lanes page) ≡ heap_words o old (descriptor_word o.lanes page)). now) (mine.picture.descriptors page chunk)

    got_described : (x : Occ) → x ≡ at → (bit : ℕ) → bit_at bits bit ≡ 1 → slice_index v.words (describing o.lanes x bit) ≡ heap_words o old (describing o.lanes x bit)
    got_described (Run place) same bit set =
        let of : IsOcc o.lanes o.zones (Run place) = subst (IsOcc o.lanes o.zones) (sym same) of_pool in
        let run : is_run (slice_index v.words (descriptor_word o.lanes (place / 4096))) ≡ true = subst (λ n. is_run (slice_index v.words (descriptor_word n (place / 4096))) ≡ true) mine.lane.lanes (seen_run (Run place) same) in
        by_seen (place / 4096) of.1 (λ free was. absurd (false≢true (sym (free_no_run (slice_index o.words) o.lanes (place / 4096) of.1 free) ∙ (ap is_run (sym was) ∙ run))))
      where
        seen_run : (y : Occ) → y ≡ at → IsSeenRun v y
        seen_run y e = subst (IsSeenRun v) (sym e) may.run
    got_described (Zone zone) same bit set =
        let of : zone < o.zones = subst (IsOcc o.lanes o.zones) (sym same) of_pool in
        let low : bit < 64 = low_bit bits bit may.small set in
        let page : ℕ = page_in o.lanes zone bit in
        let chunk = page_in_chunk o.lanes zone bit low in
        let at_word = page_in_word o.lanes zone bit low in
        let pool_chunk : IsPoolChunk o.lanes o.zones page = (chunk, omega (arith, of, low)) in
        let free : is_free_chunk (slice_index o.words) o.lanes page ≡ true = free_in (slice_index o.words) o.lanes zone bit low ∙ ap not (got_free (Zone zone) same bit set) in
        let clear : is_chunk_taken (heap_words o old) o.lanes zone bit ≡ false = subst (λ x. is_taken (heap_words o old) o.lanes x bit ≡ false) (sym same) (not_taken bit set) in
        let none : is_run (heap_words o old (descriptor_word o.lanes page)) ≡ false = free_no_run (heap_words o old) o.lanes page chunk (free_in (heap_words o old) o.lanes zone bit low ∙ ap not clear) in
        let zero_now : heap_words o old (descriptor_word o.lanes page) ≡ 0 = ⊎_elim (λ (zero_word : heap_words o old (descriptor_word o.lanes page) ≡ 0). zero_word)
        (λ run. absurd (false≢true (sym none ∙ (let is = run.described in eq-eqb (heap_words o old (descriptor_word o.lanes page) % 256) 1 (omega (arith, is)))))) (now_no_block o old world.new_runs page pool_chunk free) in
        sym (ap (slice_index v.words) at_word) ∙ (by_seen page chunk (λ is_free was. was ∙ (world.sound.undescribed page pool_chunk free ∙ sym zero_now)) ∙ ap (heap_words o old) at_word)

    blocks_then : BlocksFit o (heap_words o old) got_view
    blocks_then = record {
      of_pool = All-append (λ (t : Taken). IsOcc o.lanes o.zones t.at) v.reserved (block ∷ []) mine.blocks.of_pool (All-cons (λ (t : Taken). IsOcc o.lanes o.zones t.at) block [] of_pool (All-nil (λ (t : Taken). IsOcc o.lanes o.zones t.at)));
      small = All-append (λ (t : Taken). t.bits < 2 ^ 64) v.reserved (block ∷ []) mine.blocks.small (All-cons (λ (t : Taken). t.bits < 2 ^ 64) block [] may.small (All-nil (λ (t : Taken). t.bits < 2 ^ 64)));
      free = λ other bit e. ⊎_elim (λ (before : reserves v other bit ≡ true). mine.blocks.free other bit before) (λ (t : (other ≡ at) × (bit_at bits bit ≡ 1)). got_free other t.0 bit t.1) (one_more other bit e);
      described = λ other bit e. ⊎_elim (λ (before : reserves v other bit ≡ true). mine.blocks.described other bit before) (λ (t : (other ≡ at) × (bit_at bits bit ≡ 1)). got_described other t.0 bit t.1) (one_more other bit e);
      freed = mine.blocks.freed;
    }

    pub gets : World o new (with_view views k got_view) log decided
    gets =
        reholds o old views log decided world k inside v is new v.known (runs_with at word v.run_words) (zones_with at word v.zone_words) (v.reserved ++ block ∷ []) v.freed v.zone_locks (v.seen ++ Occupy at bits true ∷ [])
        (λ l plain. moves.0 l (other_occ at l plain))
        (reheld_fits v v.known (runs_with at word v.run_words) (zones_with at word v.zone_words) (v.reserved ++ block ∷ []) v.freed v.zone_locks (v.seen ++ Occupy at bits true ∷ []) o old new (settled o log decided) (Flies log decided k) k
        (λ w. moves.0 (PoolWord w) (other_occ at (PoolWord w) (plain_pool w))) (λ line. moves.0 (LockWord line) (other_occ at (LockWord line) (plain_lock line))) (λ w there. there)
        (λ w there. held_by_parts _ _ (is_reserved v w) (is_reserved got_view w) (λ core. core) (list_any-left _ v.reserved (block ∷ [])) (mine.picture.held w there)) (λ w written known. known)
        (λ c there own_word. list_any-left _ v.reserved (block ∷ []) own_word) blocks_then mine)
        (low_before v (Occupy at bits true) refl) got_heap
