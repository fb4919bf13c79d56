-- Over the words that recovery leaves a world begins, and so over those that stand between calls.
use Rattle.std.proofs.Common.{◌≡◌, ℕ, zero, suc, ◌+◌, ◌^◌, ◌<◌, ◌≤◌, inl, inr, ◌∷◌, true, false, eqb, ◌&&◌, ◌||◌, if◌then◌else◌, Contains, List, [], length, slice_get, slice_index, All, Bool, is_none, refl, sym, ap, ◌∙◌, subst, arith, ◌*◌, ◌/◌, not, leb, ⊎_elim}
use Rattle.std.specs.Int.{bit_at}
use Rattle.std.specs.List.{list_any}
use Rattle.std.proofs.lemmas.Bool.{cond-false, and_right, false≢true, cases_Bool, cond-true, false_from_ne_true}
use Rattle.std.proofs.lemmas.List.Elements.{All-contains, All-head, All-nil, All-same, All-tail}
use Rattle.std.proofs.lemmas.Nat.Bits.{bit_at-zero}
use Rattle.std.proofs.lemmas.Option.{none-some}
use Rattle.pm_record.specs.Undo.{undo_of}
use Rattle.solo_view.specs.Area.{area_word}
use Rattle.solo_view.specs.Log.{Recorded, Final, Log}
use Rattle.solo_view.specs.Log.Phase.{Idle}
use Rattle.solo_view.specs.declared.occ.Occ.{Occ}
use Rattle.solo_view.specs.View.{View, Taken}
use Rattle.pm_image.specs.Logs.{generation_word, undo_slot}
use Rattle.solo_view.specs.Views.{has_bit, chunk_bit, reserves, zone_at}
use Rattle.solo_world.specs.Entries.{HasNone, is_entered, is_redoing, seal_in}
use Rattle.solo_world.specs.Fits.{EntriesFit, PictureFits, LockFits, LogFits, IdleFits, PhaseFits, LaneFits}
use Rattle.solo_world.specs.Heap.{BlocksFit, IsFree, IsOcc, SomeHasTaken, describing, has_taken, AreNewRuns, heap_words, is_free_bitmap}
use Rattle.solo_world.specs.History.{Entry, Flies, made_final, settled, replayed, AreNumbered, entries_by}
use Rattle.solo_world.specs.Memory.{Memory}
use Rattle.solo_world.specs.Opening.{Opening, IsChunk, IsSound, is_free_chunk}
use Rattle.solo_world.specs.Opens.{BetweenCallsLaw, IsClean, IsFresh, IsRested, OpeningLaw}
use Rattle.solo_world.specs.Records.{IsRecordAt, generation_of, records_generation}
use Rattle.solo_world.specs.World.{Views, is_low, may_draw, may_draw_count}
use Rattle.solo_view.specs.Blocks.{descriptor_word, bitmap_word, is_run, zone_page}
use Rattle.solo_view.specs.Occupancy.{describes_free, is_chunk_taken, is_taken}
use Rattle.pm_layout.specs.Sizes.{blocks_of}
use Rattle.solo_view.specs.declared.occ.Occ.TheVariants.{Run, Zone}
use Rattle.solo_world.specs.Memory.Location.{PoolWord}
use Rattle.solo_world.proofs.Filled.{none_filled}
use Rattle.solo_world.proofs.HeapWords.{free_in, free_no_run, no_bitmap, no_chunk_page, page_in, page_in_chunk, page_in_word, taken_before, taken_bitmap, taken_still}
use Rattle.solo_world.proofs.Reserved.{describing_chunk, reserved_low, reserved_of_pool}

nothing_there : {X : Type 0} (xs : List X) (x : X) → xs ≡ [] → Contains xs x → ⊥
nothing_there {X = X} xs x none there = let e : length xs ≡ 0 = ap length none in let inside = there.1 in omega arith

-- the words that tell of blocks are the opening's
module _ (o : Opening) (mem : Memory) (words : (w : ℕ) → mem (PoolWord w) ≡ slice_index o.words w) (sound : IsSound o) where
  standing_runs : AreNewRuns o (λ w. mem (PoolWord w))
  standing_runs page chunk free = inl (words (descriptor_word o.lanes page) ∙ sound.undescribed page chunk free)

  -- a descriptor is the opening's
  standing_descriptor : (w : ℕ) → is_free_bitmap o w ≡ false → heap_words o mem w ≡ slice_index o.words w
  standing_descriptor w none =
      ⊎_elim (λ (free : describes_free (slice_index o.words) o.lanes w ≡ true). cond-true (describes_free (slice_index o.words) o.lanes w) _ _ free ∙ words w)
      (λ (other : describes_free (slice_index o.words) o.lanes w ≡ false). cond-false (describes_free (slice_index o.words) o.lanes w) _ _ other ∙ cond-false (is_free_bitmap o w) 0 (slice_index o.words w) none)
      (cases_Bool (describes_free (slice_index o.words) o.lanes w))

  standing_at : (page : ℕ) → IsChunk o.lanes page → heap_words o mem (descriptor_word o.lanes page) ≡ slice_index o.words (descriptor_word o.lanes page)
  standing_at page chunk = let some = chunk.1 in standing_descriptor (descriptor_word o.lanes page) (no_bitmap o mem (descriptor_word o.lanes page) (no_chunk_page o.lanes (descriptor_word o.lanes page / 512) (omega arith)))

  -- what is taken is what was
  standing_taken : (at : Occ) (bit : ℕ) → IsOcc o.lanes o.zones at → bit < 64 → is_taken (heap_words o mem) o.lanes at bit ≡ is_taken (slice_index o.words) o.lanes at bit
  standing_taken (Run place) bit of low =
      let page : ℕ = place / 4096 in
      let d = standing_at page of.1 in
      ⊎_elim
      (λ (free : is_free_chunk (slice_index o.words) o.lanes page ≡ true).
      let none = free_no_run (slice_index o.words) o.lanes page of.1 free in
      ap (λ x. not (is_run x) || leb (blocks_of (x / 256)) bit || eqb (bit_at (heap_words o mem (bitmap_word page)) bit) 1) d
      ∙ (ap (λ b. not b || leb (blocks_of (slice_index o.words (descriptor_word o.lanes page) / 256)) bit || eqb (bit_at (heap_words o mem (bitmap_word page)) bit) 1) none
      ∙ sym (ap (λ b. not b || leb (blocks_of (slice_index o.words (descriptor_word o.lanes page) / 256)) bit || eqb (bit_at (slice_index o.words (bitmap_word page)) bit) 1) none)))
      (λ (taken : is_free_chunk (slice_index o.words) o.lanes page ≡ false).
      let m = taken_bitmap o mem page of.1 taken in λ i. not (is_run (d i)) || leb (blocks_of (d i / 256)) bit || eqb (bit_at (m i) bit) 1)
      (cases_Bool (is_free_chunk (slice_index o.words) o.lanes page))
  standing_taken (Zone zone) bit of low =
      ⊎_elim
      (λ (taken : is_chunk_taken (slice_index o.words) o.lanes zone bit ≡ true). taken_still o mem standing_runs zone bit of low taken ∙ sym taken)
      (λ (free : is_chunk_taken (slice_index o.words) o.lanes zone bit ≡ false).
      false_from_ne_true (is_chunk_taken (heap_words o mem) o.lanes zone bit) (λ now. ⊎_elim
      (λ (was : is_chunk_taken (slice_index o.words) o.lanes zone bit ≡ true). false≢true (sym free ∙ was))
      (λ (run : is_run (heap_words o mem (512 * zone_page o.lanes zone + bit)) ≡ true).
      let page : ℕ = page_in o.lanes zone bit in
      let at = page_in_word o.lanes zone bit low in
      let none = free_no_run (slice_index o.words) o.lanes page (page_in_chunk o.lanes zone bit low) (free_in (slice_index o.words) o.lanes zone bit low ∙ ap not free) in
      false≢true (sym none ∙ (ap is_run (sym (standing_at page (page_in_chunk o.lanes zone bit low))) ∙ (ap (λ w. is_run (heap_words o mem w)) at ∙ run))))
      (taken_before o mem standing_runs zone bit of low now))
      ∙ sym free)
      (cases_Bool (is_chunk_taken (slice_index o.words) o.lanes zone bit))

module _ (o : Opening) (mem : Memory) (words : (w : ℕ) → mem (PoolWord w) ≡ slice_index o.words w) (sound : IsSound o) (k : ℕ) (v : View) (clean : IsClean o k) (rested : IsRested o k v) where
  phase_is : v.log.phase ≡ Idle
  phase_is = ap (λ (l : Log). l.phase) rested.idle

  records_none : v.log.records ≡ []
  records_none = ap (λ (l : Log). l.records) rested.idle

  no_record : (slot : ℕ) (r : Recorded) → IsRecordAt v slot r → ⊥
  no_record slot r at = none-some r (sym (ap (λ records. slice_get records slot) records_none) ∙ at)

  -- a word of the view's is the opening's
  word_is : (w : ℕ) → slice_index v.words w ≡ slice_index o.words w
  word_is w = ap (λ words. slice_index words w) rested.words

  generation_is : generation_of v ≡ generation_word o.words k
  generation_is = word_is (area_word v.lane) ∙ ap (λ j. slice_index o.words (area_word j)) rested.lane.lane

  slot_is : (slot : ℕ) → undo_slot v.words v.lane slot ≡ undo_slot o.words k slot
  slot_is slot = ap (λ words. undo_slot words v.lane slot) rested.words ∙ ap (λ j. undo_slot o.words j slot) rested.lane.lane

  rested_picture : PictureFits o mem v
  rested_picture = record {
    area = λ w inside. words w ∙ sym (word_is w);
    known = λ w known. words w ∙ sym (word_is w);
    held = rested.held;
    descriptors = λ page chunk. inl (word_is (descriptor_word o.lanes page));
  }

  rested_log : (settled : ℕ → ℕ) → LogFits settled v (records_generation v.log.phase v)
  rested_log settled = record {
    most = let none : length v.log.records ≡ 0 = ap length records_none in omega arith;
    stored = λ slot r at. absurd (no_record slot r at);
    each = λ slot r at. absurd (no_record slot r at);
    once = λ slot other r q w at at' of of'. absurd (no_record slot r at);
    stale = λ slot u used inside stands. subst (λ g. u.generation < g) (sym (ap (λ p. records_generation p v) phase_is ∙ generation_is)) (clean.stale slot u inside (ap undo_of (sym (slot_is slot)) ∙ stands));
  }

  entries_none : v.log.entries ≡ []
  entries_none = ap (λ (l : Log). l.entries) rested.idle

  rested_entries : EntriesFit v
  rested_entries = record {
    most = let none : length v.log.entries ≡ 0 = ap length entries_none in omega arith;
    each = λ i f at. absurd (none-some f (sym (ap (λ entries. slice_get entries i) entries_none) ∙ at));
    seal = word_is (area_word v.lane + 1) ∙ (ap (λ j. slice_index o.words (area_word j + 1)) rested.lane.lane ∙ (clean.unsealed ∙ ap (λ p. seal_in p v) (sym phase_is)));
    none = subst (λ p. HasNone p v) (sym phase_is) entries_none;
  }

  -- what it reserved is free by the words
  by_words : BlocksFit o (slice_index o.words) v
  by_words = record {
    of_pool = rested.of_pool;
    small = rested.small;
    free = free_of;
    described = λ at bit has. word_is (describing o.lanes at bit);
    freed = rested.nothing_freed;
  } where
    free_of : (at : Occ) (bit : ℕ) → reserves v at bit ≡ true → IsFree o (slice_index o.words) at bit
    free_of (Run place) bit has = rested.free (Run place) bit has
    free_of (Zone zone) bit has = rested.free (Zone zone) bit has

  -- and by those that tell of blocks
  rested_blocks : BlocksFit o (heap_words o mem) v
  rested_blocks = record {
    of_pool = rested.of_pool;
    small = rested.small;
    free = free_of;
    described = λ at bit has. let t = describing_chunk o (slice_index o.words) v at bit by_words has in
        by_words.described at bit has ∙ sym (subst (λ w. heap_words o mem w ≡ slice_index o.words w) t.1.1 (standing_at o mem words sound t.0 t.1.0));
    freed = rested.nothing_freed;
  } where
    free_of : (at : Occ) (bit : ℕ) → reserves v at bit ≡ true → IsFree o (heap_words o mem) at bit
    free_of (Run place) bit has =
        standing_taken o mem words sound (Run place) bit (reserved_of_pool o (slice_index o.words) v (Run place) bit by_words has) (reserved_low o (slice_index o.words) v (Run place) bit by_words has)
        ∙ rested.free (Run place) bit has
    free_of (Zone zone) bit has = rested.free (Zone zone) bit has

  pub rested_lane : (settled : ℕ → ℕ) (flies : ℕ → List Final → Type 0) → LaneFits o mem settled flies k v
  rested_lane settled flies = record {
    lane = rested.lane;
    picture = rested_picture;
    locks = All-same (LockFits o mem k) v.locks [] rested.no_locks (All-nil (LockFits o mem k));
    log = rested_log settled;
    entries = rested_entries;
    redone = λ w again. absurd (false≢true (sym (ap (λ p. is_redoing p && is_entered v.log.entries w) phase_is) ∙ again));
    phase = subst (PhaseFits flies v) (sym phase_is) (let idle : IdleFits v = record { no_records = records_none; changes = rested.changes } in idle);
    blocks = rested_blocks;
    first_generation = let is = generation_is in let first = clean.first_generation in omega arith;
    last_generation = subst (λ g. g ≤ 2 ^ 62) (sym generation_is) clean.last_generation;
    room = rested.room;
    within = rested.within;
  }

-- a lane that saw nothing may not draw
seen_nothing : (v : View) → v.seen ≡ [] → may_draw v ≡ false
seen_nothing v nothing = and_right (is_none v.number) (list_any is_low v.seen) (ap (list_any is_low) nothing)

nobody_draws : (views : Views) (n : ℕ) → ((k : ℕ) → k < n → (views k).seen ≡ []) → may_draw_count views n ≡ 0
unfolding may_draw_count
nobody_draws views zero nothing = refl
nobody_draws views (suc k) nothing =
    let rest = nobody_draws views k (λ j inside. nothing j (omega arith)) in
    let one : ℕ = 1 in
    let none : ℕ = 0 in
    let here : (if may_draw (views k) then one else none) ≡ none = cond-false (may_draw (views k)) one none (seen_nothing (views k) (nothing k (omega arith))) in
    ap (λ n. n + (if may_draw (views k) then one else none)) rest ∙ ap (λ n. 0 + n) here

-- a lane that reserved and freed nothing has no bit
has_nothing : (v : View) (at : Occ) (bit : ℕ) → v.reserved ≡ [] → v.freed ≡ [] → has_taken v at bit ≡ true → ⊥
has_nothing v (Run place) bit reserved freed has =
    false≢true ((λ i. list_any (has_bit (Run place) bit) (sym reserved i) || list_any (has_bit (zone_at v.lanes (place / 4096)) (chunk_bit v.lanes (place / 4096))) (sym reserved i) || list_any (has_bit (Run place) bit) (sym freed i)) ∙ has)
has_nothing v (Zone zone) bit reserved freed has = false≢true ((λ i. list_any (has_bit (Zone zone) bit) (sym reserved i) || false || list_any (has_bit (Zone zone) bit) (sym freed i)) ∙ has)

-- differences of which none is left make nothing
pub made_nothing : (keep : ℕ → Bool) (log : List Entry) (w x : ℕ) → All (λ (e : Entry). e.difference ≡ []) log → replayed keep log w x ≡ x
unfolding replayed made_final
made_nothing keep [] w x made = refl
made_nothing keep (e ∷ log) w x made =
    let first = All-head (λ (d : Entry). d.difference ≡ []) e log made in
    ap (replayed keep log w) (⊎_elim
    (λ (counts : keep e.number ≡ true). cond-true (keep e.number) (made_final e.difference w x) x counts ∙ ap (λ d. made_final d w x) first)
    (λ (not_ : keep e.number ≡ false). cond-false (keep e.number) (made_final e.difference w x) x not_)
    (cases_Bool (keep e.number)))
    ∙ made_nothing keep log w x (All-tail (λ (d : Entry). d.difference ≡ []) e log made)

pub between_calls_law : BetweenCallsLaw
between_calls_law o mem views log decided sound clean rested over stands = record {
  sound = sound;
  each_lane = λ k inside. rested_lane o mem stands.words sound k (views k) (clean k inside) (rested k inside) (settled o log decided) (Flies log decided k);
  each_word = λ w living unlogged. stands.words w ∙ sym (made_nothing decided log w (slice_index o.words w) over.made);
  each_line = λ line bit set. absurd (let off = bit_at-zero bit in let on : bit_at 0 bit ≡ 1 = ap (λ n. bit_at n bit) (sym (stands.locks line)) ∙ set in omega arith);
  each_entry = λ e there. record {
    of_lane = over.of_lanes e there;
    in_flight = λ undecided. absurd (false≢true (sym undecided ∙ over.all e there));
    guarded = λ f of. absurd (nothing_there e.difference f (All-contains (λ (d : Entry). d.difference ≡ []) log e over.made there) of);
  };
  numbered = over.numbered;
  undrawn = over.undrawn;
  counter = stands.counter;
  counter_room = stands.counter_room;
  own_entries = over.own_entries;
  new_runs = standing_runs o mem stands.words sound;
  heap = record {
    set = λ at bit of low one. ⊎_elim
        (λ (is_so : is_taken (slice_index o.words) o.lanes at bit ≡ true). inl (standing_taken o mem stands.words sound at bit of low ∙ is_so))
        (λ (some : SomeHasTaken views o.lanes at bit). inr some) (stands.heap.set at bit of low one);
    taken = λ at bit of low is_so. stands.heap.taken at bit of low (sym (standing_taken o mem stands.words sound at bit of low) ∙ is_so);
    held = stands.heap.held;
    apart = stands.heap.apart;
    locked = stands.heap.locked;
    unlocked = stands.heap.unlocked;
  };
  stop_word = stands.stop_word;
}

-- ---- before the first step

fresh_rests : (o : Opening) (k : ℕ) (v : View) → IsFresh o k v → IsRested o k v
fresh_rests o k v fresh = record {
  lane = fresh.lane;
  words = fresh.words;
  held = λ w known. absurd (nothing_there v.known w fresh.nothing_known known);
  changes = none_filled v fresh.nothing_changed;
  room = let none : length v.changes ≡ 0 = ap length fresh.nothing_changed in omega arith;
  idle = fresh.idle;
  no_locks = fresh.no_locks;
  of_pool = All-same (λ (t : Taken). IsOcc o.lanes o.zones t.at) v.reserved [] fresh.nothing_reserved (All-nil (λ (t : Taken). IsOcc o.lanes o.zones t.at));
  small = All-same (λ (t : Taken). t.bits < 2 ^ 64) v.reserved [] fresh.nothing_reserved (All-nil (λ (t : Taken). t.bits < 2 ^ 64));
  free = λ at bit has. absurd (false≢true (ap (list_any (has_bit at bit)) (sym fresh.nothing_reserved) ∙ has));
  nothing_freed = fresh.nothing_freed;
  within = λ stop is. let none = fresh.no_calls in omega arith;
}

pub opening_law : OpeningLaw
unfolding AreNumbered entries_by
opening_law o mem views sound clean fresh opened =
    between_calls_law o mem views [] (λ _. false) sound clean (λ k inside. fresh_rests o k (views k) (fresh k inside))
    (record {
      numbered = tt;
      of_lanes = λ e there. absurd (let inside = there.1 in omega arith);
      made = All-nil (λ (e : Entry). e.difference ≡ []);
      all = λ e there. absurd (let inside = there.1 in omega arith);
      undrawn = λ n past. refl;
      own_entries = λ k inside. sym (fresh k inside).no_entries;
    })
    (record {
      words = opened.words;
      locks = opened.locks;
      heap = record {
        set = λ at bit of low one. inl (opened.set at bit of low one);
        taken = opened.taken;
        held = λ k at bit inside of small has. absurd (has_nothing (views k) at bit (fresh k inside).nothing_reserved (fresh k inside).nothing_freed has);
        apart = λ j k at bit inside other has. absurd (has_nothing (views j) at bit (fresh j inside).nothing_reserved (fresh j inside).nothing_freed has);
        locked = λ k zone inside holds. absurd (false≢true (ap (list_any (λ held. eqb held zone)) (sym (fresh k inside).no_zones) ∙ holds));
        unlocked = λ zone. inl (opened.zones zone);
      };
      counter = opened.counter;
      counter_room = let none = nobody_draws views o.lanes (λ k inside. (fresh k inside).nothing_seen) in let drawn = opened.counter in omega arith;
      stop_word = inl opened.stop_word;
    })
