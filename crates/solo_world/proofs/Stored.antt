-- What every store of a lane owes and keeps, at a word of its area, under a lock that it holds for writing, or in a block that it reserved.
use Rattle.std.proofs.Common.{◌≡◌, ◌≢◌, ℕ, ◌+◌, ◌-◌, ◌*◌, ◌/◌, ◌<◌, ◌≤◌, ◌⊎◌, inl, inr, ⊎_elim, Bool, true, false, IsTrue, is_some, ◌&&◌, ◌||◌, Contains, List, [], ◌∷◌, length, take, drop, set, slice_get, slice_index, slice_range, Some, refl, sym, ap, ◌∙◌, subst, arith, length-set, length-append, get_or-set_same, get_or-set_other, zero, suc, eqb, not, eq-eqb, ◌%◌, cond}
use Rattle.std.proofs.lemmas.Bool.{cases_eq, and_parts, false≢true, or_cases, or_left, or_right, and_from, not-true}
use Rattle.std.proofs.lemmas.List.{drop-set-lt, drop-set-add, take-set-le}
use Rattle.std.proofs.lemmas.List.Elements.{All-weaker}
use Rattle.std.specs.List.{list_any}
use Rattle.std.specs.Int.{bit_at}
use Rattle.solo_view.specs.Area.{area_word, is_in_area}
use Rattle.solo_view.specs.Blocks.{bitmap_word, chunk_of, descriptor_word, is_chunk, is_run, tells_nothing, zone_of}
use Rattle.solo_view.specs.declared.occ.Occ.{Occ}
use Rattle.solo_view.specs.declared.occ.Occ.TheVariants.{Run}
use Rattle.solo_view.specs.Occupancy.{is_chunk_taken}
use Rattle.solo_view.specs.declared.change.Change.{Change}
use Rattle.solo_view.specs.Counts.{MayCount, HasRoom, IsAtStop}
use Rattle.solo_view.specs.Held.{is_held, is_under, is_reserved}
use Rattle.solo_view.specs.Log.{Phase, Log, Recorded}
use Rattle.pm_record.specs.Undo.{undo_of}
use Rattle.std.proofs.lemmas.Option.{slice_get_within}
use Rattle.solo_view.specs.Rights.{is_written}
use Rattle.solo_view.specs.View.{View, Lock}
use Rattle.solo_view.specs.Views.{changed, reserves}
use Rattle.pm_image.specs.Logs.{undo_slot, slot_line}
use Rattle.solo_world.specs.Course.{flight}
use Rattle.solo_world.specs.Entries.{HasNone, is_in_log, is_redone, seal_in, IsGrowing}
use Rattle.solo_world.specs.Fits.{EntriesFit, LaneFits, LockFits, LogFits, RedoneWord, PhaseFits, ShowsHold, ReservedChange}
use Rattle.solo_world.specs.Heap.{AreNewRuns, Heap, describing, heap_words}
use Rattle.solo_world.specs.History.{Entry, Flies, settled}
use Rattle.solo_world.specs.Laws.{with_view}
use Rattle.solo_world.specs.Lawful.{MayFill, generation_limit}
use Rattle.solo_world.specs.Memory.{Memory, Becomes}
use Rattle.solo_world.specs.Memory.Location.{PoolWord, LockWord, CommitCounter, StopWord}
use Rattle.solo_world.specs.Opening.{IsLivingWord, Opening, IsChunk, is_free_chunk}
use Rattle.solo_world.specs.Records.{IsRecordAt, generation_of, records_generation, used_slots}
use Rattle.solo_world.specs.World.{Views, World}
use Rattle.solo_world.proofs.Apart.{area_bounds, IsOwn, area_apart, held_apart, written_apart}
use Rattle.solo_world.proofs.Aside.{IsAside, aside_area, aside_held, aside_written, reserved_aside}
use Rattle.solo_world.proofs.Exclusion.{writes_under}
use Rattle.solo_world.proofs.Chunks.{chunk_here}
use Rattle.solo_world.proofs.Frame.{HeapFits, heap_kept, heap_of, in_phase, lane_stays}
use Rattle.solo_world.proofs.HeapWords.{AreDescribedSame, free_descriptor, heap_same}
use Rattle.solo_world.proofs.Living.{descriptor_page}
use Rattle.solo_world.proofs.Locations.{plain_pool, other_pool, lock-pool, counter-pool, stop-pool}
use Rattle.solo_world.proofs.Pairs.{entries_sealed}
use Rattle.solo_world.proofs.Heaps.{beside_same, heap_still}
use Rattle.solo_world.proofs.Reserved.{describing_chunk, held_by_parts, reserved_again, reserved_described}
use Rattle.solo_world.proofs.Worlds.{HeapNow, own, quiet, unlogged_before, hold_kept, room_kept, at_stop_kept, stop_kept}

-- words from one on, where another word is stored
pub range_set_other : (words : List ℕ) (w x from n : ℕ) → (w < from) ⊎ (from + n ≤ w) → slice_range (set words w x) from (from + n) ≡ slice_range words from (from + n)
range_set_other words w x from n apart =
    ⊎_elim (λ (below : w < from). ap (take (from + n - from)) (drop-set-lt from words w x below))
    (λ (above : from + n ≤ w). let there : from + (w - from) ≡ w = omega arith in
    ap (λ u. take (from + n - from) (drop from (set words u x))) (sym there) ∙ (ap (take (from + n - from)) (drop-set-add from words (w - from) x) ∙ take-set-le (from + n - from) (drop from words) (w - from) x (omega arith)))
    apart

-- a slot where a word of no slot, or of another, is stored
pub slot_set_other : (words : List ℕ) (w x lane slot : ℕ) → (w < 8 * slot_line lane slot) ⊎ (8 * slot_line lane slot + 8 ≤ w) → undo_slot (set words w x) lane slot ≡ undo_slot words lane slot
slot_set_other words w x lane slot apart = range_set_other words w x (8 * slot_line lane slot) 8 apart

-- a word that the lane may write is under one of its locks
pub written_under : (locks : List Lock) (w : ℕ) → list_any (λ (l : Lock). l.write && is_some l.block && is_under w l) locks ≡ true → list_any (is_under w) locks ≡ true
written_under [] w e = e
written_under (l ∷ locks) w e =
    ⊎_elim (λ (here : (l.write && is_some l.block && is_under w l) ≡ true). or_left (is_under w l) (list_any (is_under w) locks) (and_parts (l.write && is_some l.block) (is_under w l) here).1)
    (λ (later : list_any (λ (m : Lock). m.write && is_some m.block && is_under w m) locks ≡ true). or_right (is_under w l) (list_any (is_under w) locks) (written_under locks w later))
    (or_cases (l.write && is_some l.block && is_under w l) (list_any (λ (m : Lock). m.write && is_some m.block && is_under w m) locks) e)

-- the lane may change the word
abbrev pub IsOwnWord : View → ℕ → Type 0
IsOwnWord v w = IsTrue (is_in_area v.lane w) ⊎ (IsTrue (is_written v w) ⊎ IsTrue (is_reserved v w))

-- and it tells of no block
abbrev pub IsPlainWord : View → ℕ → Type 0
IsPlainWord v w = IsTrue (is_in_area v.lane w) ⊎ (IsTrue (is_written v w) ⊎ MayFill v w)

pub plain_own : (v : View) (w : ℕ) → IsPlainWord v w → IsOwnWord v w
plain_own v w (inl area) = inl area
plain_own v w (inr (inl written)) = inr (inl written)
plain_own v w (inr (inr fills)) = inr (inr fills.reserved)

-- of a list with one more in front, or not, the others are those of the list
contains-before : (held : Bool) (w : ℕ) (known : List ℕ) (u : ℕ) → u ≢ w → Contains (cond held (w ∷ known) known) u → Contains known u
contains-before true w known u differ (zero, low, at) = absurd (differ (sym at))
contains-before true w known u differ (suc n, low, at) = (n, omega arith, at)
contains-before false w known u differ there = there

contains-with : (held : Bool) (w : ℕ) (known : List ℕ) (u : ℕ) → Contains known u → Contains (cond held (w ∷ known) known) u
contains-with true w known u (n, low, at) = (suc n, omega arith, at)
contains-with false w known u there = there

module _ (o : Opening) (old : Memory) (views : Views) (log : List Entry) (decided : ℕ → Bool) (world : World o old views log decided) (k : ℕ) (inside : k < o.lanes) (v : View) (is : views k ≡ v)
    (new : Memory) (w x : ℕ) (moves : Becomes (PoolWord w) x old new) (in_pool : w < length v.words) (may : MayCount v) (room : HasRoom v.changes) where
  mine : LaneFits o old (settled o log decided) (Flies log decided k) k v
  mine = own o old views log decided world k inside v is

  -- a word of the view, and of the memory
  pub other_word : (u : ℕ) → u ≢ w → slice_index (set v.words w x) u ≡ slice_index v.words u
  other_word u differ = get_or-set_other v.words w u x 0 differ

  pub this_word : slice_index (set v.words w x) w ≡ x
  this_word = get_or-set_same v.words w x 0 in_pool

  pub word_now : (u : ℕ) → (u ≢ w → old (PoolWord u) ≡ slice_index v.words u) → new (PoolWord u) ≡ slice_index (set v.words w x) u
  word_now u before = ⊎_elim (λ (this : u ≡ w). ap (λ z. new (PoolWord z)) this ∙ (moves.1 ∙ (sym this_word ∙ ap (slice_index (set v.words w x)) (sym this))))
      (λ (differ : u ≢ w). moves.0 (PoolWord u) (other_pool u w differ) ∙ (before differ ∙ sym (other_word u differ))) (cases_eq u w)

  -- what it knows then: the word too, where it holds it
  abbrev pub known_then : List ℕ
  known_then = cond (is_held v w) (w ∷ v.known) v.known

  pub known_before : (u : ℕ) → u ≢ w → Contains known_then u → Contains v.known u
  known_before u differ there = contains-before (is_held v w) w v.known u differ there

  pub known_more : (u : ℕ) → Contains v.known u → Contains known_then u
  known_more u there = contains-with (is_held v w) w v.known u there

  -- the word is changed so: by a store of all of it, or of some bits
  module _ (c : Change) where
    abbrev pub stored_view : Log → View
    stored_view lg = changed v w x c lg

    -- the log after a store of a word of no slot
    pub log_with : (lg : Log) (generation : ℕ) → lg.records ≡ v.log.records → ((slot : ℕ) → slot < 64 → (w < 8 * slot_line v.lane slot) ⊎ (8 * slot_line v.lane slot + 8 ≤ w))
        → used_slots lg.phase (stored_view lg) ≡ used_slots v.log.phase v → LogFits (settled o log decided) v generation → LogFits (settled o log decided) (stored_view lg) generation
    log_with lg generation records apart used fits =
        let before : (slot : ℕ) (r : Recorded) → IsRecordAt (stored_view lg) slot r → IsRecordAt v slot r = λ slot r there. ap (λ rs. slice_get rs slot) (sym records) ∙ there in record {
          most = subst (λ (rs : List Recorded). length rs ≤ 64) (sym records) fits.most;
          stored = λ slot r there. let at = before slot r there in let low = slice_get_within v.log.records slot r at in let most = fits.most in slot_set_other v.words w x v.lane slot (apart slot (omega arith)) ∙ fits.stored slot r at;
          each = λ slot r there. let f = fits.each slot r (before slot r there) in record {
            some = f.some;
            most = f.most;
            each = λ i low. let e = f.each i low in record { own = e.own; known = known_more (r.word + i) e.known; before = e.before };
          };
          once = λ slot other r q u there there'. fits.once slot other r q u (before slot r there) (before other q there');
          stale = λ slot u low high there. fits.stale slot u (subst (λ n. n ≤ slot) used low) high (ap undo_of (sym (slot_set_other v.words w x v.lane slot (apart slot high))) ∙ there);
        }

    pub log_beside : (phase : Phase) (generation : ℕ) → ((slot : ℕ) → slot < 64 → (w < 8 * slot_line v.lane slot) ⊎ (8 * slot_line v.lane slot + 8 ≤ w))
        → used_slots phase (stored_view (in_phase phase v.log)) ≡ used_slots v.log.phase v → LogFits (settled o log decided) v generation → LogFits (settled o log decided) (stored_view (in_phase phase v.log)) generation
    log_beside phase generation apart used fits = log_with (in_phase phase v.log) generation refl apart used fits

    -- the entries after a store of a word of no pair, in this phase
    pub entries_beside : (phase : Phase) → (IsGrowing v.log.phase → IsGrowing phase) → (w < 520 + 1024 * v.lane) ⊎ (648 + 1024 * v.lane ≤ w) → slice_index (set v.words w x) (area_word v.lane + 1) ≡ seal_in phase (stored_view (in_phase phase v.log))
        → HasNone phase (stored_view (in_phase phase v.log)) → EntriesFit (stored_view (in_phase phase v.log))
    entries_beside phase grows apart seal none = entries_sealed v (stored_view (in_phase phase v.log)) refl refl
        (λ u low high. other_word u (λ same. ⊎_elim (λ (below : w < 520 + 1024 * v.lane). absurd (omega arith)) (λ (above : 648 + 1024 * v.lane ≤ w). absurd (omega arith)) apart))
        (λ u own_word. own_word) (λ i f at free. inr (free.0, grows free.1, free.2)) seal none mine.entries

module _ (o : Opening) (old : Memory) (views : Views) (log : List Entry) (decided : ℕ → Bool) (world : World o old views log decided) (k : ℕ) (inside : k < o.lanes) (v : View) (is : views k ≡ v)
    (new : Memory) (w x : ℕ) (moves : Becomes (PoolWord w) x old new) (in_pool : w < length v.words) (right : IsOwnWord v w) (may : MayCount v) (room : HasRoom v.changes) where
  own_fits : LaneFits o old (settled o log decided) (Flies log decided k) k v
  own_fits = own o old views log decided world k inside v is

  owned : IsOwn o old k w ⊎ IsAside o views k w
  owned = ⊎_elim (λ (area : IsTrue (is_in_area v.lane w)). inl (inl (ap (λ n. is_in_area n w) (sym own_fits.lane.lane) ∙ area)))
      (λ (behind : IsTrue (is_written v w) ⊎ IsTrue (is_reserved v w)). ⊎_elim (λ (written : IsTrue (is_written v w)). inl (inr (writes_under o old k v w own_fits.locks written)))
      (λ (reserved : is_reserved v w ≡ true). inr (reserved_aside o old views log decided world k w inside (ap (λ u. is_reserved u w) is ∙ reserved))) behind) right

  module _ (j : ℕ) (low : j < o.lanes) (other : j ≢ k) where
    fits_of : LaneFits o old (settled o log decided) (Flies log decided j) j (views j)
    fits_of = world.each_lane j low

    no_area : IsTrue (is_in_area j w) → ⊥
    no_area there = ⊎_elim (λ (own_word : IsOwn o old k w). area_apart o old j k w world.sound low inside other own_word there) (λ (aside : IsAside o views k w). aside_area o views k w world.sound aside j low there) owned

    no_held : IsTrue (is_held (views j) w) → ⊥
    no_held there = ⊎_elim (λ (own_word : IsOwn o old k w). held_apart o old (settled o log decided) (Flies log decided j) j k w (views j) world.sound low inside other own_word fits_of there)
        (λ (aside : IsAside o views k w). aside_held o views k w world.sound aside old (settled o log decided) (Flies log decided j) j low other fits_of there) owned

    no_written : IsTrue (is_written (views j) w) → ⊥
    no_written there = ⊎_elim (λ (own_word : IsOwn o old k w). written_apart o old j k w (views j) world.sound inside other own_word fits_of.locks there)
        (λ (aside : IsAside o views k w). aside_written o views k w world.sound aside old j (views j) fits_of.locks there) owned

  -- the other lanes' facts stay, where those of the heap do
  pub others_stay : ((j : ℕ) → j < o.lanes → j ≢ k → HeapFits o (heap_words o new) (views j)) → (j : ℕ) → j < o.lanes → j ≢ k → LaneFits o new (settled o log decided) (Flies log decided j) j (views j)
  others_stay heaps j low other =
      let fits = world.each_lane j low in
      let same : (u : ℕ) → u ≢ w → new (PoolWord u) ≡ old (PoolWord u) = λ u differ. moves.0 (PoolWord u) (other_pool u w differ) in
      lane_stays o old new (settled o log decided) (settled o log decided) (Flies log decided j) (Flies log decided j) j (views j)
      (λ u in_area. same u (λ this. no_area j low other (ap (λ n. is_in_area n w) (sym fits.lane.lane) ∙ subst (λ z. IsTrue (is_in_area (views j).lane z)) this in_area)))
      (λ u known. same u (λ this. no_held j low other (subst (λ z. IsTrue (is_held (views j) z)) this (fits.picture.held u known))))
      (λ u written. same u (λ this. no_written j low other (subst (λ z. IsTrue (is_written (views j) z)) this written)))
      (λ line write. subst (λ word. ShowsHold j write word) (sym (moves.0 (LockWord line) (lock-pool line w)))) (λ u written. refl) (λ n flies. flies) (heaps j low other) fits

  -- the word is changed so: by a store of all of it, or of some bits
  module _ (c : Change) where
    abbrev stored : Log → View
    stored lg = changed v w x c lg

    own_held : (lg : Log) → ((u : ℕ) → is_reserved v u ≡ true → is_reserved (stored lg) u ≡ true) → is_held (stored lg) w ≡ true
    own_held lg still =
        let core : Bool = is_in_area v.lane w || list_any (is_under w) v.locks in
        ⊎_elim (λ (area : is_in_area v.lane w ≡ true). or_left core (is_reserved (stored lg) w) (or_left (is_in_area v.lane w) (list_any (is_under w) v.locks) area))
        (λ (behind : IsTrue (is_written v w) ⊎ IsTrue (is_reserved v w)).
        ⊎_elim (λ (written : is_written v w ≡ true). or_left core (is_reserved (stored lg) w) (or_right (is_in_area v.lane w) (list_any (is_under w) v.locks) (written_under v.locks w written)))
        (λ (reserved : is_reserved v w ≡ true). or_right core (is_reserved (stored lg) w) (still w reserved)) behind) right

    -- the lane's own facts after the store, from those of its log and of the heap
    pub stored_stays : (lg : Log) → ((u : ℕ) → is_reserved v u ≡ true → is_reserved (stored lg) u ≡ true) → HeapFits o (heap_words o new) (stored lg)
        → LogFits (settled o log decided) (stored lg) (records_generation lg.phase (stored lg)) → EntriesFit (stored lg)
        → ((u : ℕ) → IsTrue (is_redone (stored lg) u) → IsTrue (is_written v u) → RedoneWord new (settled o log decided) (stored lg) u)
        → PhaseFits (Flies log decided k) (stored lg) lg.phase
        → 1 ≤ generation_of (stored lg) → generation_of (stored lg) ≤ generation_limit → LaneFits o new (settled o log decided) (Flies log decided k) k (stored lg)
    stored_stays lg still heap log_fits entries_fit redone phase_fits first last = record {
      lane = record { lanes = own_fits.lane.lanes; zones = own_fits.lane.zones; lane = own_fits.lane.lane; size = length-set v.words w x ∙ own_fits.lane.size };
      picture = record {
        area = λ u in_area. word_now o old views log decided world k inside v is new w x moves in_pool may room u (λ differ. own_fits.picture.area u in_area);
        known = λ u known. word_now o old views log decided world k inside v is new w x moves in_pool may room u (λ differ. own_fits.picture.known u (known_before o old views log decided world k inside v is new w x moves in_pool may room u differ known));
        held = λ u known. ⊎_elim
            (λ (this : u ≡ w). subst (λ z. is_held (stored lg) z ≡ true) (sym this) (own_held lg still))
            (λ (differ : u ≢ w). held_by_parts (is_in_area v.lane u || list_any (is_under u) v.locks) (is_in_area v.lane u || list_any (is_under u) v.locks) (is_reserved v u) (is_reserved (stored lg) u) (λ core. core)
            (still u)
            (own_fits.picture.held u (known_before o old views log decided world k inside v is new w x moves in_pool may room u differ known))) (cases_eq u w);
        descriptors = heap.descriptors;
      };
      locks = All-weaker (LockFits o old k) (LockFits o new k) (λ l f. record { shows = subst (λ word. ShowsHold k l.write word) (sym (moves.0 (LockWord l.line) (lock-pool l.line w))) f.shows; found = f.found }) v.locks own_fits.locks;
      log = log_fits;
      entries = entries_fit;
      redone = redone;
      phase = phase_fits;
      blocks = heap.blocks;
      first_generation = first;
      last_generation = last;
      room = let before = room in let e = length-append v.changes (c ∷ []) in omega (arith, e, before);
      within = λ stop e. let due = may stop e in omega arith;
    }

    -- the world after it
    pub world_after : (lg : Log) → ((j : ℕ) → j < o.lanes → j ≢ k → HeapFits o (heap_words o new) (views j)) → HeapNow o new (with_view views k (stored lg))
        → LaneFits o new (settled o log decided) (Flies log decided k) k (stored lg)
        → ((n : ℕ) → flight v ≡ Some n → flight (stored lg) ≡ Some n)
        → ((u : ℕ) → IsLivingWord o u → is_in_log (stored lg) u ≡ false → (u ≢ w) × (is_in_log v u ≡ false))
        → World o new (with_view views k (stored lg)) log decided
    world_after lg heaps heap fits flies words =
        let v' : View = stored lg in
        quiet o old views log decided world k inside v is v' new (others_stay heaps) fits
        (λ u living un others. let t = words u living un in moves.0 (PoolWord u) (other_pool u w t.0) ∙ world.each_word u living (unlogged_before o old views log decided world k inside v is v' u t.1 others))
        (λ line bit one. hold_kept o old views log decided world k inside v is v' line bit (λ there. there) (world.each_line line bit (subst (λ n. bit_at n bit ≡ 1) (moves.0 (LockWord line) (lock-pool line w)) one)))
        flies (moves.0 CommitCounter (counter-pool w)) (room_kept o old views log decided world k inside v is v' (λ can. can)) refl heap
        (⊎_elim (λ (unset : old StopWord ≡ 0). inl (moves.0 StopWord (stop-pool w) ∙ unset))
        (λ (t : (j : ℕ) × (j < o.lanes) × IsAtStop (views j)). inr (at_stop_kept o old views log decided world k inside v is v' (stop_kept v v' refl (omega arith)) t)) world.stop_word)

-- ---- a word that tells of no block

module _ (o : Opening) (old : Memory) (views : Views) (log : List Entry) (decided : ℕ → Bool) (world : World o old views log decided) (k : ℕ) (inside : k < o.lanes) (v : View) (is : views k ≡ v)
    (new : Memory) (w x : ℕ) (moves : Becomes (PoolWord w) x old new) (in_pool : w < length v.words) (plain : IsPlainWord v w) (may : MayCount v) (room : HasRoom v.changes) where
  fits_here : LaneFits o old (settled o log decided) (Flies log decided k) k v
  fits_here = own o old views log decided world k inside v is

  -- it lies in no area, and in a chunk that was free it is no run's bitmap
  outside_chunks : IsTrue (is_in_area v.lane w) ⊎ IsTrue (is_written v w) → (page : ℕ) → IsChunk o.lanes page → (w ≡ descriptor_word o.lanes page) ⊎ ((w ≡ bitmap_word page) × (is_free_chunk (slice_index o.words) o.lanes page ≡ true)) → ⊥
  outside_chunks (inl area) page chunk tells =
      let t = area_bounds v.lane w area in let high = t.1 in let lane = fits_here.lane.lane in let low = chunk.0 in let some = chunk.1 in
      absurd (⊎_elim (λ (e : w ≡ descriptor_word o.lanes page). omega (arith, e, some, high, lane)) (λ (e : (w ≡ bitmap_word page) × (is_free_chunk (slice_index o.words) o.lanes page ≡ true)). let at = e.0 in omega (arith, at, low, high, lane)) tells)
  outside_chunks (inr written) page chunk tells =
      let t = writes_under o old k v w fits_here.locks written in
      let block = world.sound.in_blocks t.0 w t.1 in
      ⊎_elim (λ (e : w ≡ descriptor_word o.lanes page). world.sound.apart t.0 w t.1 (page, (chunk, inl e)))
      (λ (e : (w ≡ bitmap_word page) × (is_free_chunk (slice_index o.words) o.lanes page ≡ true)).
      let here : w / 512 ≡ page = let at = e.0 in omega (arith, at) in
      let taken = (and_parts (is_chunk o.lanes (w / 512)) (is_chunk_taken (slice_index o.words) o.lanes (zone_of o.lanes (w / 512)) (chunk_of o.lanes (w / 512) - 1)) (and_parts (is_chunk o.lanes (w / 512) && is_chunk_taken (slice_index o.words) o.lanes (zone_of o.lanes (w / 512)) (chunk_of o.lanes (w / 512) - 1)) _ block).0).1 in
      false≢true (sym (ap not (subst (λ p. is_chunk_taken (slice_index o.words) o.lanes (zone_of o.lanes p) (chunk_of o.lanes p - 1) ≡ true) here taken)) ∙ e.1)) tells

  -- in a chunk that the lane reserved the picture's descriptor is as it is now
  filled_chunk : MayFill v w → is_chunk o.lanes (w / 512) ≡ true
  filled_chunk fills = ap (λ n. is_chunk n (w / 512)) (sym fits_here.lane.lanes) ∙ (and_parts (is_chunk v.lanes (w / 512)) _ fills.plain).0

  filled_picture : (fills : MayFill v w) → slice_index v.words (descriptor_word o.lanes (w / 512)) ≡ heap_words o old (descriptor_word o.lanes (w / 512))
  filled_picture fills = reserved_described o old v w fits_here.lane.lanes fits_here.blocks fills.reserved (chunk_here o.lanes (w / 512) (filled_chunk fills)) (λ u. slice_index v.words u ≡ heap_words o old u) fits_here.blocks.described

  -- the stored word describes no chunk
  pub no_descriptor : (page : ℕ) → IsChunk o.lanes page → descriptor_word o.lanes page ≢ w
  no_descriptor page chunk same = by_kind plain where
    by_kind : IsPlainWord v w → ⊥
    by_kind (inl area) = outside_chunks (inl area) page chunk (inl (sym same))
    by_kind (inr (inl written)) = outside_chunks (inr written) page chunk (inl (sym same))
    by_kind (inr (inr fills)) = false≢true (sym (descriptor_page o.lanes page chunk) ∙ (ap (λ u. is_chunk o.lanes (u / 512)) same ∙ filled_chunk fills))

  pub described_same : AreDescribedSame o old new
  described_same page chunk = moves.0 (PoolWord (descriptor_word o.lanes page)) (other_pool (descriptor_word o.lanes page) w (no_descriptor page chunk))

  -- nor is it the bitmap of a new run
  no_new_bitmap : (page : ℕ) → IsChunk o.lanes page → is_free_chunk (slice_index o.words) o.lanes page ≡ true → is_run (old (PoolWord (descriptor_word o.lanes page))) ≡ true → bitmap_word page ≢ w
  no_new_bitmap page chunk free run same = by_kind plain where
    by_kind : IsPlainWord v w → ⊥
    by_kind (inl area) = outside_chunks (inl area) page chunk (inr (sym same, free))
    by_kind (inr (inl written)) = outside_chunks (inr written) page chunk (inr (sym same, free))
    by_kind (inr (inr fills)) =
        let here : w / 512 ≡ page = omega (arith, same) in
        let picture : slice_index v.words (descriptor_word v.lanes (w / 512)) ≡ old (PoolWord (descriptor_word o.lanes page)) =
        ap (λ n. slice_index v.words (descriptor_word n (w / 512))) fits_here.lane.lanes ∙ (filled_picture fills ∙ (ap (λ p. heap_words o old (descriptor_word o.lanes p)) here ∙ free_descriptor o old page chunk free)) in
        let first : eqb (w % 512) 0 ≡ true = eq-eqb (w % 512) 0 (omega (arith, same)) in
        let silent = not-true (eqb (w % 512) 0 && is_run (slice_index v.words (descriptor_word v.lanes (w / 512)))) (and_parts (is_chunk v.lanes (w / 512)) _ fills.plain).1 in
        false≢true (sym silent ∙ and_from (eqb (w % 512) 0) (is_run (slice_index v.words (descriptor_word v.lanes (w / 512)))) first (ap is_run picture ∙ run))

  pub runs_stay : AreNewRuns o (λ u. new (PoolWord u))
  runs_stay page chunk free =
      let d = described_same page chunk.0 in
      ⊎_elim (λ (zero_word : old (PoolWord (descriptor_word o.lanes page)) ≡ 0). inl (d ∙ zero_word))
      (λ run. inr (record {
        lines = run.lines;
        some_blocks = run.some_blocks;
        described = d ∙ run.described;
        no_block = moves.0 (PoolWord (bitmap_word page)) (other_pool (bitmap_word page) w (no_new_bitmap page chunk.0 free (let is = run.described in eq-eqb (old (PoolWord (descriptor_word o.lanes page)) % 256) 1 (omega (arith, is))))) ∙ run.no_block;
      }))
      (world.new_runs page chunk free)

  pub others_kept : (j : ℕ) → j < o.lanes → j ≢ k → LaneFits o new (settled o log decided) (Flies log decided j) j (views j)
  others_kept = others_stay o old views log decided world k inside v is new w x moves in_pool (plain_own v w plain) may room
      (λ j low other. heap_kept o old new (views j) described_same (heap_of o old (settled o log decided) (Flies log decided j) j (views j) (world.each_lane j low)))

  module _ (c : Change) where
    -- what describes what the lane reserved is as it was
    described_still : (at : Occ) (bit : ℕ) → reserves v at bit ≡ true → slice_index (set v.words w x) (describing o.lanes at bit) ≡ slice_index v.words (describing o.lanes at bit)
    described_still at bit has = let t = describing_chunk o (heap_words o old) v at bit fits_here.blocks has in
        ap (slice_index (set v.words w x)) (sym t.1.1) ∙ (other_word o old views log decided world k inside v is new w x moves in_pool may room (descriptor_word o.lanes t.0) (no_descriptor t.0 t.1.0) ∙ ap (slice_index v.words) t.1.1)

    -- what the lane reserved it has reserved still
    pub reserved_still : (lg : Log) (u : ℕ) → is_reserved v u ≡ true → is_reserved (changed v w x c lg) u ≡ true
    reserved_still lg u = reserved_again o v (changed v w x c lg) u fits_here.lane.lanes refl refl (λ place bit has. described_still (Run place) bit has)

    -- a change in it is one still
    pub change_still : (lg : Log) (d : Change) → ReservedChange v d → ReservedChange (changed v w x c lg) d
    change_still lg d of = record {
      reserved = reserved_still lg d.word of.reserved;
      plain = ⊎_elim (λ (tells : tells_nothing v.lanes v.words d.word ≡ true).
          let chunk : IsChunk o.lanes (d.word / 512) = chunk_here o.lanes (d.word / 512) (ap (λ n. is_chunk n (d.word / 512)) (sym fits_here.lane.lanes) ∙ (and_parts (is_chunk v.lanes (d.word / 512)) _ tells).0) in
          inl (ap (λ z. is_chunk v.lanes (d.word / 512) && not (eqb (d.word % 512) 0 && is_run z))
          (subst (λ n. slice_index (set v.words w x) (descriptor_word n (d.word / 512)) ≡ slice_index v.words (descriptor_word n (d.word / 512))) (sym fits_here.lane.lanes)
          (other_word o old views log decided world k inside v is new w x moves in_pool may room (descriptor_word o.lanes (d.word / 512)) (no_descriptor (d.word / 512) chunk))) ∙ tells))
          (λ found. inr found) of.plain;
    }

    heap_here_now : (lg : Log) → HeapFits o (heap_words o new) (changed v w x c lg)
    heap_here_now lg = heap_kept o old new (changed v w x c lg) described_same (record {
      descriptors = λ page chunk. subst (λ y. (y ≡ slice_index o.words (descriptor_word o.lanes page)) ⊎ (y ≡ heap_words o old (descriptor_word o.lanes page)))
          (sym (other_word o old views log decided world k inside v is new w x moves in_pool may room (descriptor_word o.lanes page) (no_descriptor page chunk))) (fits_here.picture.descriptors page chunk);
      blocks = record { of_pool = fits_here.blocks.of_pool; small = fits_here.blocks.small; free = fits_here.blocks.free; described = λ at bit has. described_still at bit has ∙ fits_here.blocks.described at bit has; freed = fits_here.blocks.freed };
    })

    pub stored_fits : (lg : Log) → LogFits (settled o log decided) (changed v w x c lg) (records_generation lg.phase (changed v w x c lg)) → EntriesFit (changed v w x c lg)
        → ((u : ℕ) → IsTrue (is_redone (changed v w x c lg) u) → IsTrue (is_written v u) → RedoneWord new (settled o log decided) (changed v w x c lg) u)
        → PhaseFits (Flies log decided k) (changed v w x c lg) lg.phase
        → 1 ≤ generation_of (changed v w x c lg) → generation_of (changed v w x c lg) ≤ generation_limit → LaneFits o new (settled o log decided) (Flies log decided k) k (changed v w x c lg)
    stored_fits lg = stored_stays o old views log decided world k inside v is new w x moves in_pool (plain_own v w plain) may room c lg (reserved_still lg) (heap_here_now lg)

    pub stored_world : (lg : Log) → LaneFits o new (settled o log decided) (Flies log decided k) k (changed v w x c lg)
        → ((n : ℕ) → flight v ≡ Some n → flight (changed v w x c lg) ≡ Some n)
        → ((u : ℕ) → IsLivingWord o u → is_in_log (changed v w x c lg) u ≡ false → (u ≢ w) × (is_in_log v u ≡ false))
        → World o new (with_view views k (changed v w x c lg)) log decided
    stored_world lg = world_after o old views log decided world k inside v is new w x moves in_pool (plain_own v w plain) may room c lg
        (λ j low other. heap_kept o old new (views j) described_same (heap_of o old (settled o log decided) (Flies log decided j) j (views j) (world.each_lane j low)))
        (record {
          runs = runs_stay;
          heap = subst (λ h. Heap o h new (with_view views k (changed v w x c lg))) (sym (heap_same o old new described_same))
              (heap_still o (heap_words o old) old new views k v (changed v w x c lg) is world.heap (beside_same old new (PoolWord w) (plain_pool w) moves.0) (record { lanes = refl; reserved = refl; freed = refl; zones = refl }));
        })
