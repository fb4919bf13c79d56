-- A record of a span's present words may be written in the next slot, and what that leaves.
use Rattle.std.proofs.Common.{◌≡◌, ◌≢◌, ℕ, zero, suc, ◌+◌, ◌-◌, ◌*◌, ◌/◌, ◌<◌, ◌≤◌, ◌⊎◌, inl, inr, ⊎_elim, Bool, true, false, leb, ltb, ◌&&◌, Contains, List, [], ◌∷◌, ◌++◌, map, length, take, set, slice_index, slice_get, Some, refl, sym, ap, ◌∙◌, subst, arith, length-append, get_or-set_same, get_or-set_other}
use Rattle.std.specs.List.{range_with_len}
use Rattle.std.proofs.Math.Nat.{eq-or-lt_of_le}
use Rattle.std.proofs.lemmas.Bool.{cases_lt, cases_eq, and_parts, or_from, leb-true, ltb-true, le-ltb, false≢true}
use Rattle.std.proofs.lemmas.List.{length-map, length-take-le, map-append, append_assoc, take_all, take_more}
use Rattle.std.proofs.lemmas.List.FromFn.{length-map-range_with_len, get_or-map-range_with_len}
use Rattle.std.proofs.lemmas.List.Folds.{list_any-append}
use Rattle.pm_image.specs.Logs.{undo_slot, slot_line}
use Rattle.solo_view.specs.declared.change.Change.{Change}
use Rattle.solo_view.specs.Area.{area_word, is_in_area, part_of}
use Rattle.solo_view.specs.Area.Part.{SlotWord}
use Rattle.solo_view.specs.Blocks.{allocation_word, is_word}
use Rattle.solo_view.specs.Changes.{flushed, store_change}
use Rattle.solo_view.specs.Counts.{DropsSome, HasRoom, is_unflushed}
use Rattle.solo_view.specs.Log.{Log, Recorded, log_stored, with_slot}
use Rattle.solo_view.specs.Log.Phase.{Open}
use Rattle.solo_view.specs.Steps.Step.{Store, Flush}
use Rattle.solo_view.specs.View.{View}
use Rattle.solo_view.specs.Views.{after, after_all}
use Rattle.solo_world.specs.Lawful.{Allowed, CanRecord, MayStore, StoreFits}
use Rattle.solo_world.specs.Records.{IsRecordAt, generation_of, covers, is_recorded, slot_word, spelled}
use Rattle.solo_world.specs.Sequences.{in_turn, looks, one, stores, IsForeseen, Ready}
use Rattle.solo_world.specs.declared.lane.Span.{Span}
use Rattle.solo_world.proofs.Going.{Goes, goes_by_view, goes_counted, goes_one, goes_then, goes_weaker}
use Rattle.solo_undo.specs.Sequences.{looks_from, no_span, recorded_in, span_at, stores_from, writes_record, writes_records, writes_slot}
use Rattle.solo_undo.specs.Working.{CanSnapshot, HasArea, HasMadeRoom, HasRecords, IsSameCall, IsSettled, IsUserWord, IsWorking, KeepsOutside, TellsNoBlock}
use Rattle.solo_undo.proofs.Dropping.{flush_drops}
use Rattle.solo_undo.proofs.Areas.{allocation_kept, in_area, slot_part}
use Rattle.solo_undo.proofs.Kept.{area_kept, range_is, recorded_at, records_kept, user_word_kept, written_kept}
use Rattle.solo_undo.proofs.Restored.{open_settled}
use Rattle.solo_undo.proofs.Retired.{may_look}
use Rattle.solo_undo.proofs.Settled.{may_flush}
use Rattle.solo_undo.proofs.Slots.{last_or_before, length_spelled, slot_anew, slot_short, slot_whole, with_record}
use Rattle.solo_undo.proofs.Staying.{looked, same_call, same_call-then, same_changed, same_coursed, same_looked, same_settled}
use Rattle.solo_undo.proofs.Storing.{Is, goes_stores}
use Rattle.solo_undo.proofs.Unflushed.{clean_more, flush_cleans, flush_keeps_clean, unclean_more}

-- the span's words may be recorded, one to four that have no record yet
pub record IsFresh (v : View) (s : Span) : Type 0 where
  pub some : 1 ≤ s.count
  pub most : s.count ≤ 4
  pub each : (i : ℕ) → i < s.count → CanSnapshot v (s.word + i)
  pub new : (i : ℕ) → i < s.count → is_recorded v.log.records (s.word + i) ≡ false

-- the spans are to be recorded behind the records that there are, each behind the one before
pub record IsPlan (v : View) (planned : List Span) : Type 0 where
  pub room : length v.log.records + length planned ≤ 64
  pub fresh : (k : ℕ) → k < length planned → IsFresh v (span_at planned k)
  pub apart : (j k : ℕ) → j < k → k < length planned → (span_at planned j).word + (span_at planned j).count ≤ (span_at planned k).word

-- records of the first so many spans are written, and flushed
pub record IsLogging (v : View) (planned : List Span) (k : ℕ) (u : View) : Type 0 where
  pub call : IsSameCall v u
  pub outside : KeepsOutside v u
  pub generation : generation_of u ≡ generation_of v
  pub is_open : u.log.phase ≡ Open [] []
  pub records : u.log.records ≡ v.log.records ++ map (recorded_in v) (take k planned)
  pub entries : u.log.entries ≡ v.log.entries
  pub has : HasRecords u
  pub clean : (slot : ℕ) → slot < length v.log.records + k → is_unflushed u.changes (slot_line v.lane slot) ≡ false
  pub some : 0 < k → DropsSome u.changes
  pub free : (j i : ℕ) → k ≤ j → j < length planned → i < (span_at planned j).count → is_recorded u.log.records ((span_at planned j).word + i) ≡ false

-- of a slot so many words are written, from this view on
record IsWriting (lane slot : ℕ) (words : List ℕ) (b : View) (i : ℕ) (u : View) : Type 0 where
  call : IsSameCall b u
  others : (w : ℕ) → (w < slot_word lane slot) ⊎ (slot_word lane slot + 8 ≤ w) → slice_index u.words w ≡ slice_index b.words w
  stands : (j : ℕ) → j < i → slice_index u.words (slot_word lane slot + j) ≡ slice_index words j
  log : u.log ≡ with_slot b.log (take i words) []
  clean : (s : ℕ) → s < slot → is_unflushed u.changes (slot_line lane s) ≡ false

-- and the last of them is not flushed
IsDue : ℕ → ℕ → ℕ → View → Type 0
IsDue lane slot i u = 0 < i → is_unflushed u.changes (slot_line lane slot) ≡ true

words_same : (f g : ℕ → ℕ) (a n : ℕ) → ((i : ℕ) → i < n → f (a + i) ≡ g (a + i)) → map f (range_with_len a n) ≡ map g (range_with_len a n)
words_same f g a zero same = refl
words_same f g a (suc n) same =
    ap (λ x. x ∷ map f (range_with_len (a + 1) n)) (ap f (let e : a ≡ a + 0 = omega arith in e) ∙ (same 0 (omega arith) ∙ ap g (let e : a + 0 ≡ a = omega arith in e)))
    ∙ ap (λ xs. g a ∷ xs) (words_same f g (a + 1) n (λ i low. ap f (let e : a + 1 + i ≡ a + (i + 1) = omega arith in e) ∙ (same (i + 1) (omega (arith, low)) ∙ ap g (let e : a + (i + 1) ≡ a + 1 + i = omega arith in e))))

-- no block is found by it where words of the lane's area alone are others
tells_kept : (v u : View) (w : ℕ) → HasArea v → IsSameCall v u → KeepsOutside v u → TellsNoBlock v w → TellsNoBlock u w
tells_kept v u w area call outside quiet l there =
    let before = quiet l (subst (λ locks. Contains locks l) call.locks there) in
    ap (λ n. is_word (allocation_word n u.words l.line) w) call.lane.lanes ∙ ap (λ o. is_word o w) (allocation_kept v.lanes v.lane l.line v.words u.words area.lane outside) ∙ before

module _ (v : View) (working : IsWorking v) (planned : List Span) (plan : IsPlan v planned) where
  many : (k : ℕ) (u : View) → k ≤ length planned → IsLogging v planned k u → length u.log.records ≡ length v.log.records + k
  many k u low p =
      let a = ap length p.records in
      let b = length-append v.log.records (map (recorded_in v) (take k planned)) in
      let c = length-map (take k planned) (recorded_in v) in
      let d = length-take-le k planned low in
      omega (arith, a, b, c, d)

  area_of : (k : ℕ) (u : View) → IsLogging v planned k u → HasArea u
  area_of k u p = area_kept v u p.call p.generation working.area

  pub look_keeps : (k : ℕ) (u : View) (w : ℕ) → IsLogging v planned k u → IsLogging v planned k (looked u w)
  look_keeps k u w p = record {
    call = same_call-then v u (looked u w) p.call (same_looked u w);
    outside = p.outside;
    generation = p.generation;
    is_open = p.is_open;
    records = p.records;
    entries = p.entries;
    has = records_kept u (looked u w) (same_looked u w) (area_of k u p) p.has refl refl (λ z from to. refl);
    clean = p.clean;
    some = p.some;
    free = p.free;
  }

  module _ (k : ℕ) (below : k < length planned) where
    abbrev s : Span
    s = span_at planned k

    abbrev r : Recorded
    r = recorded_in v s

    abbrev slot : ℕ
    slot = length v.log.records + k

    abbrev xs : List ℕ
    xs = spelled (generation_of v) r

    fresh : IsFresh v s
    fresh = plan.fresh k below

    size : length r.old ≡ s.count
    size = length-map-range_with_len (slice_index v.words) s.word s.count

    some_old : 1 ≤ length r.old
    some_old = let e = size in let n = fresh.some in omega (arith, e, n)

    few_old : length r.old ≤ 4
    few_old = let e = size in let n = fresh.most in omega (arith, e, n)

    eight : length xs ≡ 8
    eight = length_spelled (generation_of v) r few_old

    low_slot : slot < 64
    low_slot = let room = plan.room in omega (arith, room, below)

    look_span : Goes (IsLogging v planned k) (looks_from s.word s.count) (IsLogging v planned k)
    unfolding looks_from
    look_span = goes_counted (λ i. IsLogging v planned k) (λ i. looks (s.word + i)) s.count
        (λ i low u p.
        let can = fresh.each i low in
        let user = user_word_kept v u p.call (s.word + i) can.user in
        may_look u (s.word + i) (IsLogging v planned k) user.inside user.known (tells_kept v u (s.word + i) working.area p.call p.outside can.quiet) (look_keeps k u (s.word + i) p))

    beside : (w : ℕ) → is_in_area v.lane w ≡ false → (w < slot_word v.lane slot) ⊎ (slot_word v.lane slot + 8 ≤ w)
    beside w outside =
        ⊎_elim (λ (low : w < slot_word v.lane slot). inl low)
        (λ (from : slot_word v.lane slot ≤ w). ⊎_elim
        (λ (to : w < slot_word v.lane slot + 8). absurd (false≢true (sym outside ∙ in_area v.lane w (omega (arith, from)) (omega (arith, to, low_slot)))))
        (λ (high : slot_word v.lane slot + 8 ≤ w). inr high) (cases_lt w (slot_word v.lane slot + 8)))
        (cases_lt w (slot_word v.lane slot))

    module _ (b : View) (p : IsLogging v planned k b) where
      IsAt : ℕ → View → Type 0
      IsAt i u = IsWriting v.lane slot xs b i u × IsDue v.lane slot i u

      short_log : (i : ℕ) (u : View) → i < 8 → IsWriting v.lane slot xs b i u → u.log ≡ record b.log { phase = Open (take i xs) [] }
      short_log i u low q = q.log ∙ slot_short b.log (take i xs) [] (let n = length-take-le i xs (let e = eight in omega (arith, e, low)) in omega (arith, n, low))

      begun : IsAt 0 b
      unfolding IsAt IsDue
      begun = (
        record {
          call = same_call b;
          others = λ w out. refl;
          stands = λ j low. absurd (omega (arith, low));
          log = ap (λ phase. record b.log { phase = phase }) p.is_open;
          clean = p.clean;
        },
        (λ none. absurd (omega (arith, none))),
      )

      settled : (i : ℕ) (u m : View) → i < 8 → IsSettled u m → IsWriting v.lane slot xs b i u → IsWriting v.lane slot xs b i m
      settled i u m low e q = record {
        call = same_call-then b u m q.call (same_settled u m e);
        others = λ w out. ap (λ (z : View). slice_index z.words w) e ∙ q.others w out;
        stands = λ j under. ap (λ (z : View). slice_index z.words (slot_word v.lane slot + j)) e ∙ q.stands j under;
        log = ap (λ (z : View). z.log) e ∙ (open_settled u.changes u (take i xs) [] (ap (λ (l : Log). l.phase) (short_log i u low q)) ∙ q.log);
        clean = λ t under. ap (λ (z : View). is_unflushed z.changes (slot_line v.lane t)) e;
      }

      roomy : (i : ℕ) (u m : View) → i < 8 → HasMadeRoom u m → IsWriting v.lane slot xs b i u → IsWriting v.lane slot xs b i m
      roomy i u m low made q =
          ⊎_elim (λ (same : m ≡ u). subst (IsWriting v.lane slot xs b i) (sym same) q) (λ (full : (512 ≤ length u.changes) × IsSettled u m). settled i u m low full.1 q) made.1

      generation : (i : ℕ) (u : View) → IsWriting v.lane slot xs b i u → generation_of u ≡ generation_of v
      generation i u q = ap (λ n. slice_index u.words (area_word n)) q.call.lane.lane ∙ (q.others (area_word b.lane) (inl (let same = p.call.lane.lane in omega (arith, same))) ∙ p.generation)

      present : (i : ℕ) (u : View) → IsWriting v.lane slot xs b i u → (w : ℕ) → is_in_area v.lane w ≡ false → slice_index u.words w ≡ slice_index v.words w
      present i u q w outside = q.others w (beside w outside) ∙ p.outside w outside

      can : (i : ℕ) (u : View) → i < 8 → IsWriting v.lane slot xs b i u → CanRecord u r
      can i u low q = record {
        some = some_old;
        most = few_old;
        each = λ j small.
            let low_j : j < s.count = (let e = size in omega (arith, e, small)) in
            let user = (fresh.each j low_j).user in
            let call = same_call-then v b u p.call q.call in
            record {
              own = written_kept v u call (s.word + j) user.own;
              known = call.known (s.word + j) user.known;
              present = present i u q (s.word + j) user.outside ∙ sym (get_or-map-range_with_len (slice_index v.words) s.word s.count j (s.word + j) 0 low_j refl);
              new = ap (λ (l : Log). is_recorded l.records (s.word + j)) (short_log i u low q) ∙ p.free k j (omega arith) below low_j;
            };
      }

      may : (i : ℕ) (m : View) → i < 8 → HasRoom m.changes → IsWriting v.lane slot xs b i m → MayStore m (slot_word v.lane slot + i) (slice_index xs i)
      may i m low room q =
          let lane : m.lane ≡ v.lane = q.call.lane.lane ∙ p.call.lane.lane in
          let n : length (take i xs) ≡ i = length-take-le i xs (let e = eight in omega (arith, e, low)) in
          let records : length m.log.records ≡ slot = ap (λ (l : Log). length l.records) (short_log i m low q) ∙ many k b (omega (arith, below)) p in
          let g = generation i m q in
          record {
            inside = (let one_ = p.call.lane.size in let two = q.call.lane.size in let most = working.area.inside in omega (arith, one_, two, most, low, low_slot));
            room = room;
            fits = subst (λ part. StoreFits m (slot_word v.lane slot + i) (slice_index xs i) m.log.phase part) (sym (ap (λ z. part_of z (slot_word v.lane slot + i)) lane ∙ (slot_part v.lane slot i (slot_word v.lane slot + i) low_slot low refl).0))
                (subst (λ phase. StoreFits m (slot_word v.lane slot + i) (slice_index xs i) phase SlotWord) (sym (ap (λ (l : Log). l.phase) (short_log i m low q)))
                (record {
                  next = r;
                  can = can i m low q;
                  spells = sym (take_more xs i 0 (let e = eight in omega (arith, e, low))) ∙ (ap (λ z. take (z + 1) xs) (sym n) ∙ ap (λ z. take (length (take i xs) + 1) (spelled z r)) (sym g));
                  at = (let e : slot_word v.lane slot + i ≡ slot_word m.lane (length m.log.records) + length (take i xs) = omega (arith, lane, n, records) in e);
                  free = (let more = low_slot in omega (arith, records, more));
                  below = (let most = working.area.below in omega (arith, most, g));
                }));
          }

      stored : (i : ℕ) (m : View) → i < 8 → IsWriting v.lane slot xs b i m → IsAt (i + 1) (after m (Store (slot_word v.lane slot + i) (slice_index xs i)))
      unfolding IsAt IsDue
      stored i m low q =
          let w : ℕ = slot_word v.lane slot + i in
          let x : ℕ = slice_index xs i in
          let c : Change = store_change w (slice_index m.words w) x in
          let lane : m.lane ≡ v.lane = q.call.lane.lane ∙ p.call.lane.lane in
          let inside : w < length m.words = (let one_ = p.call.lane.size in let two = q.call.lane.size in let most = working.area.inside in omega (arith, one_, two, most, low, low_slot)) in (
            record {
              call = same_call-then b m (after m (Store w x)) q.call (same_changed m w x _ _);
              others = λ u out. get_or-set_other m.words w u x 0 (λ same. ⊎_elim (λ (l : u < slot_word v.lane slot). omega (arith, same, l)) (λ (h : slot_word v.lane slot + 8 ≤ u). omega (arith, same, h, low)) out) ∙ q.others u out;
              stands = λ j under. ⊎_elim
                  (λ (this : j ≡ i). ap (λ z. slice_index (set m.words w x) (slot_word v.lane slot + z)) this ∙ (get_or-set_same m.words w x 0 inside ∙ ap (slice_index xs) (sym this)))
                  (λ (other : j ≢ i). get_or-set_other m.words w (slot_word v.lane slot + j) x 0 (λ same. other (omega (arith, same))) ∙ q.stands j (omega (arith, under, other)))
                  (cases_eq j i);
              log = ap (λ part. log_stored m.log.phase part x m.log) (ap (λ z. part_of z w) lane ∙ (slot_part v.lane slot i w low_slot low refl).0)
                  ∙ (ap (λ (l : Log). log_stored l.phase SlotWord x l) (short_log i m low q)
                  ∙ (slot_anew b.log (Open (take i xs) []) (take i xs ++ x ∷ []) [] ∙ ap (λ l. with_slot b.log l []) (sym (take_more xs i 0 (let e = eight in omega (arith, e, low))))));
              clean = λ t under. clean_more (slot_line v.lane t) m.changes c (λ same. absurd (omega (arith, same, under, low))) (q.clean t under);
            },
            (λ some. unclean_more (slot_line v.lane slot) m.changes c (let e : w / 8 ≡ slot_line v.lane slot = omega (arith, low) in e) refl),
          )

      word_written : (i : ℕ) → i < 8 → Goes (IsAt i) (stores (slot_word v.lane slot + i) (slice_index xs i)) (IsAt (i + 1))
      unfolding IsAt
      word_written i low = goes_stores (IsAt i) (IsAt (i + 1)) (slot_word v.lane slot + i) (slice_index xs i)
          (λ u m at made. let q = roomy i u m low made at.0 in (may i m low made.0 q, stored i m low q))

      all_written : Goes (IsAt 0) (stores_from (slot_word v.lane slot) xs) (IsAt (length xs))
      unfolding stores_from
      all_written = goes_counted IsAt (λ i. stores (slot_word v.lane slot + i) (slice_index xs i)) (length xs) (λ i low. word_written i (let e = eight in omega (arith, e, low)))

      whole_log : (u : View) → IsWriting v.lane slot xs b (length xs) u → u.log ≡ with_record b.log r
      whole_log u q = q.log ∙ (ap (λ l. with_slot b.log l []) (take_all (length xs) xs (omega arith)) ∙ slot_whole b.log (generation_of v) r some_old few_old)

      -- the record stands behind the others
      has_more : (u : View) → IsWriting v.lane slot xs b (length xs) u → HasRecords u
      has_more u q =
          let u° : View = record u { log = b.log } in
          let g : generation_of u ≡ generation_of b = generation (length xs) u q ∙ sym p.generation in
          let lane : u.lane ≡ v.lane = q.call.lane.lane ∙ p.call.lane.lane in
          let before : HasRecords u° = records_kept b u° (same_call-then b u u° q.call (same_coursed u u.changes u.calls b.log)) (area_of k b p) p.has refl g
          (λ z from to. q.others z (inl (let n = many k b (omega (arith, below)) p in let same = p.call.lane.lane in omega (arith, n, to, same)))) in
          let n : length b.log.records ≡ slot = many k b (omega (arith, below)) p in
          let rs : u.log.records ≡ b.log.records ++ r ∷ [] = ap (λ (l : Log). l.records) (whole_log u q) in
          let call = same_call-then v b u p.call q.call in
          let cases : (t : ℕ) (a : Recorded) → IsRecordAt u t a → (slice_get b.log.records t ≡ Some a) ⊎ ((t ≡ length b.log.records) × (r ≡ a)) = λ t a there. last_or_before b.log.records r t a (ap (λ l. slice_get l t) (sym rs) ∙ there) in
          let of_new : (z : ℕ) → covers r z ≡ true → (i : ℕ) × ((i < s.count) × (z ≡ s.word + i)) = λ z covering.
          let t = and_parts (leb r.word z) (ltb z (r.word + length r.old)) covering in
          let from = leb-true r.word z t.0 in let to = ltb-true z (r.word + length r.old) t.1 in
          (z - s.word, ((let e = size in omega (arith, e, from, to)), omega (arith, from))) in
          let new_apart : (t : ℕ) (a : Recorded) (z : ℕ) → slice_get b.log.records t ≡ Some a → covers a z ≡ true → covers r z ≡ true → ⊥ = λ t a z there one_ two.
          let o = of_new z two in
          false≢true (sym (p.free k o.0 (omega arith) below o.1.0) ∙ (ap (is_recorded b.log.records) (sym o.1.1) ∙ recorded_at b.log.records t z a there one_)) in
          record {
            most = (let e = ap length rs in let l = length-append b.log.records (r ∷ []) in let more = low_slot in omega (arith, e, l, n, more));
            stored = λ t a there. ⊎_elim (λ (old : slice_get b.log.records t ≡ Some a). before.stored t a old)
                (λ (new : (t ≡ length b.log.records) × (r ≡ a)).
                ap (λ z. undo_slot u.words z t) lane ∙ (ap (undo_slot u.words v.lane) (new.0 ∙ n)
                ∙ (range_is u.words xs (8 * slot_line v.lane slot) eight (let one_ = p.call.lane.size in let two = q.call.lane.size in let most = working.area.inside in omega (arith, one_, two, most, low_slot)) (λ i low. q.stands i (let e = eight in omega (arith, e, low)))
                ∙ (ap (λ z. spelled z r) (sym (generation (length xs) u q)) ∙ ap (spelled (generation_of u)) new.1))))
                (cases t a there);
            some = λ t a there. ⊎_elim (λ (old : slice_get b.log.records t ≡ Some a). before.some t a old)
                (λ (new : (t ≡ length b.log.records) × (r ≡ a)). subst (λ (z : Recorded). 1 ≤ length z.old) new.1 some_old) (cases t a there);
            few = λ t a there. ⊎_elim (λ (old : slice_get b.log.records t ≡ Some a). before.few t a old)
                (λ (new : (t ≡ length b.log.records) × (r ≡ a)). subst (λ (z : Recorded). length z.old ≤ 4) new.1 few_old) (cases t a there);
            each = λ t a z there covering. ⊎_elim (λ (old : slice_get b.log.records t ≡ Some a). let w = before.each t a z old covering in record { own = w.own; known = w.known; outside = w.outside; inside = w.inside })
                (λ (new : (t ≡ length b.log.records) × (r ≡ a)).
                let o = of_new z (ap (λ (y : Recorded). covers y z) new.1 ∙ covering) in
                subst (IsUserWord u) (sym o.1.1) (user_word_kept v u call (s.word + o.0) (fresh.each o.0 o.1.0).user)) (cases t a there);
            once = λ t t' a a' z there also one_ two. ⊎_elim
                (λ (old : slice_get b.log.records t ≡ Some a). ⊎_elim (λ (old' : slice_get b.log.records t' ≡ Some a'). before.once t t' a a' z old old' one_ two)
                (λ (new' : (t' ≡ length b.log.records) × (r ≡ a')). absurd (new_apart t a z old one_ (ap (λ (y : Recorded). covers y z) new'.1 ∙ two))) (cases t' a' also))
                (λ (new : (t ≡ length b.log.records) × (r ≡ a)). ⊎_elim
                (λ (old' : slice_get b.log.records t' ≡ Some a'). absurd (new_apart t' a' z old' two (ap (λ (y : Recorded). covers y z) new.1 ∙ one_)))
                (λ (new' : (t' ≡ length b.log.records) × (r ≡ a')). new.0 ∙ sym new'.0) (cases t' a' also))
                (cases t a there);
          }

      record_there : (m : View) → IsAt (length xs) m → IsLogging v planned (k + 1) (after m (Flush (slot_line v.lane slot)))
      unfolding IsAt IsDue
      record_there m at =
          let q = at.0 in
          let u : View = after m (Flush (slot_line v.lane slot)) in
          let has = has_more m q in
          let flush : IsSameCall m u = same_coursed m (flushed (slot_line v.lane slot) m.changes) (m.calls + 1) m.log in
          let call = same_call-then v b m p.call q.call in
          let rs : m.log.records ≡ b.log.records ++ r ∷ [] = ap (λ (l : Log). l.records) (whole_log m q) in
          let g = generation (length xs) m q in
          record {
            call = same_call-then v m u call flush;
            outside = present (length xs) m q;
            generation = g;
            is_open = ap (λ (l : Log). l.phase) (whole_log m q);
            records = rs ∙ (ap (λ l. l ++ r ∷ []) p.records ∙ (append_assoc v.log.records (map (recorded_in v) (take k planned)) (r ∷ [])
                ∙ ap (λ l. v.log.records ++ l) (sym (map-append (recorded_in v) (take k planned) (s ∷ [])) ∙ ap (map (recorded_in v)) (sym (take_more planned k no_span below)))));
            entries = ap (λ (l : Log). l.entries) (whole_log m q) ∙ p.entries;
            has = records_kept m u flush (area_kept v m call g working.area) has refl refl (λ z from to. refl);
            clean = λ t under. ⊎_elim
                (λ (this : t ≡ slot). ap (λ z. is_unflushed (flushed (slot_line v.lane slot) m.changes) (slot_line v.lane z)) this ∙ flush_cleans (slot_line v.lane slot) m.changes)
                (λ (lower : t < slot). flush_keeps_clean (slot_line v.lane slot) (slot_line v.lane t) m.changes (q.clean t lower))
                (eq-or-lt_of_le (let e : t ≤ slot = omega (arith, under) in e));
            some = λ more. flush_drops (slot_line v.lane slot) m.changes (may_flush m.changes (slot_line v.lane slot) (at.1 (let e = eight in omega (arith, e))));
            free = λ j i from to low. ap (λ l. is_recorded l ((span_at planned j).word + i)) rs
                ∙ (list_any-append (λ (z : Recorded). covers z ((span_at planned j).word + i)) b.log.records (r ∷ [])
                ∙ or_from _ _ (p.free j i (omega (arith, from)) to low) (or_from _ false (not_covered ((span_at planned j).word + i) (let behind = plan.apart k j (omega (arith, from)) to in let e = size in omega (arith, behind, e))) refl));
          } where
            not_covered : (z : ℕ) → r.word + length r.old ≤ z → covers r z ≡ false
            not_covered z high = ap (λ t. leb r.word z && t) (le-ltb z (r.word + length r.old) high) ∙ none (leb r.word z) where
              none : (t : Bool) → (t && false) ≡ false
              none true = refl
              none false = refl

      flushes_slot : (m : View) → IsAt (length xs) m → Allowed m (Flush (slot_line v.lane slot)) × IsForeseen m (Flush (slot_line v.lane slot)) × IsLogging v planned (k + 1) (after m (Flush (slot_line v.lane slot)))
      unfolding IsAt IsDue
      flushes_slot m at = (may_flush m.changes (slot_line v.lane slot) (at.1 (let e = eight in omega (arith, e))), tt, record_there m at)

      slot_written : Goes (Is b) (writes_slot v.lane slot xs) (IsLogging v planned (k + 1))
      unfolding writes_slot
      slot_written =
          goes_then (Is b) (IsAt (length xs)) (IsLogging v planned (k + 1)) (stores_from (slot_word v.lane slot) xs) (one (Flush (slot_line v.lane slot)))
          (goes_weaker (IsAt 0) (Is b) (IsAt (length xs)) (IsAt (length xs)) (stores_from (slot_word v.lane slot) xs) (λ u is. subst (IsAt 0) (sym is) begun) (λ u at. at) all_written)
          (goes_one (IsAt (length xs)) (IsLogging v planned (k + 1)) (Flush (slot_line v.lane slot)) flushes_slot)

    recorded_same : (u : View) → IsLogging v planned k u → recorded_in u s ≡ r
    recorded_same u p = ap (λ old. record { word = s.word; old = old }) (words_same (slice_index u.words) (slice_index v.words) s.word s.count (λ i low. p.outside (s.word + i) (fresh.each i low).user.outside))

    record_written : Goes (IsLogging v planned k) (writes_record v.lane (generation_of v) slot s) (IsLogging v planned (k + 1))
    unfolding writes_record
    record_written = goes_by_view (IsLogging v planned k) (IsLogging v planned (k + 1)) (λ u. in_turn (looks_from s.word s.count) (writes_slot v.lane slot (spelled (generation_of v) (recorded_in u s))))
        (λ u p. goes_then (IsLogging v planned k) (IsLogging v planned k) (IsLogging v planned (k + 1)) (looks_from s.word s.count) (writes_slot v.lane slot (spelled (generation_of v) (recorded_in u s)))
        look_span
        (λ b at. subst (λ z. Ready b (writes_slot v.lane slot (spelled (generation_of v) z) b) × IsLogging v planned (k + 1) (after_all b (writes_slot v.lane slot (spelled (generation_of v) z) b))) (sym (recorded_same u p)) (slot_written b at b refl))
        u p)

  pub records_written : Goes (IsLogging v planned 0) (writes_records v.lane (generation_of v) (length v.log.records) planned) (IsLogging v planned (length planned))
  unfolding writes_records
  records_written = goes_counted (IsLogging v planned) (λ i. writes_record v.lane (generation_of v) (length v.log.records + i) (span_at planned i)) (length planned) (λ k low. record_written k low)
