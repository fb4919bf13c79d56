-- Words that have records are written; and after a snapshot those of its range have some.
use Rattle.std.proofs.Common.{◌≢◌, ◌≡◌, ℕ, zero, suc, ◌+◌, ◌-◌, ◌*◌, ◌/◌, ◌<◌, ◌≤◌, inl, inr, ⊎_elim, Bool, true, false, cond, not, eqb, ltb, ◌||◌, ◌&&◌, List, [], ◌∷◌, ◌++◌, length, map, refl, sym, ap, ◌∙◌, subst, arith, Option, None, Some, Result}
use Rattle.std.specs.Prelude.{slice_index, IsSome}
use Rattle.std.specs.List.{AllByRecursion, filter, flat_map, range_with_len}
use Rattle.std.proofs.lemmas.Bool.{both_ways, cases_lt, eqb-true}
use Rattle.std.proofs.lemmas.Grind.{flat_map-append}
use Rattle.std.proofs.lemmas.List.{append_assoc, map-append}
use Rattle.std.proofs.lemmas.List.Folds.{list_any-append}
use Rattle.std.proofs.lemmas.Bool.Decides.{nat_tests}
use Rattle.std.proofs.lemmas.List.FromFn.{length-range_with_len, map-range_with_len_more}
use Rattle.std.proofs.Math.Nat.{eq-or-lt_of_le}
use Rattle.pm_layout.specs.declared.shape.Shape.{Shape}
use Rattle.pm_memory.specs.declared.lane_mem.Stopped.{Stopped}
use Rattle.pm_model.specs.Items.{is_among}
use Rattle.pm_model.specs.Transaction.{covered_words, new_words, records_from, records_of}
use Rattle.pm_view.specs.Claims.{known}
use Rattle.pm_view.specs.Counts.{HasRoom}
use Rattle.pm_view.specs.Founds.{knows}
use Rattle.pm_view.specs.Log.{Recorded}
use Rattle.pm_view.specs.Places.{Place, place_after, word_of}
use Rattle.pm_view.specs.Steps.Step.{Store}
use Rattle.pm_view.specs.View.{View, runs_one}
use Rattle.pm_view.specs.Views.{after, after_all}
use Rattle.pm_world.specs.LaneFields.{kept_of}
use Rattle.pm_world.specs.Lawful.{MayStore}
use Rattle.pm_world.specs.Sights.{is_recorded}
use Rattle.pm_world.specs.declared.lane.KeptRecord.{KeptRecord}
use Rattle.pm_world.specs.declared.lane.Lane.{Lane}
use Rattle.pm_world.proofs.Basics.{first_given, second_given}
use Rattle.pm_plan.specs.Plans.{IsPersisted, IsReady, Ready, Runs, stores}
use Rattle.pm_plan.proofs.Going.{goes_repeated, goes_stores}
use Rattle.pm_plan.specs.Plans.{stores_from}
use Rattle.pm_undo.specs.Ranges.{HasByte, RangesAreRecorded, RangesMayBeWritten}
use Rattle.pm_undo.specs.Records.{kept_by, kept_in, recorded_in}
use Rattle.pm_undo.specs.Spans.{plan_of, span_in, spans_for, words_in}
use Rattle.pm_undo.specs.Undoing.{Stands, Written, needed}
use Rattle.pm_plan.specs.Notes.{IsBeyond, Valued}
use Rattle.pm_undo.specs.Working.{CanWrite, IsOutside, IsStanding, IsWritten}
use Rattle.pm_undo.specs.declared.spans.Span.{Span}
use Rattle.pm_plan.proofs.AreaParts.{data_beyond}
use Rattle.pm_undo.proofs.Logging.{AreBeyond, Logging, generation_word, known_still, knows_so, log_again, logging_weaker, starts, still_logging, still_working}
use Rattle.pm_plan.proofs.Notes.{known_here, known_noted}
use Rattle.pm_undo.proofs.Planning.{in_range}
use Rattle.pm_undo.proofs.Putting.{old_at}
use Rattle.pm_undo.proofs.RecordedWords.{IsKnownPlace, may_write, write_beyond, write_is, write_more}
use Rattle.pm_undo.proofs.Snapshotted.{all_kept}

-- ---- a word among those kept is a place that is recorded
pub record KeptPlace (v : View) (rs : List Recorded) (w : ℕ) : Type 0 where
  pub place : Place
  pub is_known : IsKnownPlace v place
  pub has_ : is_recorded rs place ≡ true
  pub word : word_of v.fixed.shape place ≡ w

-- a word in a range
record InRange (a n w : ℕ) : Type 0 where
  i : ℕ
  low : i < n
  is : a + i ≡ w

from_range : (a n w : ℕ) → is_among (range_with_len a n) w ≡ true → InRange a n w
from_range a zero w e = absurd (both_ways false refl e)
from_range a (suc n) w e = go (eqb a w) refl e (from_range (a + 1) n w) where
  go : (b : Bool) → eqb a w ≡ b → (b || is_among (range_with_len (a + 1) n) w) ≡ true
      → (is_among (range_with_len (a + 1) n) w ≡ true → InRange (a + 1) n w) → InRange a (suc n) w
  go true here t later = record {
    i = 0;
    low = omega arith;
    is = let e : a ≡ w = eqb-true a w here
        in omega (arith, e);
  }
  go false here t later = let r = later t in
      record {
        i = suc r.i;
        low = (let l = r.low in omega (arith, l));
        is =
            (let e = r.is in omega (arith, e));
      }

pub kept_place : (v : View) (rs : List Recorded) (w : ℕ) → AllByRecursion (IsStanding v) rs
    → is_among (words_in (map (kept_of v.fixed.shape) rs)) w ≡ true → KeptPlace v rs w
unfolding words_in
kept_place v [] w all e = absurd (both_ways false refl e)
kept_place v (r ∷ rs) w all e = go (is_among (range_with_len a n) w) refl
    (sym (list_any-append (λ other. eqb other w) (range_with_len a n)
    (words_in (map (kept_of v.fixed.shape) rs))) ∙ e) (kept_place v rs w all.1) where
      a : ℕ
      a = word_of v.fixed.shape r.place

      n : ℕ
      n = length r.old

      go : (b : Bool) → is_among (range_with_len (word_of v.fixed.shape r.place) (length r.old))
          w ≡ b
          → (is_among (range_with_len (word_of v.fixed.shape r.place) (length r.old)) w || is_among
          (words_in (map (kept_of v.fixed.shape) rs)) w) ≡ true
          → (is_among (words_in (map (kept_of v.fixed.shape) rs)) w ≡ true → KeptPlace v rs w)
          → KeptPlace v (r ∷ rs) w
      go true here t later = let at = from_range a n w here in let s = all.0 in record {
        place = place_after r.place at.i;
        is_known = record {
          plain = s.data_ at.i at.low;
          there = (s.row at.i at.low).0;
          use_ =
              s.use_ at.i at.low;
        };
        has_ = first_given (Rattle.pm_view.specs.Log.old_in r (place_after r.place at.i))
            (Rattle.pm_view.specs.Log.old_of rs (place_after r.place at.i))
            (ap Rattle.pm_world.specs.States.given (old_at r.place r.old at.i (s.data_ at.i at.low)
            at.low));
        word = (s.row at.i at.low).1 ∙ at.is;
      }
      go false here t later = let k =
          later (sym (ap (λ b. b || is_among (words_in (map (kept_of v.fixed.shape) rs)) w) here)
          ∙ t)
          in
          record {
            place = k.place;
            is_known = k.is_known;
            has_ =
                second_given (Rattle.pm_view.specs.Log.old_in r k.place)
                (Rattle.pm_view.specs.Log.old_of rs k.place) k.has_;
            word = k.word;
          }

-- ---- the words are stored
module _ (v : View) (word : ℕ) (values : List ℕ) (can : CanWrite v word values) where
  abbrev sh : Shape
  sh = v.fixed.shape

  -- so many are stored
  record Writing (k : ℕ) (u : View) : Type 0 where
    at : Logging v (IsOutside word k) v.log.records [] u
    far : AreBeyond sh u.changes
    done : (i : ℕ) → i < k → known sh (runs_one v) u.claims (word + i) ≡ Some (slice_index values i)

  stays : (k : ℕ) (u w : View) → Writing k u → IsPersisted u w → Writing k w
  stays k u w p is = let t = still_logging p.at can.working w is in
      record {
        at = t.0;
        far = subst (AreBeyond sh) (sym t.1) tt;
        done = λ i low. known_still p.at
            can.working w is (word + i) ∙ p.done i low;
      }

  some_of : {A : Type 0} (o : Option A) → IsSome o → (y : A) × (o ≡ Some y)
  some_of None s = absurd (both_ways false refl s)
  some_of (Some y) s = (y, refl)

  store_word : (k : ℕ) → k < length values → (u : View) → Writing k u → HasRoom u.changes
      → MayStore u (word + k) (slice_index values k)
      × Writing (k + 1) (after u (Store (word + k) (slice_index values k)))
  store_word k low u p room = subst (λ w. MayStore u w x × Writing (k + 1) (after u (Store w x)))
      kept.word (
        may_write can.working p.at p.far kept.place kept.is_known kept.has_ x (can.small k low)
            room,
        subst (Writing (k + 1))
            (sym (write_is can.working p.at p.far kept.place kept.is_known kept.has_ x)) (record {
              at = write_more can.working (logging_weaker p.at (IsOutside word (k + 1)) fewer) p.far
                  kept.place kept.is_known kept.has_ x (λ y out e. let w = kept.word in
                  ⊎_elim (λ (less : y < word). omega (arith, w, e, less))
                  (λ (more : word + (k + 1) ≤ y). omega (arith, w, e, more)) out);
              far = (
                write_beyond can.working p.at p.far kept.place kept.is_known kept.has_ x,
                p.far,
              );
              done = λ i less. ⊎_elim
                  (λ (last : i ≡ k). subst
                  (λ w. known sh (runs_one v) (Rattle.pm_view.specs.Claims.Knows w x ∷ u.claims)
                  (word + i) ≡ Some (slice_index values i)) (sym kept.word)
                  (subst (λ n. known sh (runs_one v) (Rattle.pm_view.specs.Claims.Knows (word + k) x
                  ∷ u.claims) (word + n) ≡ Some (slice_index values n)) (sym last)
                  (known_here sh u.claims (runs_one v) (word + k) x was.0
                  (p.at.known_ (word + k) (inr (omega arith)) ∙ was.1))))
                  (λ (lower : i < k). known_noted sh u.claims (runs_one v)
                  (Valued (word_of sh kept.place) x) tt (word + i)
                  (λ e. let w = kept.word in omega (arith, w, e, lower)) ∙ p.done i lower)
                  (eq-or-lt_of_le (let e : i ≤ k = omega (arith, less) in e));
            }),
      )
    where
      x : ℕ
      x = slice_index values k

      kept : KeptPlace v v.log.records (word + k)
      kept = kept_place v v.log.records (word + k) can.working.standing (can.recorded k low)

      was : (y : ℕ) × (knows v (word + k) ≡ Some y)
      was = some_of (knows v (word + k)) (can.known k low)

      fewer : (y : ℕ) → IsOutside word (k + 1) y → IsOutside word k y
      fewer y (inl less) = inl less
      fewer y (inr more) = inr (omega (arith, more))

  -- the generation's word is none of them, as the first of them is data
  generation_outside : IsOutside word (length values) (generation_word v)
  generation_outside = go (length values) refl
    where
      go : (n : ℕ) → length values ≡ n → IsOutside word n (generation_word v)
      go zero none = ⊎_elim (λ (less : generation_word v < word). inl less)
          (λ (more : word ≤ generation_word v). inr (omega (arith, more)))
          (cases_lt (generation_word v) word)
      go (suc n) some =
          let kept = kept_place v v.log.records (word + 0) can.working.standing
          (can.recorded 0 (omega (arith, some))) in
          let far = data_beyond sh kept.place kept.is_known.plain in
          let at = kept.word in
          let low = can.working.lane in
          inl (omega (arith, far, at, low))

  -- WORDS THAT HAVE RECORDS MAY BE WRITTEN
  pub write_lawful : Ready v (stores_from word values v)
      × IsWritten v word values (after_all v (stores_from word values v))
  unfolding stores_from
  write_lawful =
      let t = goes_repeated Writing (λ i. stores (word + i) (slice_index values i))
      (length values) (λ k low. goes_stores (Writing k) (Writing (k + 1)) (word + k)
      (slice_index values k) (stays k) (store_word k low)) v
      (record {
        at = starts v can.working (IsOutside word 0);
        far = can.working.clean;
        done =
            λ i low. absurd (omega (arith, low));
      }) in
      let w : View =
      after_all v
      (Rattle.pm_plan.specs.Plans.repeated (λ i. stores (word + i) (slice_index values i))
      (length values) v) in
      let p : Writing (length values) w = t.1 in (
        t.0,
        record {
          same = p.at.same
              ∙ ap (λ l. record v {
                claims = w.claims;
                changes = w.changes;
                calls = w.calls;
                log =
                    l;
              }) (sym (log_again v can.working v.log.records));
          noted = record { notes = p.at.notes; are = p.at.are; each = p.at.each };
          written = λ i low. ap (λ (y : View). knows y (word + i)) p.at.same ∙ p.done i low;
          known = λ u out. knows_so p.at u out;
          working = still_working p.at can.working generation_outside p.far refl can.working.few can.working.standing
              can.working.once;
        },
      )

-- ---- what that is to the lane
module _ {M : Type 0} (at : M → View → Type 0) (lane : Lane M) (word : ℕ) (values : List ℕ) where
  pub write_ready : Stands at lane (λ v. CanWrite v word values) → IsReady (at lane.memory)
      (stores_from word values)
  unfolding IsReady
  write_ready s = (s.0, (s.1.memory, (write_lawful s.0 word values s.2).0))

  pub written_lane : (new : M) (result : Result (Unit {0}) Stopped)
      → Runs (at lane.memory) (at new) (stores_from word values) result
      → Written at word values lane (record lane { memory = new }) result
  unfolding Written Runs
  written_lane new result runs v k can = (runs v k.memory (write_lawful v word values can).0, refl)

-- ---- THE RECORDS OF WORDS HAVE THESE WORDS
abbrev words_of_spans : List Span → List ℕ
words_of_spans spans = flat_map (λ (s : Span). range_with_len s.word s.count) spans

words_from : (o : ℕ × ℕ) (ws : List ℕ)
    → words_of_spans (map span_in (records_from o ws)) ≡ range_with_len o.0 o.1 ++ ws
unfolding records_from
words_from o [] = refl
words_from o (w ∷ ws) = at (eqb w (o.0 + o.1)) refl (ltb o.1 4) (words_from (o.0, o.1 + 1) ws)
    (words_from (w, 1) ws) where
      map_id : (l : List ℕ) → map (λ (k : ℕ). k) l ≡ l
      map_id [] = refl
      map_id (x ∷ l) = ap (λ r. x ∷ r) (map_id l)

      more : w ≡ o.0 + o.1 → range_with_len o.0 (o.1 + 1) ≡ range_with_len o.0 o.1 ++ w ∷ []
      more e = sym (map_id (range_with_len o.0 (o.1 + 1)))
          ∙ (map-range_with_len_more (λ (k : ℕ). k) o.0 o.1 w (sym e)
          ∙ ap (λ l. l ++ w ∷ []) (map_id (range_with_len o.0 o.1)))

      at : (b : Bool) → eqb w (o.0 + o.1) ≡ b → (c : Bool)
          → words_of_spans (map span_in (records_from (o.0, o.1 + 1) ws)) ≡ range_with_len o.0
          (o.1 + 1) ++ ws → words_of_spans (map span_in (records_from (w, 1) ws)) ≡ w ∷ ws
          → words_of_spans
          (map span_in (cond (b && c) (records_from (o.0, o.1 + 1) ws)
          (o ∷ records_from (w, 1) ws))) ≡ range_with_len o.0 o.1 ++ w ∷ ws
      at true here true joined apart = joined
          ∙ (ap (λ l. l ++ ws) (more (eqb-true w (o.0 + o.1) here))
          ∙ append_assoc (range_with_len o.0 o.1) (w ∷ []) ws)
      at true here false joined apart = ap (λ l. range_with_len o.0 o.1 ++ l) apart
      at false here c joined apart = ap (λ l. range_with_len o.0 o.1 ++ l) apart

words_back : (ws : List ℕ) → words_of_spans (map span_in (records_of ws)) ≡ ws
unfolding records_of
words_back [] = refl
words_back (w ∷ ws) = words_from (w, 1) ws

kept_words_in : (v : View) (spans : List Span) → words_in (map (kept_in v) spans) ≡ words_of_spans
    spans
unfolding words_in
kept_words_in v [] = refl
kept_words_in v (s ∷ spans) = ap (λ l. range_with_len s.word s.count ++ l) (kept_words_in v spans)

-- a word that passes is among those filtered
passes : (p : ℕ → Bool) (ws : List ℕ) (u : ℕ) → is_among ws u ≡ true → p u ≡ true
    → is_among (filter p ws) u ≡ true
passes p [] u e is = e
passes p (w ∷ ws) u e is = at (eqb w u) refl (p w) refl e (passes p ws u) where
  or_true : (b : Bool) → (b || true) ≡ true
  or_true true = refl
  or_true false = refl

  at : (b : Bool) → eqb w u ≡ b → (c : Bool) → p w ≡ c → (b || is_among ws u) ≡ true
      → (is_among ws u ≡ true → p u ≡ true → is_among (filter p ws) u ≡ true)
      → is_among (cond c (w ∷ filter p ws) (filter p ws)) u ≡ true
  at true here true keeps t rest = ap (λ b. b || is_among (filter p ws) u) here
  at true here false keeps t rest =
      absurd (both_ways (p u) (sym (ap p (eqb-true w u here)) ∙ keeps) is)
  at false here true keeps t rest = ap (λ b. eqb w u || b) (rest t is) ∙ or_true (eqb w u)
  at false here false keeps t rest = rest t is

covered : (place len u : ℕ) → 1 ≤ len → place < 8 * u + 8 → 8 * u < place + len
    → is_among (covered_words place len) u ≡ true
unfolding covered_words
covered place len u some from to = at (eqb len 0) refl where
  at : (b : Bool) → eqb len 0 ≡ b
      → is_among (cond b [] (range_with_len (place / 8) ((place + len - 1) / 8 + 1 - place / 8)))
      u ≡ true
  at true none = absurd (let e : len ≡ 0 = eqb-true len 0 none in omega (arith, e, some))
  at false is = in_range u (place / 8) ((place + len - 1) / 8 + 1 - place / 8)
      (omega (arith, from)) (omega (arith, to))

pub ranges_recorded : RangesAreRecorded
unfolding plan_of spans_for new_words words_in
ranges_recorded v w place len can is u has_ = ap (λ (y : View). is_among (words_in (kept_by y)) u)
    is.same ∙ (ap (λ rs. is_among (words_in rs) u) split
    ∙ (ap (λ ws. is_among ws u)
    (flat_map-append (λ (r : KeptRecord). range_with_len r.word r.count) (kept_by v)
    (map (kept_in v) spans))
    ∙ (list_any-append (λ other. eqb other u) (words_in (kept_by v))
    (words_in (map (kept_in v) spans)) ∙ go (is_among (words_in (kept_by v)) u) refl)))
  where
    spans : List Span
    spans = needed v place len

    split : map (kept_of v.fixed.shape) (v.log.records
        ++ map (recorded_in v) (needed v place len)) ≡ kept_by v
        ++ map (kept_in v) (needed v place len)
    split = map-append (kept_of v.fixed.shape) v.log.records
        (map (recorded_in v) (needed v place len)) ∙ ap (λ l. kept_by v ++ l)
        (sym (all_kept v (needed v place len) can.each))

    new : List ℕ
    new = new_words (words_in (kept_by v)) (covered_words place len)

    go : (b : Bool) → is_among (words_in (kept_by v)) u ≡ b
        → (is_among (words_in (kept_by v)) u || is_among
        (words_in (map (kept_in v) (needed v place len))) u) ≡ true
    go true e = ap (λ b. b || is_among (words_in (map (kept_in v) (needed v place len))) u) e
    go false e = ap (λ b. b || is_among (words_in (map (kept_in v) (needed v place len))) u) e
        ∙ (ap (λ ws. is_among ws u) (kept_words_in v (needed v place len)
        ∙ words_back (filter (λ y. not (is_among (words_in (kept_by v)) y))
        (covered_words place len)))
        ∙ passes (λ y. not (is_among (words_in (kept_by v)) y)) (covered_words place len) u
        (covered place len u has_.0 has_.1 has_.2) (ap not e))

byte_of : (place len i : ℕ) → i < length (covered_words place len)
    → HasByte place len (place / 8 + i)
unfolding covered_words
byte_of place len i = at (eqb len 0) refl where
  at : (b : Bool) → eqb len 0 ≡ b
      → i < length (cond b [] (range_with_len (place / 8) ((place + len - 1) / 8 + 1 - place / 8)))
      → HasByte place len (place / 8 + i)
  at true none low = absurd (omega (arith, low))
  at false some low =
      let many = length-range_with_len (place / 8) ((place + len - 1) / 8 + 1 - place / 8) in
      let ne : len ≢ 0 = grind (arith, nat_tests) in
      (omega (arith, ne), omega arith, omega (arith, low, many, ne))

pub ranges_written : RangesMayBeWritten
ranges_written v w place len values can is looked many small = record {
  working = is.working;
  recorded = λ i low. recorded (place / 8 + i) (byte i low);
  known = λ i low.
      subst (λ (o : Option ℕ). IsSome o)
      (sym (is.known (place / 8 + i) (far (place / 8 + i) (byte i low))))
      (looked (place / 8 + i) (byte i low));
  small = small;
}
  where
    byte : (i : ℕ) → i < length values → HasByte place len (place / 8 + i)
    byte i low = byte_of place len i (omega (arith, low, many))

    recorded : (u : ℕ) → HasByte place len u → is_among (words_in (kept_by w)) u ≡ true
    recorded u has_ = ranges_recorded v w place len can is u has_

    far : (u : ℕ) → HasByte place len u → IsBeyond v.fixed.shape u
    far u has_ =
        let k = kept_place w w.log.records u is.working.standing (recorded u has_) in
        subst (λ (y : View). IsBeyond y.fixed.shape u) is.same
        (subst (IsBeyond w.fixed.shape) k.word (data_beyond w.fixed.shape k.place k.is_known.plain))
