-- The records that a range still needs are of words that have none, each behind the one before.
use Rattle.std.proofs.Common.{◌≡◌, ℕ, zero, suc, ◌+◌, ◌-◌, ◌/◌, ◌<◌, ◌≤◌, ⊎_elim, Bool, true, false, cond, eqb, leb, ltb, ◌&&◌, not, List, [], ◌∷◌, map, length, get_or, refl, sym, ap, ◌∙◌, subst, arith}
use Rattle.std.specs.List.{All, AllByRecursion, filter, range_with_len}
use Rattle.std.proofs.Math.Nat.{eq-or-lt_of_le}
use Rattle.std.proofs.lemmas.Bool.{and_parts, eqb-true, ltb-true, leb-true, not-true, false≢true, false_from_ne_true}
use Rattle.std.proofs.lemmas.List.{get_or-map, length-map}
use Rattle.std.proofs.lemmas.List.Elements.{recursion_from_All}
use Rattle.std.proofs.lemmas.Option.{slice_get_within, get_or_from_slice_get}
use Rattle.solo_model.specs.Bytes.{covered_words, records_from, records_of, new_words, is_among}
use Rattle.solo_view.specs.Log.{Recorded}
use Rattle.solo_view.specs.View.{View}
use Rattle.solo_world.specs.Lanes.{span_of}
use Rattle.solo_world.specs.Records.{is_recorded}
use Rattle.solo_world.specs.declared.lane.Span.{Span}
use Rattle.solo_undo.specs.Sequences.{no_span, span_at}
use Rattle.solo_undo.specs.Spans.{plan_of, span_in, spans_for, words_in}
use Rattle.solo_undo.specs.Working.{CanSnapshot}
use Rattle.solo_undo.proofs.Kept.{is_of}
use Rattle.solo_undo.proofs.Planning.{in_a_span}
use Rattle.solo_undo.proofs.Writing.{IsFresh, IsPlan}

-- each word is above those before it, and none is below this one
IsRising : ℕ → List ℕ → Type 0
IsRising b [] = Unit {0}
IsRising b (w ∷ ws) = b ≤ w × IsRising (w + 1) ws

rising_lower : (b c : ℕ) (ws : List ℕ) → c ≤ b → IsRising b ws → IsRising c ws
unfolding IsRising
rising_lower b c [] le r = tt
rising_lower b c (w ∷ ws) le r = (let low = r.0 in omega (arith, le, low), r.1)

range_rises : (a n : ℕ) → IsRising a (range_with_len a n)
unfolding IsRising
range_rises a zero = tt
range_rises a (suc n) = (omega arith, range_rises (a + 1) n)

filter_rises : (p : ℕ → Bool) (b : ℕ) (ws : List ℕ) → IsRising b ws → IsRising b (filter p ws)
unfolding IsRising
filter_rises p b [] r = tt
filter_rises p b (w ∷ ws) r = at (p w) (filter_rises p (w + 1) ws r.1) where
  at : (t : Bool) → IsRising (w + 1) (filter p ws) → IsRising b (cond t (w ∷ filter p ws) (filter p ws))
  at true rest = (r.0, rest)
  at false rest = rising_lower (w + 1) b (filter p ws) (let low = r.0 in omega (arith, low)) rest

covered_rise : (place len : ℕ) → IsRising 0 (covered_words place len)
unfolding covered_words IsRising
covered_rise place len = at (eqb len 0) where
  at : (b : Bool) → IsRising 0 (cond b [] (range_with_len (place / 8) ((place + len - 1) / 8 + 1 - place / 8)))
  at true = tt
  at false = rising_lower (place / 8) 0 (range_with_len (place / 8) ((place + len - 1) / 8 + 1 - place / 8)) (omega arith) (range_rises (place / 8) ((place + len - 1) / 8 + 1 - place / 8))

-- of one to four words, which all have some property
record IsMadeOf (Q : ℕ → Type 0) (r : ℕ × ℕ) : Type 0 where
  some : 1 ≤ r.1
  most : r.1 ≤ 4
  each : (i : ℕ) → i < r.1 → Q (r.0 + i)

-- each record begins behind the end of the one before
AreApart : (ℕ → Type 0) → ℕ → List (ℕ × ℕ) → Type 0
AreApart Q b [] = Unit {0}
AreApart Q b (r ∷ rs) = b ≤ r.0 × IsMadeOf Q r × AreApart Q (r.0 + r.1) rs

apart_lower : (Q : ℕ → Type 0) (b c : ℕ) (rs : List (ℕ × ℕ)) → c ≤ b → AreApart Q b rs → AreApart Q c rs
unfolding AreApart
apart_lower Q b c [] le a = tt
apart_lower Q b c (r ∷ rs) le a = (let low = a.0 in omega (arith, le, low), a.1, a.2)

records_apart : (Q : ℕ → Type 0) (o : ℕ × ℕ) (ws : List ℕ) → IsMadeOf Q o → IsRising (o.0 + o.1) ws → AllByRecursion Q ws → AreApart Q o.0 (records_from o ws)
unfolding records_from AreApart IsRising
records_apart Q o [] made r all = (omega arith, made, tt)
records_apart Q o (w ∷ ws) made r all =
    at (eqb w (o.0 + o.1)) refl (ltb o.1 4) refl
    (λ here few. records_apart Q (o.0, o.1 + 1) ws
    (record {
      some = omega arith;
      most = omega (arith, few);
      each = λ i low. ⊎_elim (λ (last : i ≡ o.1). subst Q (let e : w ≡ o.0 + i = omega (arith, here, last) in e) all.0) (λ (front : i < o.1). made.each i front) (eq-or-lt_of_le (let e : i ≤ o.1 = omega (arith, low) in e));
    })
    (rising_lower (w + 1) (o.0 + (o.1 + 1)) ws (omega (arith, here)) r.1) all.1)
    (records_apart Q (w, 1) ws (record { some = omega arith; most = omega arith; each = λ i low. subst Q (let e : w ≡ w + i = omega (arith, low) in e) all.0 }) r.1 all.1)
  where
    at : (b : Bool) → eqb w (o.0 + o.1) ≡ b → (c : Bool) → ltb o.1 4 ≡ c → (w ≡ o.0 + o.1 → o.1 < 4 → AreApart Q o.0 (records_from (o.0, o.1 + 1) ws)) → AreApart Q w (records_from (w, 1) ws)
        → AreApart Q o.0 (cond (b && c) (records_from (o.0, o.1 + 1) ws) (o ∷ records_from (w, 1) ws))
    at true e true f joined apart = joined (eqb-true w (o.0 + o.1) e) (ltb-true o.1 4 f)
    at true e false f joined apart = (omega arith, made, apart_lower Q w (o.0 + o.1) (records_from (w, 1) ws) r.0 apart)
    at false e c f joined apart = (omega arith, made, apart_lower Q w (o.0 + o.1) (records_from (w, 1) ws) r.0 apart)

all_apart : (Q : ℕ → Type 0) (ws : List ℕ) → IsRising 0 ws → AllByRecursion Q ws → AreApart Q 0 (records_of ws)
unfolding records_of AreApart IsRising
all_apart Q [] r all = tt
all_apart Q (w ∷ ws) r all =
    apart_lower Q w 0 (records_from (w, 1) ws) (omega arith)
    (records_apart Q (w, 1) ws (record { some = omega arith; most = omega arith; each = λ i low. subst Q (let e : w ≡ w + i = omega (arith, low) in e) all.0 }) r.1 all.1)

-- by their places
made_at : (Q : ℕ → Type 0) (b : ℕ) (rs : List (ℕ × ℕ)) (k : ℕ) (d : ℕ × ℕ) → AreApart Q b rs → k < length rs → IsMadeOf Q (get_or rs k d) × (b ≤ (get_or rs k d).0)
unfolding AreApart
made_at Q b [] k d a low = absurd (omega (arith, low))
made_at Q b (r ∷ rs) zero d a low = (a.1, a.0)
made_at Q b (r ∷ rs) (suc k) d a low = let t = made_at Q (r.0 + r.1) rs k d a.2 (omega (arith, low)) in (t.0, let from = t.1 in let first = a.0 in omega (arith, from, first))

apart_at : (Q : ℕ → Type 0) (b : ℕ) (rs : List (ℕ × ℕ)) (j k : ℕ) (d : ℕ × ℕ) → AreApart Q b rs → j < k → k < length rs → (get_or rs j d).0 + (get_or rs j d).1 ≤ (get_or rs k d).0
unfolding AreApart
apart_at Q b [] j k d a less low = absurd (omega (arith, low))
apart_at Q b (r ∷ rs) j zero d a less low = absurd (omega (arith, less))
apart_at Q b (r ∷ rs) zero (suc k) d a less low = (made_at Q (r.0 + r.1) rs k d a.2 (omega (arith, low))).1
apart_at Q b (r ∷ rs) (suc j) (suc k) d a less low = apart_at Q (r.0 + r.1) rs j k d a.2 (omega (arith, less)) (omega (arith, low))

-- what passes a test, of those that have a property
passing : (p : ℕ → Bool) (Q P : ℕ → Type 0) (ws : List ℕ) → ((w : ℕ) → Q w → p w ≡ true → P w) → AllByRecursion Q ws → AllByRecursion P (filter p ws)
passing p Q P [] so all = tt
passing p Q P (w ∷ ws) so all = at (p w) refl (passing p Q P ws so all.1) where
  at : (b : Bool) → p w ≡ b → AllByRecursion P (filter p ws) → AllByRecursion P (cond b (w ∷ filter p ws) (filter p ws))
  at true e rest = (so w all.0 e, rest)
  at false e rest = rest

-- a word of no record's span has no record
unspanned : (records : List Recorded) (w : ℕ) → is_among (words_in (map span_of records)) w ≡ false → is_recorded records w ≡ false
unspanned records w none =
    false_from_ne_true (is_recorded records w) (λ e.
    let t = is_of records w e in
    let low = slice_get_within records t.slot t.recorded t.there in
    let n = length-map records span_of in
    let s : get_or (map span_of records) t.slot no_span ≡ span_of t.recorded = get_or-map span_of records t.slot t.recorded no_span low ∙ ap span_of (get_or_from_slice_get records t.slot t.recorded t.recorded t.there) in
    let c = and_parts (leb t.recorded.word w) (ltb w (t.recorded.word + length t.recorded.old)) t.covering in
    let from = leb-true t.recorded.word w c.0 in
    let to = ltb-true w (t.recorded.word + length t.recorded.old) c.1 in
    false≢true (sym none ∙ in_a_span (map span_of records) t.slot w no_span (omega (arith, low, n))
    (subst (λ (z : Span). z.word ≤ w) (sym s) from) (subst (λ (z : Span). w - z.word < z.count) (sym s) (omega (arith, from, to)))))

-- the word may be recorded, and is not yet
abbrev IsNew : View → ℕ → Type 0
IsNew v w = CanSnapshot v w × (is_recorded v.log.records w ≡ false)

pub plan_is : (v : View) (place len : ℕ) → All (CanSnapshot v) (covered_words place len) → length v.log.records + length (plan_of (map span_of v.log.records) place len) ≤ 64 → IsPlan v (plan_of (map span_of v.log.records) place len)
unfolding plan_of spans_for new_words
plan_is v place len can room =
    let p : ℕ → Bool = λ w. not (is_among (words_in (map span_of v.log.records)) w) in
    let ws : List ℕ = filter p (covered_words place len) in
    let rs : List (ℕ × ℕ) = records_of ws in
    let news : AllByRecursion (IsNew v) ws = passing p (CanSnapshot v) (IsNew v) (covered_words place len)
    (λ w q e. (q, unspanned v.log.records w (not-true (is_among (words_in (map span_of v.log.records)) w) e))) (recursion_from_All (CanSnapshot v) (covered_words place len) can) in
    let apart : AreApart (IsNew v) 0 rs = all_apart (IsNew v) ws (filter_rises p 0 (covered_words place len) (covered_rise place len)) news in
    let n : length (map span_in rs) ≡ length rs = length-map rs span_in in
    let at : (k : ℕ) → k < length rs → span_at (map span_in rs) k ≡ span_in (get_or rs k (0, 0)) = λ k low. get_or-map span_in rs k (0, 0) no_span low in
    record {
      room = room;
      fresh = λ k low.
          let low_k : k < length rs = omega (arith, low, n) in
          let made = (made_at (IsNew v) 0 rs k (0, 0) apart low_k).0 in
          subst (IsFresh v) (sym (at k low_k)) (record { some = made.some; most = made.most; each = λ i small. (made.each i small).0; new = λ i small. (made.each i small).1 });
      apart = λ j k less low.
          let low_k : k < length rs = omega (arith, low, n) in
          let one_ = at j (omega (arith, less, low_k)) in let two = at k low_k in
          subst (λ (z : Span). z.word + z.count ≤ (span_at (map span_in rs) k).word) (sym one_) (subst (λ (z : Span). (get_or rs j (0, 0)).0 + (get_or rs j (0, 0)).1 ≤ z.word) (sym two) (apart_at (IsNew v) 0 rs j k (0, 0) apart less low_k));
    }
