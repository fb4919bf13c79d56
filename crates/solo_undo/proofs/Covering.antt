-- Behind the records that a range still needed each of its words has one.
use Rattle.std.proofs.Common.{◌≡◌, ℕ, zero, suc, ◌+◌, ◌<◌, ◌≤◌, ◌⊎◌, inl, inr, ⊎_elim, Bool, true, false, cond, eqb, leb, ltb, ◌&&◌, ◌||◌, not, IsTrue, List, [], ◌∷◌, ◌++◌, map, length, slice_index, refl, sym, ap, ◌∙◌, arith, eq-eqb}
use Rattle.std.specs.List.{All, AllByRecursion, filter, list_any, range_with_len}
use Rattle.std.proofs.lemmas.Bool.{cases_Bool, and_from, and_parts, or_cases, or_left, or_right, le-leb, lt-ltb, leb-true, ltb-true, eqb-true, false≢true}
use Rattle.std.proofs.lemmas.List.Elements.{All-from_recursion}
use Rattle.std.proofs.lemmas.List.FromFn.{length-map-range_with_len}
use Rattle.std.proofs.lemmas.List.Folds.{list_any-append}
use Rattle.solo_model.specs.Bytes.{covered_words, records_from, records_of, new_words, is_among}
use Rattle.solo_view.specs.Log.{Recorded}
use Rattle.solo_view.specs.View.{View}
use Rattle.solo_world.specs.Lanes.{span_of}
use Rattle.solo_world.specs.Records.{covers, is_recorded}
use Rattle.solo_undo.specs.Sequences.{recorded_in}
use Rattle.solo_undo.specs.Spans.{plan_of, span_in, spans_for, words_in}

-- the record of so many words from one on has the word
abbrev has : ℕ → ℕ × ℕ → Bool
has w r = leb r.0 w && ltb w (r.0 + r.1)

has_from : (w : ℕ) (r : ℕ × ℕ) → r.0 ≤ w → w < r.0 + r.1 → has w r ≡ true
has_from w r from to = and_from (leb r.0 w) (ltb w (r.0 + r.1)) (le-leb r.0 w from) (lt-ltb w (r.0 + r.1) to)

-- what the open record has, or what comes, is in some record
all_had : (w : ℕ) (o : ℕ × ℕ) (ws : List ℕ) → (has w o ≡ true) ⊎ (is_among ws w ≡ true) → list_any (has w) (records_from o ws) ≡ true
unfolding records_from
all_had w o [] of = ⊎_elim (λ (here : has w o ≡ true). or_left (has w o) false here) (λ (none : false ≡ true). absurd (false≢true none)) of
all_had w o (y ∷ ws) of =
    at (eqb y (o.0 + o.1)) refl (ltb o.1 4) (all_had w (o.0, o.1 + 1) ws) (all_had w (y, 1) ws)
    (⊎_elim (λ (here : has w o ≡ true). inl here)
    (λ (among : (eqb y w || is_among ws w) ≡ true). inr (⊎_elim (λ (this : eqb y w ≡ true). inl (eqb-true y w this)) (λ (later : is_among ws w ≡ true). inr later) (or_cases (eqb y w) (is_among ws w) among))) of)
  where
    apart : ((has w (y, 1) ≡ true) ⊎ (is_among ws w ≡ true) → list_any (has w) (records_from (y, 1) ws) ≡ true)
        → (has w o ≡ true) ⊎ ((y ≡ w) ⊎ (is_among ws w ≡ true)) → list_any (has w) (o ∷ records_from (y, 1) ws) ≡ true
    apart behind of' = ⊎_elim (λ (here : has w o ≡ true). or_left (has w o) (list_any (has w) (records_from (y, 1) ws)) here)
        (λ (rest : (y ≡ w) ⊎ (is_among ws w ≡ true)). or_right (has w o) (list_any (has w) (records_from (y, 1) ws))
        (behind (⊎_elim (λ (this : y ≡ w). inl (has_from w (y, 1) (omega (arith, this)) (omega (arith, this)))) (λ (later : is_among ws w ≡ true). inr later) rest))) of'

    at : (b : Bool) → eqb y (o.0 + o.1) ≡ b → (c : Bool)
        → ((has w (o.0, o.1 + 1) ≡ true) ⊎ (is_among ws w ≡ true) → list_any (has w) (records_from (o.0, o.1 + 1) ws) ≡ true)
        → ((has w (y, 1) ≡ true) ⊎ (is_among ws w ≡ true) → list_any (has w) (records_from (y, 1) ws) ≡ true)
        → (has w o ≡ true) ⊎ ((y ≡ w) ⊎ (is_among ws w ≡ true))
        → list_any (has w) (cond (b && c) (records_from (o.0, o.1 + 1) ws) (o ∷ records_from (y, 1) ws)) ≡ true
    at true e true joined behind of' = joined (⊎_elim
        (λ (here : has w o ≡ true). let t = and_parts (leb o.0 w) (ltb w (o.0 + o.1)) here in let from = leb-true o.0 w t.0 in let to = ltb-true w (o.0 + o.1) t.1 in inl (has_from w (o.0, o.1 + 1) from (omega (arith, to))))
        (λ (rest : (y ≡ w) ⊎ (is_among ws w ≡ true)). ⊎_elim (λ (this : y ≡ w). let here = eqb-true y (o.0 + o.1) e in inl (has_from w (o.0, o.1 + 1) (omega (arith, this, here)) (omega (arith, this, here)))) (λ (later : is_among ws w ≡ true). inr later) rest) of')
    at true e false joined behind of' = apart behind of'
    at false e c joined behind of' = apart behind of'

among_had : (w : ℕ) (ws : List ℕ) → is_among ws w ≡ true → list_any (has w) (records_of ws) ≡ true
unfolding records_of
among_had w [] e = absurd (false≢true e)
among_had w (y ∷ ws) e = all_had w (y, 1) ws (⊎_elim
    (λ (this : eqb y w ≡ true). let same = eqb-true y w this in inl (has_from w (y, 1) (omega (arith, same)) (omega (arith, same)))) (λ (later : is_among ws w ≡ true). inr later) (or_cases (eqb y w) (is_among ws w) e))

-- so the records of the words as they are cover it
covered_by : (v : View) (w : ℕ) (rs : List (ℕ × ℕ)) → list_any (has w) rs ≡ true → is_recorded (map (recorded_in v) (map span_in rs)) w ≡ true
covered_by v w [] e = absurd (false≢true e)
covered_by v w (r ∷ rs) e =
    let same : covers (recorded_in v (span_in r)) w ≡ has w r = ap (λ n. leb r.0 w && ltb w (r.0 + n)) (length-map-range_with_len (slice_index v.words) r.0 r.1) in
    ⊎_elim (λ (here : has w r ≡ true). or_left (covers (recorded_in v (span_in r)) w) (is_recorded (map (recorded_in v) (map span_in rs)) w) (same ∙ here))
    (λ (later : list_any (has w) rs ≡ true). or_right (covers (recorded_in v (span_in r)) w) (is_recorded (map (recorded_in v) (map span_in rs)) w) (covered_by v w rs later))
    (or_cases (has w r) (list_any (has w) rs) e)

-- a word of a record's span is the record's
in_range : (w a n : ℕ) → is_among (range_with_len a n) w ≡ true → (leb a w && ltb w (a + n)) ≡ true
in_range w a zero e = absurd (false≢true e)
in_range w a (suc n) e = ⊎_elim
    (λ (this : eqb a w ≡ true). let same = eqb-true a w this in has_from w (a, suc n) (omega (arith, same)) (omega (arith, same)))
    (λ (later : is_among (range_with_len (a + 1) n) w ≡ true).
    let t = and_parts (leb (a + 1) w) (ltb w (a + 1 + n)) (in_range w (a + 1) n later) in
    let from = leb-true (a + 1) w t.0 in let to = ltb-true w (a + 1 + n) t.1 in
    has_from w (a, suc n) (omega (arith, from)) (omega (arith, to)))
    (or_cases (eqb a w) (is_among (range_with_len (a + 1) n) w) e)

spanned : (records : List Recorded) (w : ℕ) → is_among (words_in (map span_of records)) w ≡ true → is_recorded records w ≡ true
unfolding words_in
spanned [] w e = absurd (false≢true e)
spanned (r ∷ records) w e =
    ⊎_elim (λ (here : is_among (range_with_len r.word (length r.old)) w ≡ true). or_left (covers r w) (is_recorded records w) (in_range w r.word (length r.old) here))
    (λ (later : is_among (words_in (map span_of records)) w ≡ true). or_right (covers r w) (is_recorded records w) (spanned records w later))
    (or_cases (is_among (range_with_len r.word (length r.old)) w) (is_among (words_in (map span_of records)) w)
    (sym (list_any-append (λ other. eqb other w) (range_with_len r.word (length r.old)) (words_in (map span_of records))) ∙ e))

-- a word that passes the test is among those that do
passes : (p : ℕ → Bool) (w : ℕ) (ws : List ℕ) → p w ≡ true → is_among ws w ≡ true → is_among (filter p ws) w ≡ true
passes p w [] is e = e
passes p w (y ∷ ws) is e = at (p y) refl (passes p w ws is) (or_cases (eqb y w) (is_among ws w) e) where
  at : (b : Bool) → p y ≡ b → (is_among ws w ≡ true → is_among (filter p ws) w ≡ true) → (eqb y w ≡ true) ⊎ (is_among ws w ≡ true) → is_among (cond b (y ∷ filter p ws) (filter p ws)) w ≡ true
  at true f rest of = ⊎_elim (λ (this : eqb y w ≡ true). or_left (eqb y w) (is_among (filter p ws) w) this) (λ (later : is_among ws w ≡ true). or_right (eqb y w) (is_among (filter p ws) w) (rest later)) of
  at false f rest of = ⊎_elim (λ (this : eqb y w ≡ true). absurd (false≢true (sym f ∙ (ap p (eqb-true y w this) ∙ is)))) rest of

each_among : (Q : ℕ → Type 0) (ws : List ℕ) → ((w : ℕ) → is_among ws w ≡ true → Q w) → AllByRecursion Q ws
each_among Q [] so = tt
each_among Q (w ∷ ws) so = (so w (or_left (eqb w w) (is_among ws w) (eq-eqb w w refl)), each_among Q ws (λ y e. so y (or_right (eqb w y) (is_among ws y) e)))

pub range_recorded : (v : View) (records : List Recorded) (place len : ℕ) → All (λ w. IsTrue (is_recorded (records ++ map (recorded_in v) (plan_of (map span_of records) place len)) w)) (covered_words place len)
unfolding plan_of spans_for new_words
range_recorded v records place len =
    let p : ℕ → Bool = λ w. not (is_among (words_in (map span_of records)) w) in
    let ws : List ℕ = filter p (covered_words place len) in
    let all : List Recorded = records ++ map (recorded_in v) (map span_in (records_of ws)) in
    All-from_recursion (λ w. IsTrue (is_recorded all w)) (covered_words place len)
    (each_among (λ w. IsTrue (is_recorded all w)) (covered_words place len) (λ w e.
    list_any-append (λ r. covers r w) records (map (recorded_in v) (map span_in (records_of ws)))
    ∙ ⊎_elim
    (λ (before : is_among (words_in (map span_of records)) w ≡ true). or_left (is_recorded records w) (is_recorded (map (recorded_in v) (map span_in (records_of ws))) w) (spanned records w before))
    (λ (not_yet : is_among (words_in (map span_of records)) w ≡ false). or_right (is_recorded records w) (is_recorded (map (recorded_in v) (map span_in (records_of ws))) w)
    (covered_by v w (records_of ws) (among_had w ws (passes p w (covered_words place len) (ap not not_yet) e))))
    (cases_Bool (is_among (words_in (map span_of records)) w))))
