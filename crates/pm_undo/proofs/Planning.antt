-- How the records of some words become those of one word more.
use Rattle.std.proofs.Common.{◌≡◌, ◌≢◌, ℕ, zero, suc, ◌+◌, ◌-◌, ◌<◌, ◌≤◌, ◌/◌, ◌⊎◌, inl, inr, ⊎_elim, Bool, true, false, not, cond, eqb, ltb, ◌&&◌, ◌||◌, List, [], ◌∷◌, ◌++◌, map, length, drop, get_or, length-append, refl, sym, ap, ◌∙◌, arith}
use Rattle.std.specs.List.{filter, list_any, range_with_len}
use Rattle.std.proofs.lemmas.Bool.{cases_lt, cond-true, cond-false}
use Rattle.std.proofs.lemmas.Grind.{flat_map-append}
use Rattle.std.proofs.lemmas.Bool.Decides.{nat_tests}
use Rattle.std.proofs.lemmas.List.{append_assoc, append-nil, length-map, map-append}
use Rattle.std.proofs.lemmas.List.Elements.{filter-append}
use Rattle.std.proofs.lemmas.List.Folds.{list_any-append}
use Rattle.std.proofs.lemmas.List.FromFn.{map-range_with_len_more}
use Rattle.pm_model.specs.Transaction.{covered_words, records_from, records_of, new_words}
use Rattle.pm_model.specs.Items.{is_among}
use Rattle.pm_world.specs.declared.lane.KeptRecord.{KeptRecord}
use Rattle.pm_undo.specs.declared.spans.Span.{Span}
use Rattle.pm_undo.specs.Spans.{span_in, spans_for, plan_of, words_in, AreSpansOf}

-- the last record with a word more, or a record of its own after it
abbrev added : ℕ × ℕ → ℕ → List (ℕ × ℕ)
added last w = cond (eqb w (last.0 + last.1) && ltb last.1 4) ((last.0, last.1 + 1) ∷ []) (last ∷ (w, 1) ∷ [])

some_records : (o : ℕ × ℕ) (ws : List ℕ) → 1 ≤ length (records_from o ws)
unfolding records_from
some_records o [] = omega arith
some_records o (x ∷ ws) = at (eqb x (o.0 + o.1) && ltb o.1 4) (some_records (o.0, o.1 + 1) ws) where
  at : (b : Bool) → 1 ≤ length (records_from (o.0, o.1 + 1) ws) → 1 ≤ length (cond b (records_from (o.0, o.1 + 1) ws) (o ∷ records_from (x, 1) ws))
  at true some = some
  at false some = omega arith

last_added : (o : ℕ × ℕ) (ws : List ℕ) (w : ℕ) (front : List (ℕ × ℕ)) (last : ℕ × ℕ) → records_from o ws ≡ front ++ last ∷ [] → records_from o (ws ++ w ∷ []) ≡ front ++ added last w
unfolding records_from
last_added o [] w [] last e = ap (λ r. added r w) (ap first_of e) where
  first_of : List (ℕ × ℕ) → ℕ × ℕ
  first_of [] = (0, 0)
  first_of (r ∷ rs) = r
last_added o [] w (f ∷ front) last e = absurd (let n = ap length e in let m = length-append front (last ∷ []) in omega (arith, n, m))
last_added o (x ∷ ws) w front last e = at (eqb x (o.0 + o.1) && ltb o.1 4) refl front e (last_added (o.0, o.1 + 1) ws w front last) (λ rest. last_added (x, 1) ws w rest last) (some_records (x, 1) ws) where
  first_of : List (ℕ × ℕ) → ℕ × ℕ
  first_of [] = (0, 0)
  first_of (r ∷ rs) = r

  at : (b : Bool) → (eqb x (o.0 + o.1) && ltb o.1 4) ≡ b → (fs : List (ℕ × ℕ)) → cond b (records_from (o.0, o.1 + 1) ws) (o ∷ records_from (x, 1) ws) ≡ fs ++ last ∷ []
      → (records_from (o.0, o.1 + 1) ws ≡ fs ++ last ∷ [] → records_from (o.0, o.1 + 1) (ws ++ w ∷ []) ≡ fs ++ added last w)
      → ((rest : List (ℕ × ℕ)) → records_from (x, 1) ws ≡ rest ++ last ∷ [] → records_from (x, 1) (ws ++ w ∷ []) ≡ rest ++ added last w)
      → 1 ≤ length (records_from (x, 1) ws)
      → cond b (records_from (o.0, o.1 + 1) (ws ++ w ∷ [])) (o ∷ records_from (x, 1) (ws ++ w ∷ [])) ≡ fs ++ added last w
  at true is fs same joined apart some = joined same
  at false is [] same joined apart some = absurd (let n = ap length same in omega (arith, n, some))
  at false is (f ∷ fs) same joined apart some =
      ap (λ r. r ∷ records_from (x, 1) (ws ++ w ∷ [])) (ap first_of same) ∙ ap (λ l. f ∷ l) (apart fs (ap (drop 1) same))

abbrev pair_of : Span → ℕ × ℕ
pair_of s = (s.word, s.count)

pairs_again : (rs : List (ℕ × ℕ)) → map pair_of (map span_in rs) ≡ rs
pairs_again [] = refl
pairs_again (r ∷ rs) = ap (λ l. r ∷ l) (pairs_again rs)

spans_again : (spans : List Span) → map span_in (map pair_of spans) ≡ spans
spans_again [] = refl
spans_again (s ∷ spans) = ap (λ l. s ∷ l) (spans_again spans)

-- the records of one word more, where there are some already
more_records : (ws : List ℕ) (w : ℕ) (front : List (ℕ × ℕ)) (last : ℕ × ℕ) → records_of ws ≡ front ++ last ∷ [] → records_of (ws ++ w ∷ []) ≡ front ++ added last w
unfolding records_of
more_records [] w front last e = absurd (let n = ap length e in let m = length-append front (last ∷ []) in omega (arith, n, m))
more_records (x ∷ ws) w front last e = last_added (x, 1) ws w front last e

-- the records before, as pairs
as_pairs : (spans : List Span) (ws : List ℕ) → AreSpansOf spans ws → records_of ws ≡ map pair_of spans
as_pairs spans ws are = sym (ap (map pair_of) are ∙ pairs_again (records_of ws))

-- the records after, as spans
as_spans : (spans : List Span) (ws : List ℕ) → records_of ws ≡ map pair_of spans → AreSpansOf spans ws
as_spans spans ws e = sym (ap (map span_in) e ∙ spans_again spans)

-- the word follows on the last record, which has room
pub joins_last : (front : List Span) (last : Span) (ws : List ℕ) (w : ℕ) → AreSpansOf (front ++ last ∷ []) ws → last.word + last.count ≡ w → last.count < 4
    → AreSpansOf (front ++ record last { count = last.count + 1 } ∷ []) (ws ++ w ∷ [])
joins_last front last ws w are next room =
    let before : records_of ws ≡ map pair_of front ++ pair_of last ∷ [] = as_pairs (front ++ last ∷ []) ws are ∙ map-append pair_of front (last ∷ []) in
    let joined : (eqb w (last.word + last.count) && ltb last.count 4) ≡ true = grind (arith, nat_tests) in
    let more : records_of (ws ++ w ∷ []) ≡ map pair_of front ++ (last.word, last.count + 1) ∷ [] =
    more_records ws w (map pair_of front) (pair_of last) before ∙ ap (λ l. map pair_of front ++ l) (cond-true _ ((last.word, last.count + 1) ∷ []) (pair_of last ∷ (w, 1) ∷ []) joined) in
    as_spans (front ++ record last { count = last.count + 1 } ∷ []) (ws ++ w ∷ []) (more ∙ sym (map-append pair_of front (record last { count = last.count + 1 } ∷ [])))

-- the word is the first of all
pub is_first : (ws : List ℕ) (w : ℕ) → AreSpansOf [] ws → AreSpansOf (record { word = w; count = 1 } ∷ []) (ws ++ w ∷ [])
unfolding records_of records_from
is_first [] w are = refl
is_first (x ∷ ws) w are = absurd (let n = ap length are in let m = length-map (records_of (x ∷ ws)) span_in in let some = some_records (x, 1) ws in omega (arith, n, m, some))

-- the word begins a record of its own after the last
pub stands_apart : (front : List Span) (last : Span) (ws : List ℕ) (w : ℕ) → AreSpansOf (front ++ last ∷ []) ws → (last.word + last.count ≡ w → 4 ≤ last.count)
    → AreSpansOf ((front ++ last ∷ []) ++ record { word = w; count = 1 } ∷ []) (ws ++ w ∷ [])
stands_apart front last ws w are other =
    let before : records_of ws ≡ map pair_of front ++ pair_of last ∷ [] = as_pairs (front ++ last ∷ []) ws are ∙ map-append pair_of front (last ∷ []) in
    let apart : (eqb w (last.word + last.count) && ltb last.count 4) ≡ false = at (eqb w (last.word + last.count)) refl in
    let more : records_of (ws ++ w ∷ []) ≡ map pair_of front ++ pair_of last ∷ (w, 1) ∷ [] =
    more_records ws w (map pair_of front) (pair_of last) before ∙ ap (λ l. map pair_of front ++ l) (cond-false _ ((last.word, last.count + 1) ∷ []) (pair_of last ∷ (w, 1) ∷ []) apart) in
    as_spans ((front ++ last ∷ []) ++ record { word = w; count = 1 } ∷ []) (ws ++ w ∷ [])
    (more ∙ sym (map-append pair_of (front ++ last ∷ []) (record { word = w; count = 1 } ∷ []) ∙ (ap (λ l. l ++ (w, 1) ∷ []) (map-append pair_of front (last ∷ [])) ∙ append_assoc (map pair_of front) (pair_of last ∷ []) ((w, 1) ∷ [])))) where
      at : (b : Bool) → eqb w (last.word + last.count) ≡ b → (b && ltb last.count 4) ≡ false
      at true is = grind (arith, nat_tests)
      at false is = refl

-- one record more than there are is needed
pub one_too_many : (front : List Span) (last : Span) (ws : List ℕ) (w : ℕ) → AreSpansOf (front ++ last ∷ []) ws → (last.word + last.count ≡ w → 4 ≤ last.count)
    → length (records_of (ws ++ w ∷ [])) ≡ length (front ++ last ∷ []) + 1
one_too_many front last ws w are other =
    let more = ap length (stands_apart front last ws w are other) in
    let pairs = length-map (records_of (ws ++ w ∷ [])) span_in in
    let n = length-append (front ++ last ∷ []) (record { word = w; count = 1 } ∷ []) in
    omega (arith, more, pairs, n)

pub first_of_all : (ws : List ℕ) (w : ℕ) → AreSpansOf [] ws → length (records_of (ws ++ w ∷ [])) ≡ 1
first_of_all ws w are =
    let more = ap length (is_first ws w are) in let pairs = length-map (records_of (ws ++ w ∷ [])) span_in in omega (arith, more, pairs)

-- which words a record has
not_in_range : (w a n : ℕ) → (w < a) ⊎ (a + n ≤ w) → is_among (range_with_len a n) w ≡ false
not_in_range w a zero out = refl
not_in_range w a (suc n) out =
    let here : eqb a w ≡ false = ⊎_elim (λ (below : w < a). grind (arith, nat_tests)) (λ (above : a + suc n ≤ w). grind (arith, nat_tests)) out in
    ap (λ b. b || is_among (range_with_len (a + 1) n) w) here
    ∙ not_in_range w (a + 1) n (⊎_elim (λ (below : w < a). inl (omega (arith, below))) (λ (above : a + suc n ≤ w). inr (omega (arith, above))) out)

pub in_range : (w a n : ℕ) → a ≤ w → w < a + n → is_among (range_with_len a n) w ≡ true
in_range w a zero from to = absurd (omega (arith, from, to))
in_range w a (suc n) from to = at (eqb a w) refl (λ behind. in_range w (a + 1) n (omega (arith, behind)) (omega (arith, to))) where
  at : (b : Bool) → eqb a w ≡ b → (a < w → is_among (range_with_len (a + 1) n) w ≡ true) → (eqb a w || is_among (range_with_len (a + 1) n) w) ≡ true
  at true e rest = ap (λ b. b || is_among (range_with_len (a + 1) n) w) e
  at false e rest = ap (λ b. b || is_among (range_with_len (a + 1) n) w) e ∙ rest (grind (arith, nat_tests))

pub none_recorded : (w : ℕ) → is_among (words_in []) w ≡ false
unfolding words_in
none_recorded w = refl

-- one record more
pub one_record_more : (records : List KeptRecord) (r : KeptRecord) (w : ℕ) → is_among (words_in records) w ≡ false → (r.word ≤ w → r.count ≤ w - r.word) → is_among (words_in (records ++ r ∷ [])) w ≡ false
unfolding words_in
one_record_more records r w none out =
    let p : ℕ → Bool = λ other. eqb other w in
    let far : (w < r.word) ⊎ (r.word + r.count ≤ w) = ⊎_elim (λ (below : w < r.word). inl below) (λ (from : r.word ≤ w). let left = out from in inr (omega (arith, left, from))) (cases_lt w r.word) in
    ap (list_any p) (flat_map-append (λ (t : KeptRecord). range_with_len t.word t.count) records (r ∷ []))
    ∙ (list_any-append p (words_in records) (range_with_len r.word r.count ++ [])
    ∙ (ap (λ b. b || list_any p (range_with_len r.word r.count ++ [])) none
    ∙ (list_any-append p (range_with_len r.word r.count) [] ∙ ap (λ b. b || false) (not_in_range w r.word r.count far))))

pub in_a_record : (records : List KeptRecord) (i w : ℕ) (d : KeptRecord) → i < length records → (get_or records i d).word ≤ w → w - (get_or records i d).word < (get_or records i d).count → is_among (words_in records) w ≡ true
unfolding words_in
in_a_record [] i w d within from to = absurd (omega (arith, within))
in_a_record (r ∷ records) zero w d within from to =
    let p : ℕ → Bool = λ other. eqb other w in
    list_any-append p (range_with_len r.word r.count) (words_in records) ∙ ap (λ b. b || list_any p (words_in records)) (in_range w r.word r.count from (omega (arith, from, to)))
in_a_record (r ∷ records) (suc i) w d within from to =
    let p : ℕ → Bool = λ other. eqb other w in
    list_any-append p (range_with_len r.word r.count) (words_in records)
    ∙ (ap (λ b. list_any p (range_with_len r.word r.count) || b) (in_a_record records i w d (omega (arith, within)) from to) ∙ or_true (list_any p (range_with_len r.word r.count))) where
      or_true : (b : Bool) → (b || true) ≡ true
      or_true true = refl
      or_true false = refl

-- one word more that has no record yet, or that has one
range_more : (a b : ℕ) → a ≤ b → range_with_len a (b + 1 - a) ≡ range_with_len a (b - a) ++ b ∷ []
range_more a b le =
    ap (range_with_len a) (let e : b + 1 - a ≡ b - a + 1 = omega (arith, le) in e)
    ∙ (sym (map_id (range_with_len a (b - a + 1))) ∙ (map-range_with_len_more (λ (k : ℕ). k) a (b - a) b (omega (arith, le)) ∙ ap (λ l. l ++ b ∷ []) (map_id (range_with_len a (b - a))))) where
      map_id : (l : List ℕ) → map (λ (k : ℕ). k) l ≡ l
      map_id [] = refl
      map_id (x ∷ l) = ap (λ r. x ∷ r) (map_id l)

pub no_new_word : (recorded : List ℕ) (a b : ℕ) → a ≤ b → is_among recorded b ≡ true → new_words recorded (range_with_len a (b + 1 - a)) ≡ new_words recorded (range_with_len a (b - a))
unfolding new_words
no_new_word recorded a b le is =
    let p : ℕ → Bool = λ w. not (is_among recorded w) in
    ap (filter p) (range_more a b le) ∙ (filter-append p (range_with_len a (b - a)) (b ∷ [])
    ∙ (ap (λ t. filter p (range_with_len a (b - a)) ++ cond (not t) (b ∷ []) []) is ∙ append-nil (filter p (range_with_len a (b - a)))))

pub one_new_word : (recorded : List ℕ) (a b : ℕ) → a ≤ b → is_among recorded b ≡ false → new_words recorded (range_with_len a (b + 1 - a)) ≡ new_words recorded (range_with_len a (b - a)) ++ b ∷ []
unfolding new_words
one_new_word recorded a b le is =
    let p : ℕ → Bool = λ w. not (is_among recorded w) in
    ap (filter p) (range_more a b le) ∙ (filter-append p (range_with_len a (b - a)) (b ∷ [])
    ∙ ap (λ t. filter p (range_with_len a (b - a)) ++ cond (not t) (b ∷ []) []) is)

-- more words need no fewer records
more_from : (o : ℕ × ℕ) (ws more : List ℕ) → length (records_from o ws) ≤ length (records_from o (ws ++ more))
unfolding records_from
more_from o [] more = let some = some_records o more in some
more_from o (x ∷ ws) more = at (eqb x (o.0 + o.1) && ltb o.1 4) (more_from (o.0, o.1 + 1) ws more) (more_from (x, 1) ws more) where
  at : (b : Bool) → length (records_from (o.0, o.1 + 1) ws) ≤ length (records_from (o.0, o.1 + 1) (ws ++ more)) → length (records_from (x, 1) ws) ≤ length (records_from (x, 1) (ws ++ more))
      → length (cond b (records_from (o.0, o.1 + 1) ws) (o ∷ records_from (x, 1) ws)) ≤ length (cond b (records_from (o.0, o.1 + 1) (ws ++ more)) (o ∷ records_from (x, 1) (ws ++ more)))
  at true joined apart = joined
  at false joined apart = omega (arith, apart)

no_fewer : (ws more : List ℕ) → length (records_of ws) ≤ length (records_of (ws ++ more))
unfolding records_of
no_fewer [] more = omega arith
no_fewer (x ∷ ws) more = more_from (x, 1) ws more

-- what the words up to one need, all need
pub needed_for_all : (records : List KeptRecord) (a b end : ℕ) → a ≤ b → b < end → length (records_of (new_words (words_in records) (range_with_len a (b + 1 - a)))) ≤ length (spans_for records (range_with_len a (end - a)))
unfolding spans_for new_words
needed_for_all records a b end from to =
    let p : ℕ → Bool = λ w. not (is_among (words_in records) w) in
    let ws : List ℕ = filter p (range_with_len a (b + 1 - a)) in
    let rest : List ℕ = filter p (range_with_len (b + 1) (end - (b + 1))) in
    let all : filter p (range_with_len a (end - a)) ≡ ws ++ rest =
    ap (filter p) (range_split a (b + 1 - a) (end - (b + 1)) (b + 1) (end - a) (omega (arith, from)) (omega (arith, from, to))) ∙ filter-append p (range_with_len a (b + 1 - a)) (range_with_len (b + 1) (end - (b + 1))) in
    let few = no_fewer ws rest in
    let same = ap (λ l. length (records_of l)) all in
    let pairs = length-map (records_of (filter p (range_with_len a (end - a)))) span_in in
    omega (arith, few, same, pairs) where
      range_split : (a n m b t : ℕ) → a + n ≡ b → t ≡ n + m → range_with_len a t ≡ range_with_len a n ++ range_with_len b m
      range_split a zero m b t e f = ap (λ k. range_with_len k t) (let same : a ≡ b = omega (arith, e) in same) ∙ ap (range_with_len b) (let same : t ≡ m = omega (arith, f) in same)
      range_split a (suc n) m b t e f =
          ap (range_with_len a) (let same : t ≡ suc (n + m) = omega (arith, f) in same) ∙ ap (λ l. a ∷ l) (range_split (a + 1) n m b (n + m) (omega (arith, e)) refl)

pub nothing_planned : (spans : List Span) (recorded : List ℕ) (a : ℕ) → spans ≡ [] → AreSpansOf spans (new_words recorded (range_with_len a (a - a)))
unfolding new_words records_of
nothing_planned spans recorded a none = none ∙ ap (λ n. map span_in (records_of (new_words recorded (range_with_len a n)))) (let e : 0 ≡ a - a = omega arith in e)

pub all_planned : (planned : List Span) (records : List KeptRecord) (a b end : ℕ) → b ≡ end → AreSpansOf planned (new_words (words_in records) (range_with_len a (b - a))) → planned ≡ spans_for records (range_with_len a (end - a))
unfolding spans_for
all_planned planned records a b end up are = are ∙ ap (λ n. map span_in (records_of (new_words (words_in records) (range_with_len a (n - a))))) up

pub plans_nothing : (records : List KeptRecord) (place len : ℕ) → len ≡ 0 → plan_of records place len ≡ []
unfolding plan_of covered_words spans_for new_words records_of
plans_nothing records place len none = ap (spans_for records) (cond-true (eqb len 0) [] _ (let e : eqb len 0 ≡ true = grind (arith, nat_tests) in e))

pub plans_words : (records : List KeptRecord) (place len : ℕ) → len ≢ 0 → plan_of records place len ≡ spans_for records (range_with_len (place / 8) ((place + len - 1) / 8 + 1 - place / 8))
unfolding plan_of covered_words
plans_words records place len some = ap (spans_for records) (cond-false (eqb len 0) [] _ (let e : eqb len 0 ≡ false = grind (arith, nat_tests) in e))
