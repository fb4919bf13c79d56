-- The records that a range needs are of at most four words each, and of at most so many as the range covers.
use Rattle.std.proofs.Common.{◌≡◌, ℕ, zero, suc, ◌+◌, ◌-◌, ◌/◌, ◌≤◌, Bool, true, false, cond, eqb, ltb, ◌&&◌, not, List, [], ◌∷◌, length, map, refl, arith}
use Rattle.std.specs.List.{filter, range_with_len}
use Rattle.std.proofs.lemmas.Bool.Decides.{nat_tests}
use Rattle.std.proofs.lemmas.List.{length-map}
use Rattle.std.proofs.lemmas.List.FromFn.{length-range_with_len}
use Rattle.solo_model.specs.Bytes.{covered_words, is_among, new_words, records_from, records_of}
use Rattle.solo_undo.specs.Sequences.{span_at}
use Rattle.solo_undo.specs.Spans.{plan_of, span_in, spans_for, words_in}
use Rattle.solo_world.specs.declared.lane.Span.{Span}
use Rattle.solo_tx.specs.Sequences.{word_count}

-- each of some spans is of at most four words
abbrev AreFew : List Span → Type 0
AreFew spans = (i : ℕ) → (span_at spans i).count ≤ 4

few_more : (s : Span) (spans : List Span) → s.count ≤ 4 → AreFew spans → AreFew (s ∷ spans)
few_more s spans here rest zero = here
few_more s spans here rest (suc i) = rest i

few_from : (o : ℕ × ℕ) (ws : List ℕ) → o.1 ≤ 4 → AreFew (map span_in (records_from o ws))
unfolding records_from
few_from o [] few = few_more (span_in o) [] few none where
  none : AreFew []
  none zero = omega arith
  none (suc i) = omega arith
few_from o (w ∷ ws) few = at (eqb w (o.0 + o.1)) (ltb o.1 4) refl (λ more. few_from (o.0, o.1 + 1) ws more) (few_from (w, 1) ws (omega arith)) where
  at : (b c : Bool) → ltb o.1 4 ≡ c → (o.1 + 1 ≤ 4 → AreFew (map span_in (records_from (o.0, o.1 + 1) ws))) → AreFew (map span_in (records_from (w, 1) ws))
      → AreFew (map span_in (cond (b && c) (records_from (o.0, o.1 + 1) ws) (o ∷ records_from (w, 1) ws)))
  at true true e joined apart = joined (grind (arith, nat_tests))
  at true false e joined apart = few_more (span_in o) (map span_in (records_from (w, 1) ws)) few apart
  at false c e joined apart = few_more (span_in o) (map span_in (records_from (w, 1) ws)) few apart

few_of : (ws : List ℕ) → AreFew (map span_in (records_of ws))
unfolding records_of
few_of [] zero = omega arith
few_of [] (suc i) = omega arith
few_of (w ∷ ws) i = few_from (w, 1) ws (omega arith) i

pub planned_few : (spans : List Span) (place len i : ℕ) → (span_at (plan_of spans place len) i).count ≤ 4
unfolding plan_of spans_for
planned_few spans place len i = few_of (new_words (words_in spans) (covered_words place len)) i

records_short : (o : ℕ × ℕ) (ws : List ℕ) → length (records_from o ws) ≤ length ws + 1
unfolding records_from
records_short o [] = omega arith
records_short o (w ∷ ws) = at (eqb w (o.0 + o.1) && ltb o.1 4) (records_short (o.0, o.1 + 1) ws) (records_short (w, 1) ws) where
  at : (b : Bool) → length (records_from (o.0, o.1 + 1) ws) ≤ length ws + 1 → length (records_from (w, 1) ws) ≤ length ws + 1
      → length (cond b (records_from (o.0, o.1 + 1) ws) (o ∷ records_from (w, 1) ws)) ≤ length (w ∷ ws) + 1
  at true joined apart = omega (arith, joined)
  at false joined apart = omega (arith, apart)

of_words : (ws : List ℕ) → length (records_of ws) ≤ length ws
unfolding records_of
of_words [] = omega arith
of_words (w ∷ ws) = let rest = records_short (w, 1) ws in omega (arith, rest)

new_few : (p : ℕ → Bool) (ws : List ℕ) → length (filter p ws) ≤ length ws
new_few p [] = omega arith
new_few p (w ∷ ws) = at (p w) (new_few p ws) where
  at : (b : Bool) → length (filter p ws) ≤ length ws → length (cond b (w ∷ filter p ws) (filter p ws)) ≤ length (w ∷ ws)
  at true rest = omega (arith, rest)
  at false rest = omega (arith, rest)

pub covered_are : (place len : ℕ) → length (covered_words place len) ≡ word_count place len
unfolding covered_words
covered_are place len = at (eqb len 0) where
  n : ℕ
  n = (place + len - 1) / 8 + 1 - place / 8

  at : (b : Bool) → length (cond b [] (range_with_len (place / 8) n)) ≡ cond b 0 n
  at true = refl
  at false = length-range_with_len (place / 8) n

-- new words of a range are at most those that it covers
pub new_are_covered : (recorded : List ℕ) (place len : ℕ) → length (new_words recorded (covered_words place len)) ≤ word_count place len
unfolding new_words
new_are_covered recorded place len =
    let few = new_few (λ w. not (is_among recorded w)) (covered_words place len) in let are = covered_are place len in omega (arith, few, are)

-- so are their records
pub plan_short : (spans : List Span) (place len : ℕ) → length (plan_of spans place len) ≤ word_count place len
unfolding plan_of spans_for
plan_short spans place len =
    let new : ℕ = length (new_words (words_in spans) (covered_words place len)) in
    let size = length-map (records_of (new_words (words_in spans) (covered_words place len))) span_in in
    let few = of_words (new_words (words_in spans) (covered_words place len)) in
    let all = new_are_covered (words_in spans) place len in
    omega (arith, size, few, all)
