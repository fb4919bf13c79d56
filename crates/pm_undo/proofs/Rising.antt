-- The records that a range still needs lie one after another.
use Rattle.std.proofs.Common.{◌≡◌, ℕ, zero, suc, ◌+◌, ◌-◌, ◌/◌, ◌≤◌, Bool, true, false, cond, eqb, ltb, ◌&&◌, not, List, [], ◌∷◌, map, refl, arith}
use Rattle.std.specs.List.{filter, range_with_len}
use Rattle.std.proofs.lemmas.Bool.{eqb-true}
use Rattle.pm_model.specs.Transaction.{covered_words, records_from, records_of, new_words}
use Rattle.pm_model.specs.Items.{is_among}
use Rattle.pm_world.specs.declared.lane.KeptRecord.{KeptRecord}
use Rattle.pm_undo.specs.declared.spans.Span.{Span}
use Rattle.pm_undo.specs.Spans.{ArePast, plan_of, span_in, spans_for, words_in}

-- each word is above those before it, and none is below this one
abbrev IsRising : ℕ → List ℕ → Type 0
IsRising b [] = Unit {0}
IsRising b (w ∷ ws) = (b ≤ w) × IsRising (w + 1) ws

rising_lower : (b c : ℕ) (ws : List ℕ) → c ≤ b → IsRising b ws → IsRising c ws
rising_lower b c [] le r = tt
rising_lower b c (w ∷ ws) le r = (let low = r.0 in omega (arith, le, low), r.1)

past_lower : (b c : ℕ) (spans : List Span) → c ≤ b → ArePast b spans → ArePast c spans
past_lower b c [] le r = tt
past_lower b c (s ∷ spans) le r = (let low = r.0 in omega (arith, le, low), r.1)

range_rises : (a n : ℕ) → IsRising a (range_with_len a n)
range_rises a zero = tt
range_rises a (suc n) = (omega arith, range_rises (a + 1) n)

filter_rises : (p : ℕ → Bool) (b : ℕ) (ws : List ℕ) → IsRising b ws → IsRising b (filter p ws)
filter_rises p b [] r = tt
filter_rises p b (w ∷ ws) r = at (p w) (filter_rises p (w + 1) ws r.1) where
  at : (t : Bool) → IsRising (w + 1) (filter p ws) → IsRising b (cond t (w ∷ filter p ws) (filter p ws))
  at true rest = (r.0, rest)
  at false rest = rising_lower (w + 1) b (filter p ws) (let low = r.0 in omega (arith, low)) rest

covered_rise : (place len : ℕ) → IsRising 0 (covered_words place len)
unfolding covered_words
covered_rise place len = at (eqb len 0) where
  at : (b : Bool) → IsRising 0 (cond b [] (range_with_len (place / 8) ((place + len - 1) / 8 + 1 - place / 8)))
  at true = tt
  at false = rising_lower (place / 8) 0 (range_with_len (place / 8) ((place + len - 1) / 8 + 1 - place / 8)) (omega arith) (range_rises (place / 8) ((place + len - 1) / 8 + 1 - place / 8))

from_past : (o : ℕ × ℕ) (ws : List ℕ) → IsRising (o.0 + o.1) ws → ArePast o.0 (map span_in (records_from o ws))
unfolding records_from
from_past o [] r = (omega arith, tt)
from_past o (w ∷ ws) r = at (eqb w (o.0 + o.1)) refl (ltb o.1 4) (λ here. from_past (o.0, o.1 + 1) ws (rising_lower (w + 1) (o.0 + (o.1 + 1)) ws (omega (arith, here)) r.1)) (from_past (w, 1) ws r.1)
  where
    at : (b : Bool) → eqb w (o.0 + o.1) ≡ b → (c : Bool) → (w ≡ o.0 + o.1 → ArePast o.0 (map span_in (records_from (o.0, o.1 + 1) ws))) → ArePast w (map span_in (records_from (w, 1) ws))
        → ArePast o.0 (map span_in (cond (b && c) (records_from (o.0, o.1 + 1) ws) (o ∷ records_from (w, 1) ws)))
    at true e true joined apart = joined (eqb-true w (o.0 + o.1) e)
    at true e false joined apart = (omega arith, past_lower w (o.0 + o.1) (map span_in (records_from (w, 1) ws)) r.0 apart)
    at false e c joined apart = (omega arith, past_lower w (o.0 + o.1) (map span_in (records_from (w, 1) ws)) r.0 apart)

of_past : (ws : List ℕ) → IsRising 0 ws → ArePast 0 (map span_in (records_of ws))
unfolding records_of
of_past [] r = tt
of_past (w ∷ ws) r = past_lower w 0 (map span_in (records_from (w, 1) ws)) (omega arith) (from_past (w, 1) ws r.1)

pub plan_past : (records : List KeptRecord) (place len : ℕ) → ArePast 0 (plan_of records place len)
unfolding plan_of spans_for new_words
plan_past records place len = of_past (filter (λ w. not (is_among (words_in records) w)) (covered_words place len)) (filter_rises (λ w. not (is_among (words_in records) w)) 0 (covered_words place len) (covered_rise place len))
