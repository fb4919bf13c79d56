-- The records that a range still needs are of its words, as the lane has them.
use Rattle.std.proofs.Common.{◌≡◌, ℕ, ◌+◌, ◌<◌, true, Contains, List, [], ◌∷◌, ◌++◌, length, map, slice_index, slice_index_or, refl, sym, ap, ◌∙◌, subst, arith}
use Rattle.std.specs.List.{range_with_len}
use Rattle.std.proofs.lemmas.List.{get_or-map, length-map}
use Rattle.std.proofs.lemmas.List.FromFn.{length-map-range_with_len, get_or-map-range_with_len}
use Rattle.std.proofs.lemmas.List.Folds.{list_any_at}
use Rattle.solo_crash.proofs.NewRecords.{new_is_covered}
use Rattle.solo_crash.specs.OpenCall.{words_recorded}
use Rattle.solo_crash.specs.Operations.{IsPresent, extent}
use Rattle.solo_model.specs.Bytes.{covered_words, new_words, records_of}
use Rattle.solo_view.specs.Log.{Recorded}
use Rattle.solo_view.specs.View.{View}
use Rattle.solo_undo.proofs.Kept.{covers_own}
use Rattle.solo_undo.specs.Sequences.{no_span, recorded_in}
use Rattle.solo_undo.specs.Spans.{plan_of, span_in, spans_for, words_in}
use Rattle.solo_world.specs.Lanes.{span_of}
use Rattle.solo_world.specs.Records.{covers, is_recorded}
use Rattle.solo_world.specs.declared.lane.Span.{Span}

-- a span's record is of the span
pub spans_again : (v : View) (spans : List Span) → map span_of (map (recorded_in v) spans) ≡ spans
spans_again v [] = refl
spans_again v (s ∷ spans) =
    ap (λ n. record { word = s.word; count = n } ∷ map span_of (map (recorded_in v) spans)) (length-map-range_with_len (slice_index v.words) s.word s.count) ∙ ap (λ (l : List Span). s ∷ l) (spans_again v spans)

pub words_same : (records : List Recorded) → words_in (map span_of records) ≡ words_recorded records
unfolding words_in
words_same [] = refl
words_same (r ∷ records) = ap (λ (l : List ℕ). range_with_len r.word (length r.old) ++ l) (words_same records)

extents_again : (v : View) (rs : List (ℕ × ℕ)) → map extent (map (recorded_in v) (map span_in rs)) ≡ rs
extents_again v [] = refl
extents_again v (r ∷ rs) =
    ap (λ n. (r.0, n) ∷ map extent (map (recorded_in v) (map span_in rs))) (length-map-range_with_len (slice_index v.words) r.0 r.1) ∙ ap (λ (l : List (ℕ × ℕ)). r ∷ l) (extents_again v rs)

-- a record of these spans is that of one of them
of_span : (v : View) (spans : List Span) (r : Recorded) → Contains (map (recorded_in v) spans) r → (s : Span) × (recorded_in v s ≡ r)
of_span v spans r there =
    (slice_index_or spans there.0 no_span, sym (get_or-map (recorded_in v) spans there.0 no_span r (let low = there.1 in let n = length-map spans (recorded_in v) in omega (arith, low, n))) ∙ there.2)

among : (records : List Recorded) (r : Recorded) (w : ℕ) → Contains records r → covers r w ≡ true → is_recorded records w ≡ true
among records r w there is = list_any_at (λ (q : Recorded). covers q w) records there.0 r there.1 (ap (λ (q : Recorded). covers q w) there.2 ∙ is)

module _ (v : View) (place len : ℕ) where
  pub extents_planned : map extent (map (recorded_in v) (plan_of (map span_of v.log.records) place len)) ≡ records_of (new_words (words_recorded v.log.records) (covered_words place len))
  unfolding plan_of spans_for
  extents_planned =
      extents_again v (records_of (new_words (words_in (map span_of v.log.records)) (covered_words place len)))
      ∙ ap (λ (ws : List ℕ). records_of (new_words ws (covered_words place len))) (words_same v.log.records)

  pub present_planned : ((i : ℕ) → Contains (covered_words place len) i → Contains v.known i) → (r : Recorded) → Contains (map (recorded_in v) (plan_of (map span_of v.log.records) place len)) r → IsPresent v r
  present_planned known r there =
      let of = of_span v (plan_of (map span_of v.log.records) place len) r there in
      record {
        known = λ i low. known (r.word + i)
            (new_is_covered (map (recorded_in v) (plan_of (map span_of v.log.records) place len)) (words_recorded v.log.records) (covered_words place len) (r.word + i) extents_planned
            (among (map (recorded_in v) (plan_of (map span_of v.log.records) place len)) r (r.word + i) there (covers_own r i low)));
        value = subst (λ (q : Recorded). (i : ℕ) → i < length q.old → slice_index q.old i ≡ slice_index v.words (q.word + i)) of.1
            (λ i low. get_or-map-range_with_len (slice_index v.words) of.0.word of.0.count i (of.0.word + i) 0
            (let n = length-map-range_with_len (slice_index v.words) of.0.word of.0.count in omega (arith, low, n)) refl);
      }

-- they are as many as the model counts
pub planned_count : (records : List Recorded) (place len : ℕ) → length (plan_of (map span_of records) place len) ≡ length (records_of (new_words (words_recorded records) (covered_words place len)))
unfolding plan_of spans_for
planned_count records place len =
    length-map (records_of (new_words (words_in (map span_of records)) (covered_words place len))) span_in ∙ ap (λ (ws : List ℕ). length (records_of (new_words ws (covered_words place len)))) (words_same records)
