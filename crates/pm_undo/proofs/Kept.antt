-- What is read of spans is what the lane knows of them.
use Rattle.std.proofs.Common.{◌≡◌, ℕ, zero, suc, ◌+◌, ◌<◌, ◌≤◌, List, [], ◌∷◌, ◌++◌, length, map, take, refl, sym, ap, ◌∙◌, subst, arith, Option}
use Rattle.std.specs.Prelude.{unwrap_or}
use Rattle.std.specs.List.{AllByRecursion, range_with_len}
use Rattle.std.proofs.lemmas.List.{map-append, take_all, take_more}
use Rattle.std.proofs.lemmas.List.FromFn.{map-range_with_len_more}
use Rattle.pm_view.specs.View.{View}
use Rattle.pm_view.specs.Views.{after_all}
use Rattle.pm_world.specs.Lawful.{CanRecord}
use Rattle.pm_world.specs.LaneFields.{padded}
use Rattle.pm_undo.specs.declared.spans.Span.{Span}
use Rattle.pm_world.proofs.PlacesAt.{is_at}
use Rattle.pm_plan.specs.Plans.{known_word}
use Rattle.pm_undo.specs.Plans.{looked_first, looked_span, looked_words, looks_first, looks_from}
use Rattle.pm_undo.specs.Records.{kept_in, recorded_in}
use Rattle.pm_undo.specs.Spans.{no_span, span_at}
use Rattle.pm_plan.specs.Notes.{IsBeyond}
use Rattle.pm_undo.specs.Working.{IsWorking}
use Rattle.pm_world.specs.declared.lane.KeptRecord.{KeptRecord}
use Rattle.pm_plan.proofs.AreaParts.{data_beyond}
use Rattle.pm_undo.proofs.Logging.{beyond_slots, knows_so}
use Rattle.pm_undo.proofs.Snapshotted.{at_index, looks_so}
use Rattle.pm_undo.proofs.Snapshotting.{HasClean, clean_start, looks_firsts, looks_some}

module _ (v : View) (working : IsWorking v) where
  module _ (s : Span) (can : CanRecord v (recorded_in v s)) (u : View) (clean : HasClean v working v.log.records u) where
    words_known : (m : ℕ) → m ≤ s.count → looked_words s.word m u ≡ map (known_word v) (range_with_len s.word m)
    unfolding looked_words
    words_known zero most = refl
    words_known (suc m) most =
        let less : m < s.count = omega (arith, most) in
        let l = looks_so v s can m less in
        let far : IsBeyond v.fixed.shape (s.word + m) = subst (IsBeyond v.fixed.shape) (is_at v.fixed.shape (Rattle.pm_view.specs.Claims.class v.claims) (s.word + m) l.place l.at).word (data_beyond v.fixed.shape l.place l.plain) in
        let t = looks_some v working s can m (omega (arith, less)) u clean in
        ap (λ ws. ws ++ known_word (after_all u (looks_from s.word m u)) (s.word + m) ∷ []) (words_known m (omega (arith, less)))
        ∙ (ap (λ x. map (known_word v) (range_with_len s.word m) ++ x ∷ []) (ap (λ (o : Option ℕ). unwrap_or o 0) (knows_so t.1.0 (s.word + m) (beyond_slots v working (s.word + m) far)))
        ∙ (sym (map-range_with_len_more (known_word v) s.word m (s.word + m) refl) ∙ ap (λ n. map (known_word v) (range_with_len s.word n)) (let e : m + 1 ≡ suc m = omega arith in e)))

    pub span_known : looked_span s u ≡ kept_in v s
    span_known = ap (λ ws. kept (padded ws)) (words_known s.count (omega arith))
      where
        kept : List ℕ → KeptRecord
        kept old = record { word = s.word; count = s.count; old = old }

  module _ (spans : List Span) (can : AllByRecursion (λ (s : Span). CanRecord v (recorded_in v s)) spans) where
    first_known : (n : ℕ) → n ≤ length spans → looked_first spans n v ≡ map (kept_in v) (take n spans)
    unfolding looked_first
    first_known zero most = refl
    first_known (suc n) most =
        let low : n < length spans = omega (arith, most) in
        let clean = (looks_firsts v working spans can n (omega (arith, low)) v (clean_start v working)).1 in
        ap (λ l. l ++ looked_span (span_at spans n) (after_all v (looks_first spans n v)) ∷ []) (first_known n (omega (arith, low)))
        ∙ (ap (λ k. map (kept_in v) (take n spans) ++ k ∷ []) (span_known (span_at spans n) (at_index (λ (s : Span). CanRecord v (recorded_in v s)) spans no_span n can low) (after_all v (looks_first spans n v)) clean)
        ∙ (sym (map-append (kept_in v) (take n spans) (span_at spans n ∷ [])) ∙ ap (map (kept_in v)) (sym (take_more spans n no_span low) ∙ ap (λ m. take m spans) (let e : n + 1 ≡ suc n = omega arith in e))))

    pub all_known : looked_first spans (length spans) v ≡ map (kept_in v) spans
    all_known = first_known (length spans) (omega arith) ∙ ap (map (kept_in v)) (take_all (length spans) spans (omega arith))
