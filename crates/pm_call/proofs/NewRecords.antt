-- WHAT NEW RECORDS ARE OF: each recorded place is a word of the range, with the value that the lane knows.
use Rattle.std.specs.Prelude.{slice_index}
use Rattle.std.proofs.Common.{◌≡◌, ℕ, zero, suc, ◌+◌, nat_lt, Bool, true, false, cond, eqb, ltb, ◌&&◌, List, [], ◌∷◌, ◌++◌, length, length-append, map, refl, sym, ap, ◌∙◌, subst, arith, Option, None, Some}
use Rattle.std.specs.List.{AllByRecursion, flat_map, range_with_len}
use Rattle.std.proofs.lemmas.Bool.{and_from, both_ways, cond-true, eqb-true, lt-ltb}
use Rattle.std.proofs.lemmas.Grind.{flat_map-append}
use Rattle.std.proofs.lemmas.List.{append_assoc, length-map, map-append}
use Rattle.pm_model.specs.Transaction.{covered_words, new_words, records_from, records_of}
use Rattle.pm_view.specs.Entries.{first_of_two}
use Rattle.pm_view.specs.Log.{Recorded, old_in, old_of}
use Rattle.pm_view.specs.Places.{Place, distance, is_after, place_after, word_of}
use Rattle.pm_view.specs.View.{View}
use Rattle.pm_world.specs.LaneFields.{kept_of}
use Rattle.pm_world.specs.Lawful.{CanRecord, CanRecordAt}
use Rattle.pm_world.specs.Sights.{is_recorded}
use Rattle.pm_world.specs.States.{given}
use Rattle.pm_world.specs.declared.lane.KeptRecord.{KeptRecord}
use Rattle.pm_world.proofs.Recording.{old_in_at, place_is}
use Rattle.pm_undo.specs.Records.{kept_by, kept_in, recorded_in}
use Rattle.pm_undo.specs.Spans.{plan_of, span_in, spans_for, words_in}
use Rattle.pm_undo.specs.declared.spans.Span.{Span}
use Rattle.pm_undo.proofs.Fitting.{AreAll}
use Rattle.pm_undo.proofs.Snapshotted.{all_kept, count_so, word_so}

-- ---- more records

first_given_of : {A : Type 0} (a b c : Option A) → first_of_two (first_of_two a b) c ≡ first_of_two a (first_of_two b c)
first_given_of None b c = refl
first_given_of (Some x) b c = refl

pub old_of_both : (rs more : List Recorded) (p : Place) → old_of (rs ++ more) p ≡ first_of_two (old_of rs p) (old_of more p)
old_of_both [] more p = refl
old_of_both (r ∷ rs) more p = ap (first_of_two (old_in r p)) (old_of_both rs more p) ∙ sym (first_given_of (old_in r p) (old_of rs p) (old_of more p))

-- ---- a place that new records have

pub record IsNewPlace (v : View) (Q : ℕ → Type 0) (records : List Recorded) (p : Place) : Type 0 where
  pub asked : Q (word_of v.fixed.shape p)
  pub old : ℕ
  pub is : old_of records p ≡ Some old
  pub can : CanRecordAt v p old

module _ (v : View) (Q : ℕ → Type 0) where
  in_one : (s : Span) → CanRecord v (recorded_in v s) → AreAll Q s → (p : Place) → given (old_in (recorded_in v s) p) ≡ true
      → (x : ℕ) × (old_in (recorded_in v s) p ≡ Some x) × Q (word_of v.fixed.shape p) × CanRecordAt v p x
  in_one s can all p e =
      let r : Recorded = recorded_in v s in
      let t = old_in_at r p e in
      let i : ℕ = distance r.place p in
      let same : place_after r.place i ≡ p = place_is r.place p t.0 in
      let word : word_of v.fixed.shape p ≡ s.word + i = sym (ap (word_of v.fixed.shape) same) ∙ ((can.row i t.1).1 ∙ ap (λ n. n + i) (word_so v s can)) in (
        slice_index r.old i,
        cond-true (is_after r.place p && nat_lt (distance r.place p) (length r.old)) (Some (slice_index r.old (distance r.place p))) None
            (and_from (is_after r.place p) (nat_lt (distance r.place p) (length r.old)) t.0 (lt-ltb (distance r.place p) (length r.old) t.1)),
        subst Q (sym word) (all.each i (let c = count_so v s can in let l = t.1 in omega (arith, c, l))),
        subst (λ q. CanRecordAt v q (slice_index r.old i)) same (can.each i t.1),
      )

  pub new_place : (spans : List Span) → AllByRecursion (λ (s : Span). CanRecord v (recorded_in v s)) spans → AllByRecursion (AreAll Q) spans → (p : Place) → is_recorded (map (recorded_in v) spans) p ≡ true → IsNewPlace v Q (map (recorded_in v) spans) p
  new_place [] can all p e = absurd (both_ways false refl e)
  new_place (s ∷ spans) can all p e = go (given (old_in (recorded_in v s) p)) refl (new_place spans can.1 all.1 p)
    where
      second_is : (a b : Option ℕ) → given a ≡ false → first_of_two a b ≡ b
      second_is None b e = refl
      second_is (Some y) b e = absurd (both_ways true e refl)

      go : (g : Bool) → given (old_in (recorded_in v s) p) ≡ g → (is_recorded (map (recorded_in v) spans) p ≡ true → IsNewPlace v Q (map (recorded_in v) spans) p) → IsNewPlace v Q (map (recorded_in v) (s ∷ spans)) p
      go true g later = let t = in_one s can.0 all.0 p g in record { asked = t.2; old = t.0; is = ap (λ o. first_of_two o (old_of (map (recorded_in v) spans) p)) t.1; can = t.3 }
      go false g later = let rest = second_is (old_in (recorded_in v s) p) (old_of (map (recorded_in v) spans) p) g in
          let n = later (ap given (sym rest) ∙ e) in record { asked = n.asked; old = n.old; is = rest ∙ n.is; can = n.can }

-- ---- the words of the records of some words are these words

range_more : (a n : ℕ) → range_with_len a (n + 1) ≡ range_with_len a n ++ (a + n) ∷ []
range_more a zero = ap (λ n. n ∷ []) (let e : a ≡ a + 0 = omega arith in e)
range_more a (suc n) = ap (range_with_len a) (let e : suc n + 1 ≡ suc (n + 1) = omega arith in e) ∙ ap (λ l. a ∷ l) (range_more (a + 1) n ∙ ap (λ k. range_with_len (a + 1) n ++ k ∷ []) (let e : a + 1 + n ≡ a + suc n = omega arith in e))

abbrev words_of : List (ℕ × ℕ) → List ℕ
words_of rs = flat_map (λ (r : ℕ × ℕ). range_with_len r.0 r.1) rs

words_from : (o : ℕ × ℕ) (ws : List ℕ) → words_of (records_from o ws) ≡ range_with_len o.0 o.1 ++ ws
unfolding records_from
words_from o [] = refl
words_from o (w ∷ ws) = go (eqb w (o.0 + o.1)) refl (ltb o.1 4) (words_from (o.0, o.1 + 1) ws) (words_from (w, 1) ws)
  where
    go : (b : Bool) → eqb w (o.0 + o.1) ≡ b → (c : Bool) → words_of (records_from (o.0, o.1 + 1) ws) ≡ range_with_len o.0 (o.1 + 1) ++ ws → words_of (records_from (w, 1) ws) ≡ w ∷ ws
        → words_of (cond (b && c) (records_from (o.0, o.1 + 1) ws) (o ∷ records_from (w, 1) ws)) ≡ range_with_len o.0 o.1 ++ w ∷ ws
    go true e true joined apart = joined ∙ (ap (λ l. l ++ ws) (range_more o.0 o.1) ∙ (append_assoc (range_with_len o.0 o.1) ((o.0 + o.1) ∷ []) ws ∙ ap (λ n. range_with_len o.0 o.1 ++ n ∷ ws) (sym (eqb-true w (o.0 + o.1) e))))
    go true e false joined apart = ap (λ l. range_with_len o.0 o.1 ++ l) apart
    go false e c joined apart = ap (λ l. range_with_len o.0 o.1 ++ l) apart

words_again : (ws : List ℕ) → words_of (records_of ws) ≡ ws
unfolding records_of
words_again [] = refl
words_again (w ∷ ws) = words_from (w, 1) ws

kept_words : (v : View) (rs : List (ℕ × ℕ)) → words_in (map (kept_in v) (map span_in rs)) ≡ words_of rs
unfolding words_in
kept_words v [] = refl
kept_words v (r ∷ rs) = ap (λ l. range_with_len r.0 r.1 ++ l) (kept_words v rs)

words_both : (xs ys : List KeptRecord) → words_in (xs ++ ys) ≡ words_in xs ++ words_in ys
unfolding words_in
words_both xs ys = flat_map-append (λ (r : KeptRecord). range_with_len r.word r.count) xs ys

words_planned : (v : View) (place len : ℕ) → words_in (map (kept_in v) (plan_of (kept_by v) place len)) ≡ new_words (words_in (kept_by v)) (covered_words place len)
unfolding plan_of spans_for
words_planned v place len = let ws : List ℕ = new_words (words_in (kept_by v)) (covered_words place len) in kept_words v (records_of ws) ∙ words_again ws

-- THE WORDS RECORDED once a range has its records
pub words_recorded : (v : View) (place len : ℕ) → AllByRecursion (λ (s : Span). CanRecord v (recorded_in v s)) (plan_of (kept_by v) place len)
    → words_in (map (kept_of v.fixed.shape) (v.log.records ++ map (recorded_in v) (plan_of (kept_by v) place len)))
    ≡ words_in (kept_by v) ++ new_words (words_in (kept_by v)) (covered_words place len)
words_recorded v place len can = let spans : List Span = plan_of (kept_by v) place len in
    ap words_in (map-append (kept_of v.fixed.shape) v.log.records (map (recorded_in v) spans) ∙ ap (λ ks. kept_by v ++ ks) (sym (all_kept v spans can)))
    ∙ (words_both (kept_by v) (map (kept_in v) spans) ∙ ap (λ l. words_in (kept_by v) ++ l) (words_planned v place len))

-- and how many records there are
pub records_more : (v : View) (place len : ℕ) → length (v.log.records ++ map (recorded_in v) (plan_of (kept_by v) place len)) ≡ length v.log.records + length (records_of (new_words (words_in (kept_by v)) (covered_words place len)))
unfolding plan_of spans_for
records_more v place len = let rs : List (ℕ × ℕ) = records_of (new_words (words_in (kept_by v)) (covered_words place len)) in
    length-append v.log.records (map (recorded_in v) (map span_in rs)) ∙ ap (λ n. length v.log.records + n) (length-map (map span_in rs) (recorded_in v) ∙ length-map rs span_in)
