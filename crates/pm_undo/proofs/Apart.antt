-- Records of spans that lie one after another have no common word.
use Rattle.std.proofs.Common.{◌≡◌, ℕ, zero, suc, ◌+◌, ◌<◌, ◌≤◌, true, false, List, [], ◌∷◌, ◌++◌, length, map, take, get_or, refl, sym, ap, ◌∙◌, subst, arith, Option, None, Some}
use Rattle.std.specs.List.{AllByRecursion}
use Rattle.std.proofs.lemmas.Bool.{both_ways, false_from_ne_true}
use Rattle.pm_layout.specs.declared.shape.Shape.{Shape}
use Rattle.pm_view.specs.Entries.{first_of_two}
use Rattle.pm_view.specs.Log.{Recorded, old_in, old_of}
use Rattle.pm_view.specs.Places.{Place, RootWord, place_after, distance, word_of}
use Rattle.pm_world.specs.States.{given}
use Rattle.pm_world.specs.Sights.{is_recorded}
use Rattle.pm_world.specs.Logs.{AreInRow}
use Rattle.pm_world.proofs.Recording.{old_in_at, place_is}
use Rattle.pm_undo.specs.Spans.{ArePast}
use Rattle.pm_undo.specs.Working.{AreOnce}
use Rattle.pm_undo.specs.declared.spans.Span.{Span}

-- the words of a record, by their numbers
abbrev pub span_of : Shape → Recorded → Span
span_of sh r = record { word = word_of sh r.place; count = length r.old }

-- a place that a record in a row has is one of its words
pub record At (sh : Shape) (r : Recorded) (p : Place) : Type 0 where
  pub i : ℕ
  pub low : i < length r.old
  pub word : word_of sh p ≡ word_of sh r.place + i

pub at_of : (sh : Shape) (r : Recorded) (p : Place) → AreInRow sh r → given (old_in r p) ≡ true
    → At sh r p
at_of sh r p row e = let t = old_in_at r p e in record {
  i = distance r.place p;
  low = t.1;
  word = sym (ap (word_of sh) (place_is r.place p t.0)) ∙ (row (distance r.place p) t.1).1;
}

neither : {A : Type 0} (a c : Option A) → given a ≡ false → given c ≡ false
    → given (first_of_two a c) ≡ false
neither None c e f = f
neither (Some y) c e f = e

pub not_in_both : (xs ys : List Recorded) (p : Place) → is_recorded xs p ≡ false
    → is_recorded ys p ≡ false → is_recorded (xs ++ ys) p ≡ false
not_in_both [] ys p e f = f
not_in_both (x ∷ xs) ys p e f = neither (old_in x p) (old_of (xs ++ ys) p)
    (parts (old_in x p) (old_of xs p) e).0
    (not_in_both xs ys p (parts (old_in x p) (old_of xs p) e).1 f)
  where
    parts : (a c : Option ℕ) → given (first_of_two a c) ≡ false → (given a ≡ false)
        × (given c ≡ false)
    parts None c e = (refl, e)
    parts (Some y) c e = absurd (both_ways true e refl)

-- where each of some records is of words that the first have not, none of the first is of theirs
pub apart_from : (xs ys : List Recorded) → AllByRecursion (λ (r : Recorded). (i : ℕ)
    → i < length r.old → is_recorded xs (place_after r.place i) ≡ false) ys → (p : Place)
    → is_recorded xs p ≡ true → is_recorded ys p ≡ false
apart_from xs [] all p e = refl
apart_from xs (y ∷ ys) all p e = neither (old_in y p) (old_of ys p)
    (false_from_ne_true (given (old_in y p)) (λ t. let a = old_in_at y p t in
    both_ways (is_recorded xs p) (subst (λ q. is_recorded xs q ≡ false) (place_is y.place p a.0)
    (all.0 (distance y.place p) a.1)) e)) (apart_from xs ys all.1 p e)

pub once_both : (xs ys : List Recorded) → AreOnce xs → AreOnce ys
    → ((p : Place) → is_recorded xs p ≡ true → is_recorded ys p ≡ false) → AreOnce (xs ++ ys)
once_both [] ys a b apart = b
once_both (x ∷ xs) ys a b apart = (
  λ p e. not_in_both xs ys p (a.0 p e)
      (apart p (Rattle.pm_world.proofs.Basics.first_given (old_in x p) (old_of xs p) e)),
  once_both xs ys a.1 b
      (λ p e. apart p (Rattle.pm_world.proofs.Basics.second_given (old_in x p) (old_of xs p) e)),
)

module _ (sh : Shape) where
  -- no word before b is in records of spans past it
  past_none : (b : ℕ) (records : List Recorded) → ArePast b (map (span_of sh) records)
      → AllByRecursion (AreInRow sh) records → (p : Place) → word_of sh p < b
      → is_recorded records p ≡ false
  past_none b [] past rows p low = refl
  past_none b (r ∷ records) past rows p low = neither (old_in r p) (old_of records p)
      (false_from_ne_true (given (old_in r p)) (λ t. let a = at_of sh r p rows.0 t in let w = a.word
      in let q = past.0 in omega (arith, w, q, low)))
      (past_none (word_of sh r.place + length r.old) records past.1 rows.1 p
      (let q = past.0 in omega (arith, low, q)))

  pub past_once : (b : ℕ) (records : List Recorded) → ArePast b (map (span_of sh) records)
      → AllByRecursion (AreInRow sh) records → AreOnce records
  past_once b [] past rows = tt
  past_once b (r ∷ records) past rows = (
    (λ p t. let a = at_of sh r p rows.0 t in let w = a.word in let l = a.low in
        past_none (word_of sh r.place + length r.old) records past.1 rows.1 p
        (omega (arith, w, l))),
    past_once (word_of sh r.place + length r.old) records past.1 rows.1,
  )

abbrev pub no_recorded : Recorded
no_recorded = record { place = RootWord; old = [] }

module _ (sh : Shape) where
  past_at : (b : ℕ) (records : List Recorded) (k : ℕ) → ArePast b (map (span_of sh) records)
      → k < length records → b ≤ word_of sh (get_or records k no_recorded).place
  past_at b [] k past low = absurd (omega (arith, low))
  past_at b (r ∷ records) zero past low = past.0
  past_at b (r ∷ records) (suc k) past low = let rest = past_at (word_of sh r.place + length r.old)
      records k past.1 (omega (arith, low)) in let q = past.0 in omega (arith, rest, q)

  -- no word of a record is in those before it
  pub early_none : (b : ℕ) (records : List Recorded) (k : ℕ) → ArePast b (map (span_of sh) records)
      → AllByRecursion (AreInRow sh) records → k < length records → (p : Place)
      → word_of sh (get_or records k no_recorded).place ≤ word_of sh p
      → is_recorded (take k records) p ≡ false
  early_none b [] k past rows low p from = absurd (omega (arith, low))
  early_none b (r ∷ records) zero past rows low p from = refl
  early_none b (r ∷ records) (suc k) past rows low p from = neither (old_in r p)
      (old_of (take k records) p)
      (false_from_ne_true (given (old_in r p)) (λ t. let a = at_of sh r p rows.0 t in let w = a.word
      in let l = a.low in
      let q = past_at (word_of sh r.place + length r.old) records k past.1 (omega (arith, low)) in
      omega (arith, w, l, q, from)))
      (early_none (word_of sh r.place + length r.old) records k past.1 rows.1 (omega (arith, low)) p
      from)
